-- What answers use: all that lemmas use, and this crate's lemmas.
pub use Rattle.nit_pixels.proofs.Basics.{[], ap, arith, length, length-zeros, new_sight}
pub use Rattle.nit_pixels.proofs.Basics.{reader_view, rules, table_size, take-replicate, told_words}
pub use Rattle.nit_pixels.proofs.Basics.{◌∙◌}
pub use Rattle.nit_pixels.proofs.Views.{first_owns, first_sight, first_zero, loads_keep, opens}
pub use Rattle.nit_pixels.proofs.Views.{splits_keep, stores_keep, tells_words}
pub use Rattle.nit_pixels.proofs.WatchLemmas.{begins_keep, ends_keep, lays_down_keep, takes_up_keep}
