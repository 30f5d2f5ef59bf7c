-- What answers use: all that lemmas use, and this crate's lemmas.
pub use Rattle.nit_slots.proofs.Basics.{YieldsList-from_range, ap, arith, filter_same}
pub use Rattle.nit_slots.proofs.Basics.{items_from_collect, length, length-range_with_len, refl}
pub use Rattle.nit_slots.proofs.FreeLists.{all_free, free_at_first, free_front, free_push}
pub use Rattle.nit_slots.proofs.FreeLists.{last_below, last_not_taken, length_taken_less, occupied}
pub use Rattle.nit_slots.proofs.FreeLists.{taken_apart, taken_less, taken_more}
pub use Rattle.nit_slots.proofs.HandleLists.{IsTable-without, Rises-push, held_found, last_greatest}
pub use Rattle.nit_slots.proofs.HandleLists.{last_held, length-without_handle, next_not_held}
pub use Rattle.nit_slots.proofs.HandleLists.{none_held}
