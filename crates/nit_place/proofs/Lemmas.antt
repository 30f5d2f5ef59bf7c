-- What answers use: all that lemmas use, and this crate's lemmas.
pub use Rattle.nit_place.proofs.Basics.{IsBlocking, SlotView, ViewRef, fresh_in, is_slot, nat_tests}
pub use Rattle.nit_place.proofs.Basics.{part_at, position_or_len_is, slice_get, sym, view_ref}
pub use Rattle.nit_place.proofs.Basics.{views_of, ◌∙◌}
pub use Rattle.nit_place.proofs.LabelPlaces.{label_found}
pub use Rattle.nit_place.proofs.Mapped.{mapped_place}
pub use Rattle.nit_place.proofs.Screen.{apart, fits_within, least_only, place_least}
pub use Rattle.nit_place.proofs.SearchLemmas.{RowSoFar, RowsSoFar, block_step, clear_step}
pub use Rattle.nit_place.proofs.SearchLemmas.{row_clear, row_end, row_jump, rows_below, rows_end}
pub use Rattle.nit_place.proofs.SearchLemmas.{rows_jump}
