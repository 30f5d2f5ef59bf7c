-- What answers use: all that lemmas use, and this crate's lemmas.
pub use Rattle.nit_look.proofs.Added.{added_inside, added_last, added_none, added_parts, apart_from}
pub use Rattle.nit_look.proofs.Added.{joined_more, joined_one, met_not_apart, read_at}
pub use Rattle.nit_look.proofs.Around.{one_more_in, one_more_on}
pub use Rattle.nit_look.proofs.Basics.{AgreeIn, AreEdges, AreParts, CoversChange, HasPlaces}
pub use Rattle.nit_look.proofs.Basics.{IsApartFrom, IsAreaOf, IsJoined, IsMerged, IsTouched, LiesOn}
pub use Rattle.nit_look.proofs.Basics.{None, Some, arith, around, drop, has_any, has_place, ints}
pub use Rattle.nit_look.proofs.Basics.{is_in_rows, is_area_within, length-drop, length-take, list_any}
pub use Rattle.nit_look.proofs.Basics.{areas_meet, mul_comm, refl, row_fits, ◌∙◌}
pub use Rattle.nit_look.proofs.Copied.{IsCopied, all_edges, copied_in, kept_outside, none_differs}
pub use Rattle.nit_look.proofs.Copied.{shown_between, whole_frame}
pub use Rattle.nit_look.proofs.Merging.{part_copied, row_merged, span_shifted}
pub use Rattle.nit_look.proofs.Patches.{copied_more, nothing_yet}
pub use Rattle.nit_look.proofs.Rectangles.{bottom_below, covers_change, holds_of_it, lies_on}
pub use Rattle.nit_look.proofs.Rectangles.{touched}
pub use Rattle.nit_look.proofs.Rows.{first_found, more_found, nothing_more}
pub use Rattle.nit_look.proofs.RowsPut.{kept_more, put_more, row_of, row_within, rows_at_once}
pub use Rattle.nit_look.proofs.RowsPut.{rows_fit}
