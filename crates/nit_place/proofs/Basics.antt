-- What lemmas use: the words of clauses, the library's lemmas, and those of the crates below.
pub use Rattle.nit_place.specs.Terms.{AllPairs, Any, IfSome, IsApart, IsAtEdges, IsBefore}
pub use Rattle.nit_place.specs.Terms.{IsBlocking, IsEdge, IsFree, IsFull, IsLeast, IsLeastFree}
pub use Rattle.nit_place.specs.Terms.{IsLeastInRow, IsLeastPlace, IsNumberOf, IsSearched, NoPair}
pub use Rattle.nit_place.specs.Terms.{Point, Rectangle, ScreenPart, SlotView, View, ViewRef}
pub use Rattle.nit_place.specs.Terms.{area_of, before_first, bottom_of, covers, fits, flat_map}
pub use Rattle.nit_place.specs.Terms.{fresh, fresh_in, further, int_le, int_lt, is_owner, is_slot}
pub use Rattle.nit_place.specs.Terms.{is_view, label_place, list_all, meets, nearer, negsuc}
pub use Rattle.nit_place.specs.Terms.{on_screen, option_map, option_or, owner, owns, part_at}
pub use Rattle.nit_place.specs.Terms.{part_of, point, pos, position_or_len, range_with_len}
pub use Rattle.nit_place.specs.Terms.{rectangle, right_of, same_name, slice_get, slot_view_in}
pub use Rattle.nit_place.specs.Terms.{view_ref, views_of, ℤ}
pub use Rattle.nit_stack.proofs.ForCallers.{find-map}
pub use Rattle.std.proofs.Common.{sym, ◌∙◌}
pub use Rattle.std.proofs.lemmas.Bool.{and_parts, cases_cond, cases_lt, false_from_ne_true, le-leb}
pub use Rattle.std.proofs.lemmas.Bool.{le-ltb, lt-ltb}
pub use Rattle.std.proofs.lemmas.Bool.Decides.{nat_tests}
pub use Rattle.std.proofs.lemmas.List.{get_or-map, get_or-take, get_or_default, length-map}
pub use Rattle.std.proofs.lemmas.List.{length-take-le}
pub use Rattle.std.proofs.lemmas.List.Folds.{find-append, find_at, list_all-append, list_all-map}
pub use Rattle.std.proofs.lemmas.List.Folds.{list_any_at}
pub use Rattle.std.proofs.lemmas.List.Sums.{fails_before_first, passes_at_first, position_or_len_is}
pub use Rattle.std.proofs.lemmas.Option.{get_or_from_slice_get, slice_get-get_or, slice_get-map}
pub use Rattle.std.proofs.lemmas.Option.{slice_get_past, slice_get_within}
