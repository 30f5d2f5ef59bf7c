-- The words that clauses use: those that come from outside, and those of this crate.
pub use Rattle.nit_place.specs.Below.{AllPairs, Any, IfSome, IsApart, IsLeastPlace, IsStack, NoPair}
pub use Rattle.nit_place.specs.Below.{Point, Rectangle, ScreenPart, SlotView, View, ViewRef}
pub use Rattle.nit_place.specs.Below.{before_first, covers, fits, flat_map, fresh, fresh_in}
pub use Rattle.nit_place.specs.Below.{has_slot, int_le, int_lt, is_owner, is_slot, is_view}
pub use Rattle.nit_place.specs.Below.{label_place, list_all, most_edge, most_tag, negsuc}
pub use Rattle.nit_place.specs.Below.{option_map, option_or, owner, owns, point, pos}
pub use Rattle.nit_place.specs.Below.{position_or_len, range_with_len, rectangle, same_name}
pub use Rattle.nit_place.specs.Below.{slice_get, slot_view_in, view_ref, views_of, ℤ}
pub use Rattle.nit_place.specs.Edges.{IsAtEdges, IsWithinScreen, bottom_of, on_screen, right_of}
pub use Rattle.nit_place.specs.FreePlaces.{IsBlocking, IsEdge, IsFree, IsFull, IsLeastFree}
pub use Rattle.nit_place.specs.FreePlaces.{IsLeastInRow, IsRowSearched, IsSearched, further, meets}
pub use Rattle.nit_place.specs.FreePlaces.{nearer}
pub use Rattle.nit_place.specs.LeastPlace.{IsBefore, IsLeast}
pub use Rattle.nit_place.specs.OwnerMap.{IsNumberOf}
pub use Rattle.nit_place.specs.Part.{area_of, part_at, part_of}
