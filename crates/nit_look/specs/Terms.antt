-- The words that clauses use: those that come from outside, and those of this crate.
pub use Rattle.nit_look.specs.Area.{HasPlaces, IsAreaOf, areas_meet, around, has_place}
pub use Rattle.nit_look.specs.Area.{is_area_within}
pub use Rattle.nit_look.specs.Area.{rectangle_over}
pub use Rattle.nit_look.specs.Below.{All, Area, Edges, IsSomeAnd, None, Span, drop, list_any}
pub use Rattle.nit_look.specs.Below.{most_height, most_width, pos, slice_index, take}
pub use Rattle.nit_look.specs.Copy.{IsMerged, is_in_rows, is_in_span}
pub use Rattle.nit_look.specs.Edges.{AreEdges, Bound, DiffersWhere, IsBetween, picture_row}
pub use Rattle.nit_look.specs.Edges.{rectangle_between}
pub use Rattle.nit_look.specs.Joining.{IsApartFrom, IsJoined}
pub use Rattle.nit_look.specs.Look.{AgreeIn, AgreeOutside, CoversChange, IsTouched, LiesOn}
pub use Rattle.nit_look.specs.Look.{place_at}
pub use Rattle.nit_look.specs.Parts.{AreParts, AreWithin, IsAreaAdded, areas_over, has_any}
pub use Rattle.nit_look.specs.Parts.{most_parts}
pub use Rattle.nit_look.specs.Putting.{IsPartPut, area_height, area_width, has_room}
pub use Rattle.nit_look.specs.Span.{Differs, IsSpan, Spans}
