-- What lemmas use: the words of clauses, the library's lemmas, and those of the crates below.
pub use Rattle.nit_look.specs.Terms.{AgreeIn, AgreeOutside, All, AreEdges, AreParts, Area, Bound}
pub use Rattle.nit_look.specs.Terms.{CoversChange, Differs, DiffersWhere, Edges, HasPlaces, IsAreaAdded}
pub use Rattle.nit_look.specs.Terms.{IsApartFrom, IsAreaOf, IsBetween, IsJoined, IsMerged, IsPartPut}
pub use Rattle.nit_look.specs.Terms.{IsSomeAnd, IsSpan, IsTouched, LiesOn, None, Span, Spans}
pub use Rattle.nit_look.specs.Terms.{around, drop, has_any, has_place, area_height, has_room, is_in_rows}
pub use Rattle.nit_look.specs.Terms.{is_in_span, is_area_within, list_any, areas_meet, most_parts}
pub use Rattle.nit_look.specs.Terms.{picture_row, place_at, pos, rectangle_between, slice_index}
pub use Rattle.nit_look.specs.Terms.{take, areas_over, area_width}
pub use Rattle.std.proofs.Common.{Bool, IfSome, List, Option, Some, ap, arith, cond, false, inl}
pub use Rattle.std.proofs.Common.{inr, length, max, min, mul_comm, refl, ◌∙◌}
pub use Rattle.std.proofs.Math.Nat.{le-div_iff_mul-le, mul-sub}
pub use Rattle.std.proofs.lemmas.Bool.{cases_Bool, cases_eq, cases_lt, false≢true}
pub use Rattle.std.proofs.lemmas.Bool.Decides.{nat_tests}
pub use Rattle.std.proofs.lemmas.Int.{ints}
pub use Rattle.std.proofs.lemmas.List.{ext_get_or, get_or_past, length-append, length-drop}
pub use Rattle.std.proofs.lemmas.List.{length-take, places}
pub use Rattle.std.proofs.lemmas.List.Edits.{length-remove}
pub use Rattle.std.proofs.lemmas.List.Elements.{All-append, All-drop, All-get_or, All-push}
pub use Rattle.std.proofs.lemmas.List.Elements.{All-take}
pub use Rattle.std.proofs.lemmas.List.Sums.{get_or-le-sum_by, sum_by-cons, sum_by-remove}
pub use Rattle.std.proofs.lemmas.List.Sums.{sum_by_more, sum_by_push}
pub use Rattle.std.proofs.lemmas.Nat.{div-add-mod', div-mul-add, div_below, mod-mul-add, mod_below, mul-le}
pub use Rattle.std.proofs.lemmas.Nat.{row_fits}
