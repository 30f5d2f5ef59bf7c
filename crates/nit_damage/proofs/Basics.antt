-- What lemmas use: the words of clauses, the library's lemmas, and those of the crates below.
pub use Rattle.nit_damage.specs.Terms.{CoversBoth, CutterModel, Edges, FitsJobs, FitsStack}
pub use Rattle.nit_damage.specs.Terms.{HasPixels, IfSome, IsApart, IsCut, IsCutStep, IsDivided}
pub use Rattle.nit_damage.specs.Terms.{IsJob, IsOnScreen, IsPieceOf, IsScreenRectangle}
pub use Rattle.nit_damage.specs.Terms.{IsScreenSize, IsSkip, IsStack, IsTrue, Job, LiesIn}
pub use Rattle.nit_damage.specs.Terms.{MatchOption, NoPair, Piece, Point, Rectangle, SlotView}
pub use Rattle.nit_damage.specs.Terms.{StackModel, Strips, ViewRef, bar_part, begun_cutter, covered}
pub use Rattle.nit_damage.specs.Terms.{covers, has_slot, in_bar, in_front_of, is_behind, is_of_gone}
pub use Rattle.nit_damage.specs.Terms.{is_of_moved, is_owned, is_slot, job_at, job_to_come}
pub use Rattle.nit_damage.specs.Terms.{jobs_to_come, once, option_map, option_map_or, owner_in}
pub use Rattle.nit_damage.specs.Terms.{part_below_bar, piece_times, pieces_left, place_of, point}
pub use Rattle.nit_damage.specs.Terms.{position_or_len, rectangle, rectangle_of, same_slot}
pub use Rattle.nit_damage.specs.Terms.{slice_get, slot_view_covers, slot_view_in, spans, times}
pub use Rattle.nit_damage.specs.Terms.{times_all, times_among, to_come, view_ref, weight, weight_of}
pub use Rattle.nit_damage.specs.Terms.{with_pixels}
pub use Rattle.nit_rect.proofs.ForCallers.{covers_none, no_pixels, pixels_of, within}
pub use Rattle.nit_rect.proofs.Spans.{times_round}
pub use Rattle.nit_stack.proofs.ForCallers.{found_fails, slot_at}
pub use Rattle.std.proofs.Common.{None, Some, ap, arith, length, refl, sym, ◌∙◌}
pub use Rattle.std.proofs.Math.Nat.{mul-le-mul_right, one-le-pow, pow-suc}
pub use Rattle.std.proofs.lemmas.Bool.{and_parts, cases_lt, cond_both, eqb-true, false_from_ne_true}
pub use Rattle.std.proofs.lemmas.Bool.Decides.{nat_tests}
pub use Rattle.std.proofs.lemmas.Int.{ints}
pub use Rattle.std.proofs.lemmas.List.{drop_all, drop_more, get_or-append-add, get_or-map}
pub use Rattle.std.proofs.lemmas.List.{get_or-take, get_or_append_left, get_or_push, length-map}
pub use Rattle.std.proofs.lemmas.List.{length-take, map-append, take_all, take_more}
pub use Rattle.std.proofs.lemmas.List.Elements.{All-append, All-cons, All-nil}
pub use Rattle.std.proofs.lemmas.List.Folds.{list_any-append}
pub use Rattle.std.proofs.lemmas.List.Sums.{get_or-le-sum_by, sum_by-append, sum_by-cons}
pub use Rattle.std.proofs.lemmas.Option.{IfSome_then, get_or_from_slice_get, slice_get_within}
