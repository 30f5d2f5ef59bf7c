-- What lemmas use: the words of clauses, the library's lemmas, and those of the crates below.
pub use Rattle.nit_events.proofs.ForCallers.{either}
pub use Rattle.nit_nested.specs.Terms.{All, AllByRecursion, Buffer, Call, CanPay, Close, ColourRun}
pub use Rattle.nit_nested.specs.Terms.{Event, Fill, FitsColour, FitsLine, IsFrame, IsNest}
pub use Rattle.nit_nested.specs.Terms.{IsScreenSize, Line, NestModel, Painting, Refresh, Reply}
pub use Rattle.nit_nested.specs.Terms.{Session, ShowsFrames, Stroke, Take, TooLong, after_line}
pub use Rattle.nit_nested.specs.Terms.{blank, by_refusal, count_by, count_lines, enumerate_from}
pub use Rattle.nit_nested.specs.Terms.{fills, first_forbidden, first_session, flat_map, frame_lines}
pub use Rattle.nit_nested.specs.Terms.{frame_script, frames_behind, is_accepted, is_forbidden}
pub use Rattle.nit_nested.specs.Terms.{is_phase, lines_before_end, lines_of_frames, most_height}
pub use Rattle.nit_nested.specs.Terms.{most_lines, most_width, next_frame, painted_from, phases}
pub use Rattle.nit_nested.specs.Terms.{pos, prefix_len, refusal, row_lines, row_runs, rows_lines}
pub use Rattle.nit_nested.specs.Terms.{run_joined, script_answer, session_size, taking, unless_long}
pub use Rattle.nit_nested.specs.Terms.{word_after_stroke, words_left, words_of_lines, woven, zeros}
pub use Rattle.nit_plan.proofs.ForCallers.{buffer_size}
pub use Rattle.nit_rect.proofs.ForCallers.{all_append}
pub use Rattle.nit_word.proofs.ForCallers.{length-zeros}
pub use Rattle.std.proofs.Common.{Err, List, None, Ok, Option, Some, [], add-one, ap, arith, cond}
pub use Rattle.std.proofs.Common.{drop, false, get_or, inl, inr, length, length-append, map}
pub use Rattle.std.proofs.Common.{replicate, sym, ◌∙◌}
pub use Rattle.std.proofs.Math.Nat.{mul-suc, mul_comm}
pub use Rattle.std.proofs.Math.Seq.{get_or-append_seam, take-append-add, take-length}
pub use Rattle.std.proofs.lemmas.Bool.{cases_eq, eq-eqb, ne_eqb}
pub use Rattle.std.proofs.lemmas.Bool.Decides.{nat_tests}
pub use Rattle.std.proofs.lemmas.Grind.{flat_map-append}
pub use Rattle.std.proofs.lemmas.List.{append-nil, ext_get_or, get_or-append-add, get_or-map}
pub use Rattle.std.proofs.lemmas.List.{get_or-replicate, get_or-take, get_or_append_left}
pub use Rattle.std.proofs.lemmas.List.{length-map, length-replicate, length-take-le, map-append}
pub use Rattle.std.proofs.lemmas.List.{nil_from_length, take-append-drop}
pub use Rattle.std.proofs.lemmas.List.Elements.{recursion_from_All}
pub use Rattle.std.proofs.lemmas.List.FromFn.{get_or-enumerate_from, length-enumerate_from}
pub use Rattle.std.proofs.lemmas.List.Sums.{fold-append, sum_by-append, sum_by-cons}
pub use Rattle.std.proofs.lemmas.Nat.{div-mul-add, div_below, mod-mul-add, mul-add-lt}
