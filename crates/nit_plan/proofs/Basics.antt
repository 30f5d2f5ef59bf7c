-- What lemmas use: the words of clauses, the library's lemmas, and those of the crates below.
pub use Rattle.nit_events.proofs.ForCallers.{either}
pub use Rattle.nit_journal.proofs.ForCallers.{as_its_calls_have_it, first_none, holds_of}
pub use Rattle.nit_journal.proofs.ForCallers.{refused_reply, second_none, serve_accepted}
pub use Rattle.nit_journal.proofs.ForCallers.{within_quota, within_reserve}
pub use Rattle.nit_plan.specs.Terms.{AllByRecursion, Buffer, Call, Check, Close, Destroy, Event}
pub use Rattle.nit_plan.specs.Terms.{Expect, Fill, FitsLine, HasStage, HasStages, IsAmong, IsInked}
pub use Rattle.nit_plan.specs.Terms.{IsLineInked, IsOfColours, IsPaintedTo, IsStrokeInked, IsWord}
pub use Rattle.nit_plan.specs.Terms.{Line, List, MayHold, MayHoldBetween, Nothing, Painting}
pub use Rattle.nit_plan.specs.Terms.{PlanModel, Reply, Session, Sight, Size, Step, Stroke, Take}
pub use Rattle.nit_plan.specs.Terms.{Taken, Upgrade, View, [], accepted, accepts, after_calls}
pub use Rattle.nit_plan.specs.Terms.{after_line, blank, buffer_left, buffer_need, by_call, by_quota}
pub use Rattle.nit_plan.specs.Terms.{by_refusal, by_status, calls_from, calls_in, calls_to_make}
pub use Rattle.nit_plan.specs.Terms.{colours, donation_of, done, enumerate_from, first_session}
pub use Rattle.nit_plan.specs.Terms.{in_turn, ink, is_accepted, is_between, is_in_stretch}
pub use Rattle.nit_plan.specs.Terms.{is_set_by, is_side, is_stroked, list_any, most_units}
pub use Rattle.nit_plan.specs.Terms.{option_map, painted_from, place_colour, plan_of_script}
pub use Rattle.nit_plan.specs.Terms.{range_with_len, refusal, room, script_ink, serve, session}
pub use Rattle.nit_plan.specs.Terms.{session_after, session_size, set_where, slice_get, slice_index}
pub use Rattle.nit_plan.specs.Terms.{stages_from, stages_within, static, step_of_line, steps_from}
pub use Rattle.nit_plan.specs.Terms.{stroke_colour, stroked, table_size, taking, unless, view_left}
pub use Rattle.nit_plan.specs.Terms.{with_words, word_after_stroke, words_after, words_after_call}
pub use Rattle.nit_plan.specs.Terms.{words_by_step, words_left, zeros, ℕ}
pub use Rattle.nit_word.proofs.ForCallers.{are_set, before_row, both_set, column_and_row}
pub use Rattle.nit_word.proofs.ForCallers.{inked_fits, length-zeros, next_between, none_between}
pub use Rattle.nit_word.proofs.ForCallers.{none_set, same_colours, same_set, set_long, turn_there}
pub use Rattle.nit_word.proofs.ForCallers.{word_at, zero_at}
pub use Rattle.std.proofs.Common.{All, Bool, None, Option, Some, ap, arith, cond, drop, false}
pub use Rattle.std.proofs.Common.{filter, fold, get_or, length, length-append, map, min, nat_lt}
pub use Rattle.std.proofs.Common.{not, refl, suc, sym, true, ◌∙◌}
pub use Rattle.std.proofs.Math.ListN.{get_or-eq_default}
pub use Rattle.std.proofs.Math.Nat.{mul-le-mul_right}
pub use Rattle.std.proofs.lemmas.Bool.{cond_both, eq-eqb, eqb-true, or_cases, or_right}
pub use Rattle.std.proofs.lemmas.Bool.Decides.{nat_tests}
pub use Rattle.std.proofs.lemmas.Grind.{common_steps}
pub use Rattle.std.proofs.lemmas.List.{get_or-append_right, get_or-drop, get_or_append_left}
pub use Rattle.std.proofs.lemmas.List.{take_all, take_more}
pub use Rattle.std.proofs.lemmas.List.Elements.{All-append, All-cons, All-nil}
pub use Rattle.std.proofs.lemmas.List.Folds.{list_any-append}
pub use Rattle.std.proofs.lemmas.List.Sums.{fold-append}
pub use Rattle.std.proofs.lemmas.Nat.{div-mul-add, div_below, mod-mul-add, mul-add-lt}
pub use Rattle.std.proofs.lemmas.Option.{IfSome_then, get_or_from_slice_get, same_Some}
pub use Rattle.std.proofs.lemmas.Option.{slice_get-get_or, slice_get_read, slice_get_within}
