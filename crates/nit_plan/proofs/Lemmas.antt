-- What answers use: all that lemmas use, and this crate's lemmas.
pub use Rattle.nit_plan.proofs.Basics.{IfSome_then, Step, ap, arith, as_its_calls_have_it}
pub use Rattle.nit_plan.proofs.Basics.{common_steps, donation_of, first_session, in_turn, ink}
pub use Rattle.nit_plan.proofs.Basics.{is_between, mul-le-mul_right, next_between, none_between}
pub use Rattle.nit_plan.proofs.Basics.{place_colour, refl, set_where, static, step_of_line}
pub use Rattle.nit_plan.proofs.Basics.{steps_from, sym, take_all, turn_there, with_words}
pub use Rattle.nit_plan.proofs.Basics.{words_after, ℕ, ◌∙◌}
pub use Rattle.nit_plan.proofs.LineWords.{buffer_in_table, calls_done, in_table, last_line}
pub use Rattle.nit_plan.proofs.LineWords.{next_line, static_called}
pub use Rattle.nit_plan.proofs.Lines.{IsPlannedTo, alike, at_line, changed, each_sized, for_any}
pub use Rattle.nit_plan.proofs.Lines.{for_both, line_inked, next_session, next_step, painted_next}
pub use Rattle.nit_plan.proofs.Lines.{sight_next, step_at, step_stays, steps_counted, steps_long}
pub use Rattle.nit_plan.proofs.Lines.{unchanged, words_next}
pub use Rattle.nit_plan.proofs.Places.{above, all_cleared, even_turn, no_place, none_begun}
pub use Rattle.nit_plan.proofs.Places.{odd_turn, rest_unset, row_added, row_inked, row_turns}
pub use Rattle.nit_plan.proofs.Places.{rows_done, stroke_set, turn_inked}
pub use Rattle.nit_plan.proofs.Stages.{colours_inked, has_stages, ink_fits, left_by_some}
pub use Rattle.nit_plan.proofs.Stages.{left_inked, line_fits, stage_fits, stage_within, within_only}
pub use Rattle.nit_plan.proofs.Stages.{word_inked}
