-- The words that clauses use: those that come from outside, and those of this crate.
pub use Rattle.nit_plan.specs.Below.{AllByRecursion, Buffer, Call, Check, Close, Configuration}
pub use Rattle.nit_plan.specs.Below.{Destroy, Entry, Event, Expect, Fill, FitsLine, FitsStroke}
pub use Rattle.nit_plan.specs.Below.{HasStage, IsAmong, IsDonation, IsInked, IsOfColours, IsWord}
pub use Rattle.nit_plan.specs.Below.{Line, List, MayHold, MayHoldBetween, Nothing, OnOk, Reply}
pub use Rattle.nit_plan.specs.Below.{Session, Sight, Size, Step, Stroke, Take, Taken, TellsAll}
pub use Rattle.nit_plan.specs.Below.{Upgrade, View, [], accepted, after_calls, buffer_left}
pub use Rattle.nit_plan.specs.Below.{buffer_need, by_call, by_quota, by_refusal, by_status}
pub use Rattle.nit_plan.specs.Below.{calls_of, donation_of, done, enumerate_from, first_session}
pub use Rattle.nit_plan.specs.Below.{in_turn, inked_sight, is_accepted, is_between, is_side}
pub use Rattle.nit_plan.specs.Below.{last_handle, list_any, most_lines, most_side, most_units}
pub use Rattle.nit_plan.specs.Below.{option_map, range_with_len, refusal, replay, room, serve}
pub use Rattle.nit_plan.specs.Below.{session, set_where, slice_get, slice_index, stored, take}
pub use Rattle.nit_plan.specs.Below.{taking, unless, view_left, with_words, zeros, ℕ}
pub use Rattle.nit_plan.specs.Calls.{calls_from, calls_in, calls_to_make}
pub use Rattle.nit_plan.specs.Plan.{IsLineInked, IsPlanOf, PlanModel, accepts, expected_of}
pub use Rattle.nit_plan.specs.Plan.{is_set_by, plan_of_script, session_after, step_of_line}
pub use Rattle.nit_plan.specs.Plan.{steps_from, words_by_step}
pub use Rattle.nit_plan.specs.ScriptWords.{HasStages, Painting, after_line, blank, colours, ink}
pub use Rattle.nit_plan.specs.ScriptWords.{painted_from, script_ink, session_size, stages_from}
pub use Rattle.nit_plan.specs.ScriptWords.{stages_within, static, table_size, words_after}
pub use Rattle.nit_plan.specs.ScriptWords.{words_after_call, words_left}
pub use Rattle.nit_plan.specs.Strokes.{IsStrokeInked, cleared, is_in_area, is_in_stretch}
pub use Rattle.nit_plan.specs.Strokes.{is_stroked, place_colour, stroke_colour, stroked}
pub use Rattle.nit_plan.specs.Strokes.{word_after_stroke}
pub use Rattle.nit_plan.specs.Surface.{AreZeroBetween, IsPaintedTo}
