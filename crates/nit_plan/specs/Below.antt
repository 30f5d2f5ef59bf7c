-- The words of the library and of the crates below that are used here, and the crate's plain types.
pub use Rattle.nit_config.specs.Configuration.{Configuration, donation_of}
pub use Rattle.nit_events.specs.declared.call.Call.{Call}
pub use Rattle.nit_events.specs.declared.call.Call.TheVariants.{Buffer, Close, Destroy, Take}
pub use Rattle.nit_events.specs.declared.call.Call.TheVariants.{Upgrade, View}
pub use Rattle.nit_events.specs.declared.call.Reply.{Reply}
pub use Rattle.nit_events.specs.declared.entry.Entry.{Entry}
pub use Rattle.nit_events.specs.declared.event.Event.{Event}
pub use Rattle.nit_events.specs.declared.event.Status.{Status}
pub use Rattle.nit_journal.specs.Replay.{replay}
pub use Rattle.nit_journal.specs.Session.{Session, accepted, after_calls, by_call, by_quota}
pub use Rattle.nit_journal.specs.Session.{by_refusal, by_status, first_session, is_side, refusal}
pub use Rattle.nit_journal.specs.Session.{serve, taking, unless}
pub use Rattle.nit_journal.specs.StackAfter.{is_accepted}
pub use Rattle.nit_journal.specs.State.{session}
pub use Rattle.nit_journal.specs.WholeJournals.{Does, Shoots, UserAction, calls_of, done}
pub use Rattle.nit_plan.specs.declared.area.BufferArea.{BufferArea}
pub use Rattle.nit_plan.specs.declared.plan.Expect.{Expect}
pub use Rattle.nit_plan.specs.declared.plan.Expect.TheVariants.{Nothing, Taken}
pub use Rattle.nit_plan.specs.declared.plan.Step.{Step}
pub use Rattle.nit_rect.specs.Limits.{most_side, most_units}
pub use Rattle.nit_script.specs.Grammar.{most_lines}
pub use Rattle.nit_script.specs.Spelling.{FitsLine, FitsStroke}
pub use Rattle.nit_script.specs.declared.line.InputLine.{InputLine}
pub use Rattle.nit_script.specs.declared.line.Line.{Line}
pub use Rattle.nit_script.specs.declared.line.Stroke.{Stroke}
pub use Rattle.nit_script.specs.declared.line.Stroke.TheVariants.{Check, Fill}
pub use Rattle.nit_slots.specs.Account.{IsDonation, buffer_left, buffer_need, room, view_left}
pub use Rattle.nit_slots.specs.Table.{last_handle}
pub use Rattle.nit_stack.specs.Sources.{Size}
pub use Rattle.nit_word.specs.Inks.{Ink, IsAmong, IsInked, IsOfColours, IsWord, Stages}
pub use Rattle.nit_word.specs.Sight.{HasStage, MayHold, MayHoldBetween, Sight, TellsAll}
pub use Rattle.nit_word.specs.Sight.{inked_sight, stored}
pub use Rattle.nit_word.specs.Updates.{in_turn, is_between, set_where, with_words}
pub use Rattle.nit_word.specs.Zeros.{zeros}
pub use Rattle.std.specs.List.{AllByRecursion, enumerate_from, flat_map, list_any, range_with_len}
pub use Rattle.std.specs.List.{slice_get}
pub use Rattle.std.specs.Option.{option_map}
pub use Rattle.std.specs.Prelude.{List, [], slice_index, slice_index_or, take, ℕ}
pub use Rattle.std.specs.Result.{OnOk}
