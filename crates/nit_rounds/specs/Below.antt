-- The words of the library and of the crates below that are used here, and the crate's plain types.
pub use Rattle.nit_config.specs.Configuration.{Configuration, bar_rows, donation_of}
pub use Rattle.nit_config.specs.ConfigurationRanges.{IsConfiguration, IsMember}
pub use Rattle.nit_events.specs.Input.{routed_as}
pub use Rattle.nit_events.specs.declared.call.Call.{Call}
pub use Rattle.nit_events.specs.declared.call.Call.TheVariants.{Buffer, Place, Refresh}
pub use Rattle.nit_events.specs.declared.call.Reply.{Reply}
pub use Rattle.nit_events.specs.declared.device.Device.{Device}
pub use Rattle.nit_events.specs.declared.device.Device.TheVariants.{Motion}
pub use Rattle.nit_events.specs.declared.entry.Entry.{Entry}
pub use Rattle.nit_events.specs.declared.event.Routed.{Routed}
pub use Rattle.nit_journal.specs.Replay.{IsLegal, IsOpen, LegalFrom, replay, replay_from, shots}
pub use Rattle.nit_journal.specs.Session.{serve}
pub use Rattle.nit_journal.specs.State.{State, after, buffer_size, first_state, route, session}
pub use Rattle.nit_journal.specs.WholeJournals.{Action, Acts, Calls, Does, IsWhole, Shoots}
pub use Rattle.nit_journal.specs.WholeJournals.{UserAction, action_of, calls_of, done, left}
pub use Rattle.nit_journal.specs.WholeJournals.{next_phase, phases_along, to_do, user_actions_of}
pub use Rattle.nit_overlay.specs.Frame.{frame}
pub use Rattle.nit_paint.specs.Repaint.{IsWordOfSource}
pub use Rattle.nit_plan.specs.Calls.{calls_from, calls_to_make, user_actions_from}
pub use Rattle.nit_plan.specs.Calls.{user_actions_to_do}
pub use Rattle.nit_plan.specs.Plan.{IsPlanOf, PlanModel, is_set_by, plan_of_script, step_of_line}
pub use Rattle.nit_plan.specs.ScriptWords.{ink, static, table_size, words_after, words_left}
pub use Rattle.nit_plan.specs.SessionLists.{plan_in, script_in}
pub use Rattle.nit_plan.specs.Strokes.{is_in_area}
pub use Rattle.nit_plan.specs.Surface.{IsPaintedTo}
pub use Rattle.nit_plan.specs.declared.area.BufferArea.{BufferArea}
pub use Rattle.nit_plan.specs.declared.plan.Step.{Step}
pub use Rattle.nit_rect.specs.Limits.{most_height, most_sessions, most_side, most_width}
pub use Rattle.nit_rect.specs.declared.point.Point.{Point}
pub use Rattle.nit_report.specs.Picture.{picture, picture_length}
pub use Rattle.nit_rounds.specs.declared.desk.Desk.{Desk}
pub use Rattle.nit_rounds.specs.declared.desk.PictureName.{PictureName}
pub use Rattle.nit_rounds.specs.declared.part.ClientPart.{ClientPart}
pub use Rattle.nit_rounds.specs.declared.places.LinePlace.{LinePlace}
pub use Rattle.nit_rounds.specs.declared.places.Places.{Places}
pub use Rattle.nit_rounds.specs.declared.stale.Stale.{Stale}
pub use Rattle.nit_rounds.specs.declared.turn.Turn.{Turn}
pub use Rattle.nit_rounds.specs.declared.turn.Turn.TheVariants.{Client, User}
pub use Rattle.nit_scene.specs.DirtyPixels.{dirty}
pub use Rattle.nit_scene.specs.RawWords.{AreRaw, Painted, pixel_count}
pub use Rattle.nit_scene.specs.RawWords.{source_at}
pub use Rattle.nit_scene.specs.Scene.{IsAdded, SceneModel, glasses_of_call, state_now}
pub use Rattle.nit_scene.specs.Screen.{IsGlass}
pub use Rattle.nit_scene.specs.StateScenery.{scenery_of}
pub use Rattle.nit_script.specs.Grammar.{most_lines}
pub use Rattle.nit_script.specs.Phases.{input_phases, is_input_phase, is_phase, phases}
pub use Rattle.nit_script.specs.Spelling.{FitsInputLine}
pub use Rattle.nit_script.specs.declared.line.InputLine.{InputLine}
pub use Rattle.nit_script.specs.declared.line.Line.{Line}
pub use Rattle.nit_script.specs.declared.line.Stroke.{Stroke}
pub use Rattle.nit_script.specs.declared.line.Stroke.TheVariants.{Fill}
pub use Rattle.nit_slots.specs.Account.{IsDonation}
pub use Rattle.nit_stack.specs.Sources.{Bare, PixelSource, Size, Word, in_bar, pixel, source_under}
pub use Rattle.nit_stack.specs.declared.view.View.{View}
pub use Rattle.nit_store.specs.Puts.{PutRefusal, PutState, PutsAll, PutsFile, PutsNext, unrefused}
pub use Rattle.nit_store.specs.Store.{File, StoreModel}
pub use Rattle.nit_store.specs.declared.store.PutError.{PutError}
pub use Rattle.nit_word.specs.Channels.{bare_word}
pub use Rattle.nit_word.specs.Inks.{IsWord}
pub use Rattle.nit_word.specs.Sight.{HasStage, IsLoaded, Sight, inked_sight, seen, told_at}
pub use Rattle.nit_word.specs.Sights.{glass_in, no_sight}
pub use Rattle.nit_word.specs.Updates.{is_between, set_where, with_words}
pub use Rattle.nit_word.specs.Zeros.{zeros}
pub use Rattle.std.specs.Fmt.{decimal}
pub use Rattle.std.specs.List.{AllByRecursion, flat_map, range_with_len}
pub use Rattle.std.specs.List.Sorted.{IsNonDecreasing}
pub use Rattle.std.specs.Option.{option_map}
pub use Rattle.std.specs.Prelude.{IsTrue, MatchBool, None, Option, Some, length, nat_le, slice_get}
pub use Rattle.std.specs.Prelude.{slice_index_or, slice_set, sum, take}
pub use Rattle.std.specs.Str.{IsUtf8}
