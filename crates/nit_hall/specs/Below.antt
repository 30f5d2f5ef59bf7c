-- The words of the library and of the crates below that are used here, and the crate's plain types.
pub use Rattle.nit_clip.specs.Clip.{ClipModel, most_clips}
pub use Rattle.nit_clip.specs.ClipGrammar.{is_clip_phase}
pub use Rattle.nit_clip.specs.Clipboard.{IsClipAnswer, clip_answer, clipboard_of, last_at}
pub use Rattle.nit_clip.specs.LegalClips.{IsLegalClips, IsThere, before_final}
pub use Rattle.nit_clip.specs.WholeClips.{AreInPhases, IsInPhase, IsWholeClips, calls_up_to}
pub use Rattle.nit_clip.specs.WholeClips.{clip_calls_in, clip_calls_of, clips_to_do, clips_to_make}
pub use Rattle.nit_clip.specs.WholeClips.{left_after}
pub use Rattle.nit_clip.specs.declared.call.ClipCall.{ClipCall}
pub use Rattle.nit_clip.specs.declared.call.ClipEntry.{ClipEntry}
pub use Rattle.nit_clip.specs.declared.call.ClipReply.{ClipReply}
pub use Rattle.nit_clip.specs.declared.line.ClipLine.{ClipLine}
pub use Rattle.nit_config.specs.Configuration.{Configuration, donation_of}
pub use Rattle.nit_config.specs.ConfigurationRanges.{IsRunConfiguration}
pub use Rattle.nit_config.specs.declared.config.Member.{Member}
pub use Rattle.nit_events.specs.Input.{deliveries_of, routed_as}
pub use Rattle.nit_events.specs.Ranges.{IsDevice}
pub use Rattle.nit_events.specs.declared.call.Call.{Call}
pub use Rattle.nit_events.specs.declared.call.Reply.{Reply}
pub use Rattle.nit_events.specs.declared.device.Device.{Device}
pub use Rattle.nit_events.specs.declared.entry.Entry.{Entry}
pub use Rattle.nit_events.specs.declared.event.Routed.{Routed}
pub use Rattle.nit_journal.specs.Deliveries.{kills}
pub use Rattle.nit_journal.specs.Journal.{most_entries}
pub use Rattle.nit_journal.specs.Replay.{Agrees, IsLegal, IsOpen, LegalFrom, replay, replay_from}
pub use Rattle.nit_journal.specs.Replay.{shots}
pub use Rattle.nit_journal.specs.Session.{first_session, serve}
pub use Rattle.nit_journal.specs.StackAfter.{is_accepted}
pub use Rattle.nit_journal.specs.State.{State, after, buffer_size, first_state, owner_of, route}
pub use Rattle.nit_journal.specs.State.{session, source_of}
pub use Rattle.nit_journal.specs.WholeJournals.{Does, IsWhole, Shoots, UserAction, calls_of, done}
pub use Rattle.nit_journal.specs.WholeJournals.{next_phase, phases_along, to_do, user_actions_of}
pub use Rattle.nit_ledger.specs.Book.{BookModel, BookName, ShareModel, entries_in, most_shares}
pub use Rattle.nit_ledger.specs.Book.{raised, raws_in}
pub use Rattle.nit_ledger.specs.declared.view.Recorded.{Recorded}
pub use Rattle.nit_overlay.specs.Frame.{frame}
pub use Rattle.nit_paint.specs.Repaint.{IsWordOfSource}
pub use Rattle.nit_pixels.specs.End.{BufferName, End, new_sight, reader_sight}
pub use Rattle.nit_pixels.specs.declared.standing.Standing.{Standing}
pub use Rattle.nit_plan.specs.Calls.{calls_from, calls_in, calls_to_make, user_actions_from}
pub use Rattle.nit_plan.specs.Calls.{user_actions_to_do}
pub use Rattle.nit_plan.specs.Plan.{IsPlanOf, PlanModel}
pub use Rattle.nit_plan.specs.ScriptWords.{Painting, after_line, blank, painted_from, script_ink}
pub use Rattle.nit_plan.specs.ScriptWords.{stages_within, table_size, words_after, words_left}
pub use Rattle.nit_plan.specs.SessionLists.{plan_in, script_in}
pub use Rattle.nit_plan.specs.Surface.{IsPaintedTo}
pub use Rattle.nit_rect.specs.Limits.{most_height, most_run_sessions, most_width}
pub use Rattle.nit_rect.specs.declared.point.Point.{Point}
pub use Rattle.nit_scene.specs.DirtyPixels.{dirty}
pub use Rattle.nit_scene.specs.RawWords.{Painted, pixel_count, source_at}
pub use Rattle.nit_scene.specs.Scene.{AreListedGlasses, CanAdd, IsAdded, SceneModel}
pub use Rattle.nit_scene.specs.Scene.{glasses_of_call, state_now}
pub use Rattle.nit_scene.specs.Screen.{IsGlass}
pub use Rattle.nit_scene.specs.StateScenery.{scenery_of}
pub use Rattle.nit_script.specs.Grammar.{most_lines}
pub use Rattle.nit_script.specs.Phases.{is_input_phase, is_phase}
pub use Rattle.nit_script.specs.Spelling.{FitsDevice}
pub use Rattle.nit_script.specs.declared.line.InputLine.{InputLine}
pub use Rattle.nit_script.specs.declared.line.Line.{Line}
pub use Rattle.nit_script.specs.declared.line.Stroke.{Stroke}
pub use Rattle.nit_slots.specs.Account.{IsDonation}
pub use Rattle.nit_stack.specs.Sources.{Bare, Black, PixelSource, Size, Word, among, black_or_word}
pub use Rattle.nit_stack.specs.Sources.{buffer_place, pixel, shown_index, source_under}
pub use Rattle.nit_stack.specs.declared.view.View.{View}
pub use Rattle.nit_word.specs.Channels.{bare_word}
pub use Rattle.nit_word.specs.Inks.{Colours, Ink, IsAmong, IsWord}
pub use Rattle.nit_word.specs.Sight.{HasStage, IsLoaded, Sight, seen, told_words, with_stages}
pub use Rattle.nit_word.specs.Sights.{glass_in, no_sight}
pub use Rattle.nit_word.specs.Updates.{with_words}
pub use Rattle.std.specs.List.{AllByRecursion, range_with_len}
pub use Rattle.std.specs.List.Sorted.{IsNonDecreasing}
pub use Rattle.std.specs.Prelude.{IfNone, List, None, Option, Some, count_by, length, map, negsuc}
pub use Rattle.std.specs.Prelude.{pos, replicate, slice_get, slice_index, slice_index_or, sum, take}
pub use Rattle.std.specs.Prelude.{ℤ}
pub use Rattle.std.specs.Vec.Iter.{into_iter_items}
