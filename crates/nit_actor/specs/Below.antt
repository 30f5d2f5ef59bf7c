-- The words of the library and of the crates below that are used here, and the crate's plain types.
pub use Rattle.nit_actor.specs.declared.crew.Crew.{Crew}
pub use Rattle.nit_actor.specs.declared.crew.Unstarted.{Unstarted}
pub use Rattle.nit_actor.specs.declared.pair.Pair.{Pair}
pub use Rattle.nit_clip.specs.ClipGrammar.{clip_phases, is_clip_phase}
pub use Rattle.nit_clip.specs.declared.line.ClipLine.{ClipLine}
pub use Rattle.nit_config.specs.Configuration.{Configuration, donation_of}
pub use Rattle.nit_events.specs.declared.call.Call.{Call}
pub use Rattle.nit_events.specs.declared.call.Reply.{Reply}
pub use Rattle.nit_events.specs.declared.device.Device.{Device}
pub use Rattle.nit_events.specs.declared.entry.Entry.{Entry}
pub use Rattle.nit_events.specs.declared.event.Routed.{Routed}
pub use Rattle.nit_hall.specs.ClipPass.{AreTogether, ClipBelongs, ClipPassModel, IsAtClipPhase}
pub use Rattle.nit_hall.specs.ClipPass.{IsAtPhaseEnd, clip_number, clip_phases_before}
pub use Rattle.nit_hall.specs.Hall.{Tells, TellsShot}
pub use Rattle.nit_hall.specs.HallCalls.{BelongsAt, UserBelongsAt}
pub use Rattle.nit_hall.specs.History.{IsHeld, IsHistory, raw_behind}
pub use Rattle.nit_hall.specs.NearWords.{IsNear, IsNearFrame, is_dirtied}
pub use Rattle.nit_hall.specs.OpeningParts.{OpeningParts}
pub use Rattle.nit_hall.specs.Pass.{Belongs, HasMetPhase, IsAtDevice, IsAtPhase, IsAtShot}
pub use Rattle.nit_hall.specs.Pass.{IsAtStroke, IsAtUserPhase, PassModel, UserBelongs}
pub use Rattle.nit_hall.specs.Pass.{UserPassModel, call_of_line, next_device}
pub use Rattle.nit_hall.specs.Room.{RoomModel, after_arrival, arrived_one}
pub use Rattle.nit_hall.specs.ServedLines.{phases_before, user_actions_in}
pub use Rattle.nit_journal.specs.Replay.{IsOpen, replay, shots}
pub use Rattle.nit_journal.specs.WholeJournals.{Action, Calls, UserAction, action_of}
pub use Rattle.nit_journal.specs.WholeJournals.{user_actions_of}
pub use Rattle.nit_ledger.specs.Book.{BookName}
pub use Rattle.nit_overlay.specs.Frame.{shown}
pub use Rattle.nit_pixels.specs.End.{BufferName}
pub use Rattle.nit_plan.specs.Calls.{calls_in, user_actions_from, user_actions_to_do}
pub use Rattle.nit_plan.specs.Plan.{PlanModel}
pub use Rattle.nit_report.specs.Picture.{picture, picture_length}
pub use Rattle.nit_rounds.specs.Desks.{IsSameDesk}
pub use Rattle.nit_rounds.specs.RoundsRun.{put_state_of_desk, shot_name}
pub use Rattle.nit_rounds.specs.Shots.{AreShotsOf, ShotsBehind}
pub use Rattle.nit_rounds.specs.declared.desk.Desk.{Desk}
pub use Rattle.nit_scene.specs.RawWords.{pixel_count}
pub use Rattle.nit_scene.specs.StateScenery.{scenery_of}
pub use Rattle.nit_script.specs.Phases.{is_phase, phases}
pub use Rattle.nit_script.specs.declared.line.InputLine.{InputLine}
pub use Rattle.nit_script.specs.declared.line.Line.{Line}
pub use Rattle.nit_script.specs.declared.line.Stroke.{Stroke}
pub use Rattle.nit_stack.specs.Sources.{pixel}
pub use Rattle.nit_store.specs.Puts.{PutState, PutsAll, PutsNext}
pub use Rattle.nit_store.specs.Store.{File, StoreModel}
pub use Rattle.nit_word.specs.Inks.{IsWord}
pub use Rattle.nit_word.specs.Sight.{Sight}
pub use Rattle.std.specs.List.{cons_option, slice_index_or}
pub use Rattle.std.specs.Prelude.{slice_index}
