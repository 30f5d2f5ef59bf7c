-- The words that clauses use: those that come from outside, and those of this crate.
pub use Rattle.nit_rounds.specs.Below.{Action, Acts, AllByRecursion, AreRaw, Bare, Buffer}
pub use Rattle.nit_rounds.specs.Below.{BufferArea, Call, Calls, Client, ClientPart, Configuration}
pub use Rattle.nit_rounds.specs.Below.{Device, Does, Entry, File, Fill, FitsInputLine, HasStage}
pub use Rattle.nit_rounds.specs.Below.{InputLine, IsAdded, IsConfiguration, IsDonation, IsGlass}
pub use Rattle.nit_rounds.specs.Below.{IsLegal, IsLoaded, IsMember, IsNonDecreasing, IsOpen}
pub use Rattle.nit_rounds.specs.Below.{IsPaintedTo, IsPlanOf, IsTrue, IsUtf8, IsWhole, IsWord}
pub use Rattle.nit_rounds.specs.Below.{IsWordOfSource, LegalFrom, Line, LinePlace, MatchBool}
pub use Rattle.nit_rounds.specs.Below.{Motion, None, Option, Painted, PixelSource, Place, Places}
pub use Rattle.nit_rounds.specs.Below.{PlanModel, Point, PutState, PutsAll, PutsFile, PutsNext}
pub use Rattle.nit_rounds.specs.Below.{Refresh, Reply, Routed, SceneModel, Shoots, Sight, Size}
pub use Rattle.nit_rounds.specs.Below.{Some, Stale, State, Step, Stroke, Turn, User, UserAction}
pub use Rattle.nit_rounds.specs.Below.{View, Word, action_of, after, bar_rows, bare_word}
pub use Rattle.nit_rounds.specs.Below.{buffer_size, calls_from, calls_of, calls_to_make, decimal}
pub use Rattle.nit_rounds.specs.Below.{donation_of, done, first_state, flat_map, glass_in}
pub use Rattle.nit_rounds.specs.Below.{glasses_of_call, in_bar, is_between, is_in_area}
pub use Rattle.nit_rounds.specs.Below.{is_input_phase, is_phase, is_set_by, left, length}
pub use Rattle.nit_rounds.specs.Below.{most_height, most_lines, most_sessions, most_side}
pub use Rattle.nit_rounds.specs.Below.{most_width, nat_le, next_phase, no_sight, option_map, phases}
pub use Rattle.nit_rounds.specs.Below.{phases_along, picture, picture_length, pixel, pixel_count}
pub use Rattle.nit_rounds.specs.Below.{plan_in, plan_of_script, range_with_len, replay, replay_from}
pub use Rattle.nit_rounds.specs.Below.{route, routed_as, script_in, seen, serve, session, set_where}
pub use Rattle.nit_rounds.specs.Below.{shots, slice_get, slice_index_or, slice_set, source_under}
pub use Rattle.nit_rounds.specs.Below.{state_now, static, step_of_line, sum, table_size, take}
pub use Rattle.nit_rounds.specs.Below.{to_do, told_at, unrefused, user_actions_from}
pub use Rattle.nit_rounds.specs.Below.{user_actions_of, user_actions_to_do, with_words, words_after}
pub use Rattle.nit_rounds.specs.Below.{zeros}
pub use Rattle.nit_rounds.specs.Desks.{KeepsFrame}
pub use Rattle.nit_rounds.specs.Drawing.{Drawing, after_turn, done_after, drawn, drawn_shot}
pub use Rattle.nit_rounds.specs.Drawing.{entry_of, opening_drawing, picture_of, shot_frames_of}
pub use Rattle.nit_rounds.specs.Drawing.{shots_after, shots_of, state_after, tables_after}
pub use Rattle.nit_rounds.specs.Drawing.{word_after_entry, word_from}
pub use Rattle.nit_rounds.specs.LineDrawing.{CanDraw, HasDrawn, HasSession}
pub use Rattle.nit_rounds.specs.Places.{ArePlaces, HasTurn, IsActorOf, IsAtTurn, IsFirstActive}
pub use Rattle.nit_rounds.specs.Places.{IsNextTurn, NoneHas, StandsAt, is_active, left_at, lefts}
pub use Rattle.nit_rounds.specs.Places.{rest_of_phase, script_of, stepped, turn_by, turn_of}
pub use Rattle.nit_rounds.specs.Places.{turns_left}
pub use Rattle.nit_rounds.specs.Rounds.{all_rounds, greatest, in_phase, phase_count, phase_rounds}
pub use Rattle.nit_rounds.specs.Rounds.{round, rounds}
pub use Rattle.nit_rounds.specs.RoundsRun.{IsRoundsRun, IsSetUp, glass_after, picture_name}
pub use Rattle.nit_rounds.specs.RoundsRun.{put_state_of_desk, shot_name}
pub use Rattle.nit_rounds.specs.RunState.{AreLoaded, AreQuiet, AreQuietBut, BeginsRounds}
pub use Rattle.nit_rounds.specs.RunState.{CanDoUserLine, DoesClientLine, DoesUserLine, IsDrawn}
pub use Rattle.nit_rounds.specs.RunState.{IsMoved, IsPlanned, IsRecorded, IsShowing, IsUnderWay}
pub use Rattle.nit_rounds.specs.RunState.{IsUserRecorded, ShowsLine, is_number_in, next_shot}
pub use Rattle.nit_rounds.specs.RunState.{takes_place}
pub use Rattle.nit_rounds.specs.ShotFrames.{ShotFrame, ShowsEach, shot_file}
pub use Rattle.nit_rounds.specs.Shots.{AreShotsOf, IsDrawnPicture, ShotsBehind, drawn_by_shot}
pub use Rattle.nit_rounds.specs.Shots.{shoots, turns_before}
pub use Rattle.nit_rounds.specs.Stale.{AreBehind, FitsInto, IsBehind, IsBehindBy, IsButFor}
pub use Rattle.nit_rounds.specs.Stale.{is_stale, settled}
pub use Rattle.nit_rounds.specs.Turn.{ActorLine, ByClient, ByUser, LineTurn, actors, clients_from}
pub use Rattle.nit_rounds.specs.Turn.{ends_phase, turns_from, turns_of}
pub use Rattle.nit_rounds.specs.TurnActions.{AreRoundsOf, actions_of_line, actions_of_turns}
pub use Rattle.nit_rounds.specs.TurnActions.{input_by_user, input_lines_of, line_by, lines_of}
