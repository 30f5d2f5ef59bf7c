-- The words that clauses use: those that come from outside, and those of this crate.
pub use Rattle.nit_run.specs.Below.{ActorLine, Agrees, All, AllByRecursion, Answered}
pub use Rattle.nit_run.specs.Below.{AreOfOneHistory, AreRoundsOf, AreShotsOf, Buffer, ByClient}
pub use Rattle.nit_run.specs.Below.{ByUser, Call, Calls, Close, Configuration, Contains, Delivery}
pub use Rattle.nit_run.specs.Below.{Device, Does, Drawing, Ends, Entry, Event, File, FitsCall}
pub use Rattle.nit_run.specs.Below.{FitsDelivery, FitsDevice, FitsEntry, FitsEvent, FitsInputLine}
pub use Rattle.nit_run.specs.Below.{FitsItem, FitsLine, FitsReply, Flat, Gets, Global}
pub use Rattle.nit_run.specs.Below.{HasDifferentNames, HasPixels, InputLine, InputState, IsAscii}
pub use Rattle.nit_run.specs.Below.{IsCode, IsDrawnPicture, IsHeldPicture, IsLegal, IsLive, IsOpen}
pub use Rattle.nit_run.specs.Below.{IsUtf8, Item, Kill, LegalFrom, LiesIn, Line, LineTurn, Mode}
pub use Rattle.nit_run.specs.Below.{Observation, Output, Reply, Routed, Routing, Scenery, Session}
pub use Rattle.nit_run.specs.Below.{Shoots, ShotsBehind, State, Status, StoreModel, Take, Upgrade}
pub use Rattle.nit_run.specs.Below.{UserAction, Vec, View, Xray, accepted, action_of}
pub use Rattle.nit_run.specs.Below.{actions_of_turns, after, after_observations, after_turn}
pub use Rattle.nit_run.specs.Below.{alone_machine, bar_rows, buffer_left, buffer_need, by_call}
pub use Rattle.nit_run.specs.Below.{by_life, by_quota, by_refusal, by_status, bytes_eq, calls_from}
pub use Rattle.nit_run.specs.Below.{calls_of, calls_to_make, clicks_on, client_script, client_text}
pub use Rattle.nit_run.specs.Below.{codes, count_by, decimal, deliveries_of, donation_of, done}
pub use Rattle.nit_run.specs.Below.{drawn_by_shot, file_at, filter, final_name, first_press}
pub use Rattle.nit_run.specs.Below.{first_session, first_state, flat_map, focusing, fold, frame}
pub use Rattle.nit_run.specs.Below.{have_different_names, hovering, ignored, input_after_call}
pub use Rattle.nit_run.specs.Below.{input_by_user, input_lines_of, is_accepted, is_call, is_device}
pub use Rattle.nit_run.specs.Below.{is_label, is_label_byte, is_phase, is_shot_line, is_side}
pub use Rattle.nit_run.specs.Below.{items_to, killing, leaving, letting_go, list_all, most_height}
pub use Rattle.nit_run.specs.Below.{most_width, moving, opening_drawing, option_map, owner, picture}
pub use Rattle.nit_run.specs.Below.{picture_of, pixel, point, pointer_after, press, pressing}
pub use Rattle.nit_run.specs.Below.{projection, range_with_len, receive, received, refusal, release}
pub use Rattle.nit_run.specs.Below.{replay, replay_from, replies_to, rounds, routed_as, routing}
pub use Rattle.nit_run.specs.Below.{scenery_of, screen, script_name, session, shot_name, shots}
pub use Rattle.nit_run.specs.Below.{shots_after, shots_of, shown, slice_get, slice_index}
pub use Rattle.nit_run.specs.Below.{slice_index_or, switching, taken, taking, to, to_do, unless}
pub use Rattle.nit_run.specs.Below.{user_actions_from, user_actions_of, user_script, with_asked}
pub use Rattle.nit_run.specs.Below.{with_held, ◌orelse◌}
pub use Rattle.nit_run.specs.Headline.{AreTexts, HasPicture, Headline, HoldsAtEnd, HoldsAtShot}
pub use Rattle.nit_run.specs.Headline.{HoldsByWay, ShowsOneHistory, events_among, focus_after}
pub use Rattle.nit_run.specs.OutputNames.{HasTextName, label_text, output_name}
pub use Rattle.nit_run.specs.Outputs.{AreOutputs, IsJournal, events_file, events_files, events_name}
pub use Rattle.nit_run.specs.Outputs.{final_picture, journal_file, raw_word, tables_left}
pub use Rattle.nit_run.specs.Outputs.{text_files}
pub use Rattle.nit_run.specs.PutFiles.{PutEach, asked_also, asking_all}
pub use Rattle.nit_run.specs.Region.{IsRegionWords, is_off_screen, rectangle_of}
pub use Rattle.nit_run.specs.Setup.{AreLines, IsRunnable, Setup, generated_setup, still_setup}
