-- What lemmas use: the words of clauses, the library's lemmas, and those of the crates below.
pub use Rattle.nit_events.proofs.ForCallers.{either}
pub use Rattle.nit_journal.proofs.ForCallers.{as_many, as_many_as_clients, calls_of-append}
pub use Rattle.nit_journal.proofs.ForCallers.{front_open, same_throughout, second_none}
pub use Rattle.nit_rect.proofs.ForCallers.{all_append}
pub use Rattle.nit_report.proofs.ForCallers.{few_digits}
pub use Rattle.nit_rounds.proofs.ForCallers.{as_many_files, each_at, file_of_a_shot}
pub use Rattle.nit_store.proofs.ForCallers.{other_name}
pub use Rattle.nit_run.specs.Terms.{ActorLine, Agrees, All, AllByRecursion, Answered, AreLines}
pub use Rattle.nit_run.specs.Terms.{AreOfOneHistory, AreOutputs, AreRoundsOf, AreShotsOf, AreTexts}
pub use Rattle.nit_run.specs.Terms.{Buffer, ByClient, ByUser, Call, Calls, Close, Configuration}
pub use Rattle.nit_run.specs.Terms.{Contains, Delivery, Device, Does, Drawing, Ends, Entry, Event}
pub use Rattle.nit_run.specs.Terms.{File, FitsCall, FitsDelivery, FitsDevice, FitsEntry, FitsEvent}
pub use Rattle.nit_run.specs.Terms.{FitsInputLine, FitsItem, FitsLine, FitsReply, Flat, Gets}
pub use Rattle.nit_run.specs.Terms.{Global, HasDifferentNames, HasPicture, HasTextName, HoldsAtEnd}
pub use Rattle.nit_run.specs.Terms.{HoldsAtShot, HoldsByWay, InputLine, InputState, IsAscii, IsCode}
pub use Rattle.nit_run.specs.Terms.{IsDrawnPicture, IsHeldPicture, IsJournal, IsLegal, IsLive}
pub use Rattle.nit_run.specs.Terms.{IsOpen, IsRunnable, IsUtf8, Item, Kill, LegalFrom, Line}
pub use Rattle.nit_run.specs.Terms.{LineTurn, Mode, Observation, Output, PutEach, Reply, Routed}
pub use Rattle.nit_run.specs.Terms.{Routing, Scenery, Session, Setup, Shoots, ShotsBehind}
pub use Rattle.nit_run.specs.Terms.{ShowsOneHistory, State, Status, StoreModel, Take, Upgrade}
pub use Rattle.nit_run.specs.Terms.{UserAction, Vec, View, Xray, accepted, action_of}
pub use Rattle.nit_run.specs.Terms.{actions_of_turns, after, after_observations, after_turn}
pub use Rattle.nit_run.specs.Terms.{alone_machine, asked_also, asking_all, bar_rows, buffer_left}
pub use Rattle.nit_run.specs.Terms.{buffer_need, by_call, by_life, by_quota, by_refusal, by_status}
pub use Rattle.nit_run.specs.Terms.{bytes_eq, calls_from, calls_of, calls_to_make, clicks_on}
pub use Rattle.nit_run.specs.Terms.{client_script, client_text, codes, count_by, decimal}
pub use Rattle.nit_run.specs.Terms.{deliveries_of, donation_of, done, drawn_by_shot, events_among}
pub use Rattle.nit_run.specs.Terms.{events_file, events_files, events_name, file_at, filter}
pub use Rattle.nit_run.specs.Terms.{final_name, final_picture, first_press, first_session}
pub use Rattle.nit_run.specs.Terms.{first_state, flat_map, focus_after, focusing, fold, frame}
pub use Rattle.nit_run.specs.Terms.{generated_setup, have_different_names, hovering, ignored}
pub use Rattle.nit_run.specs.Terms.{input_after_call, input_by_user, input_lines_of, is_accepted}
pub use Rattle.nit_run.specs.Terms.{is_call, is_device, is_label, is_label_byte, is_phase}
pub use Rattle.nit_run.specs.Terms.{is_shot_line, is_side, items_to, journal_file, killing}
pub use Rattle.nit_run.specs.Terms.{label_text, leaving, letting_go, list_all, moving}
pub use Rattle.nit_run.specs.Terms.{opening_drawing, option_map, output_name, owner, picture_of}
pub use Rattle.nit_run.specs.Terms.{pixel, point, pointer_after, press, pressing, projection}
pub use Rattle.nit_run.specs.Terms.{range_with_len, raw_word, receive, received, refusal, release}
pub use Rattle.nit_run.specs.Terms.{replay, replay_from, replies_to, rounds, routed_as, routing}
pub use Rattle.nit_run.specs.Terms.{scenery_of, script_name, session, shot_name, shots, shots_after}
pub use Rattle.nit_run.specs.Terms.{shots_of, shown, slice_get, slice_index, slice_index_or}
pub use Rattle.nit_run.specs.Terms.{still_setup, switching, tables_left, taken, taking, text_files}
pub use Rattle.nit_run.specs.Terms.{to, to_do, unless, user_actions_from, user_actions_of}
pub use Rattle.nit_run.specs.Terms.{user_script, with_asked, with_held, ◌orelse◌}
pub use Rattle.std.proofs.Common.{arith}
pub use Rattle.std.proofs.lemmas.Bool.{and_parts, cases_Bool, eq-eqb}
pub use Rattle.std.proofs.lemmas.Bool.Decides.{nat_tests}
pub use Rattle.std.proofs.lemmas.Fmt.{IsAscii-decimal, decimal_injective}
pub use Rattle.std.proofs.lemmas.List.{append-nil, append_cancel_left, append_cancel_right}
pub use Rattle.std.proofs.lemmas.List.{get_or-map, length-append, length-map, length_push}
pub use Rattle.std.proofs.lemmas.List.{map-append}
pub use Rattle.std.proofs.lemmas.List.Elements.{Contains-append_left, Contains-append_right}
pub use Rattle.std.proofs.lemmas.List.Elements.{Contains-push, recursion_from_All}
pub use Rattle.std.proofs.lemmas.List.FromFn.{get_or-map-range_with_len, length-map-range_with_len}
pub use Rattle.std.proofs.lemmas.List.Sums.{count_by-le-length, length-filter}
pub use Rattle.std.proofs.lemmas.Nat.{mul-le}
pub use Rattle.std.proofs.lemmas.Option.{get_or_from_slice_get, slice_get_within}
pub use Rattle.std.proofs.lemmas.Slice.Eq.{bytes_eq-Decides}
pub use Rattle.std.proofs.lemmas.Str.{IsAscii-append, IsUtf8-from_ascii}
