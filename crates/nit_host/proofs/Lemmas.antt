-- What answers use: all that lemmas use, and this crate's lemmas.
pub use Rattle.nit_host.proofs.ActLemmas.{WasCalled, WasTold, all_acts, handed_plain, was_called}
pub use Rattle.nit_host.proofs.ActLemmas.{was_refreshed, was_told, when_served}
pub use Rattle.nit_host.proofs.ActMoves.{as_told, comes_by_act, first_live, first_many, first_quiet}
pub use Rattle.nit_host.proofs.ActMoves.{goes_by_act, held_by_act, held_by_device, mode_by_act}
pub use Rattle.nit_host.proofs.Basics.{AgreeOutside, All, All-nil, Call, Configuration}
pub use Rattle.nit_host.proofs.Basics.{DesktopModel, Device, Foremost, HostModel, IsAreaOf}
pub use Rattle.nit_host.proofs.Basics.{IsConfiguration, IsHandedIn, IsPlainOf, Ok, Rearmost}
pub use Rattle.nit_host.proofs.Basics.{SheetModel, Sight, View, after, after_acts, after_handing}
pub use Rattle.nit_host.proofs.Basics.{and_parts, ap, append-nil, arith, called, cases_lt, covers}
pub use Rattle.nit_host.proofs.Basics.{enumerate_from, first_state, frame, frame_at, frame_by}
pub use Rattle.nit_host.proofs.Basics.{frame_shown, get_or-eq_default, get_or_default, handed_over}
pub use Rattle.nit_host.proofs.Basics.{has_any, has_label, holds_nothing, ints, is_between}
pub use Rattle.nit_host.proofs.Basics.{is_free_in, is_in_rows, is_touched, low_bytes, mul-le}
pub use Rattle.nit_host.proofs.Basics.{nat_tests, next_between, next_client, none_between}
pub use Rattle.nit_host.proofs.Basics.{option_map, picture_now, plain_sight, point, put, refl}
pub use Rattle.nit_host.proofs.Basics.{refreshed, routed_of, scenery_of, serve, session, set}
pub use Rattle.nit_host.proofs.Basics.{set_where, sheet_in, sheets_of, slice_get_within}
pub use Rattle.nit_host.proofs.Basics.{slice_index, steps_of, subst, sym, take_all, told_words}
pub use Rattle.nit_host.specs.Terms.{lettered}
pub use Rattle.nit_host.proofs.Basics.{touch_of, true_from_ne_false, vacant_state, waiting_member}
pub use Rattle.nit_host.proofs.Basics.{◌∙◌}
pub use Rattle.nit_host.proofs.Beginnings.{AreTo, HasRoom, all_blank, all_sheets, begun}
pub use Rattle.nit_host.proofs.Beginnings.{blank_plain, first_now, first_seat, free_not_taken}
pub use Rattle.nit_host.proofs.Beginnings.{free_of, is_seat, label_decides, no_seat, one_more}
pub use Rattle.nit_host.proofs.Beginnings.{one_sheet, plan_configured, seen_none, sized_at}
pub use Rattle.nit_host.proofs.CallChanges.{refresh_touches, seen_called, seen_input, seen_seated, stand_after, stand_told}
pub use Rattle.nit_host.proofs.Clicks.{clicks_client, clicks_first, clicks_focus, clicks_locked}
pub use Rattle.nit_host.proofs.Clicks.{clicks_seat, clicks_unseen, nothing_held, one_shown}
pub use Rattle.nit_host.proofs.Clicks.{shown_at}
pub use Rattle.nit_host.proofs.Former.{is_former, known_turns, no_call, no_refresh, no_restack}
pub use Rattle.nit_host.proofs.Former.{stays_present}
pub use Rattle.nit_host.proofs.Frames.{agree_outside, by_source, of_none, of_past, same_view}
pub use Rattle.nit_host.proofs.Frames.{seen_now, shown_there}
pub use Rattle.nit_host.proofs.HandedWords.{blank_again, called_words, clip_order, clipped}
pub use Rattle.nit_host.proofs.HandedWords.{come_word, handed_in, handed_part, handed_word}
pub use Rattle.nit_host.proofs.HandedWords.{other_word, refused_words, row_fits, row_more}
pub use Rattle.nit_host.proofs.HandedWords.{rows_begun, rows_sized, sized, stay_word, user_words}
pub use Rattle.nit_host.proofs.HandedWords.{word_loaded}
pub use Rattle.nit_host.proofs.Beginnings.{drawn_blank, drawn_sheets}
pub use Rattle.nit_host.proofs.PartsKept.{added_on, area_lies, both_added, copied_on}
pub use Rattle.nit_host.proofs.PartsKept.{screen_touched, whole_on}
pub use Rattle.nit_host.proofs.RefusedClicks.{clicks_moved, clicks_refused}
pub use Rattle.nit_host.proofs.Restacking.{only_restacked, put_behind, put_in_front, stands_if}
pub use Rattle.nit_host.proofs.Seatings.{WasSeated, may_sit, turn_given, turns_begin, was_seated}
pub use Rattle.nit_host.proofs.SeatsFound.{found_takes, none_takes}
pub use Rattle.nit_host.proofs.Steps.{WasServed, are_glasses, blank_again_of, own_plain, own_room}
pub use Rattle.nit_host.proofs.Steps.{plain_by_owner, same_sheets, sheets_with, shown_fresh}
pub use Rattle.nit_host.proofs.UserMoves.{by_click, by_kill_click, by_kill_key, by_xray_key}
