-- The words that clauses use: those that come from outside, and those of this crate.
pub use Rattle.nit_host.specs.Acts.{Act, Calls, Comes, Does, Looks, Puts, Refreshes, after_act}
pub use Rattle.nit_host.specs.Acts.{after_acts, step_of_act, step_unless, steps_of, unless_for}
pub use Rattle.nit_host.specs.Area.{HoldsUnless, HoldsWhere, IsInReach, StaysOutside, is_inside}
pub use Rattle.nit_host.specs.Below.{AgreeIn, AgreeOutside, Agrees, All, Answered, AreGlasses}
pub use Rattle.nit_host.specs.Below.{AreLive, AreParts, AreSteps, Area, Bare, Black, Call, Client}
pub use Rattle.nit_host.specs.Below.{Configuration, CoversChange, Delivery, DesktopModel, Device}
pub use Rattle.nit_host.specs.Below.{Entry, Event, Flat, Foremost, Gets, HasPlaces, IsAreaAdded}
pub use Rattle.nit_host.specs.Below.{IsAreaOf, IsConfiguration, IsDown, IsFrameShown, IsFreeLabel}
pub use Rattle.nit_host.specs.Below.{IsLive, IsLoaded, IsPlace, IsPartPut, IsServedEntry, IsStepOf}
pub use Rattle.nit_host.specs.Below.{IsTouched, IsWord, IsWordOfSource, Item, Kill, KillsPointed}
pub use Rattle.nit_host.specs.Below.{LiesOn, Member, Mode, NoPair, Observation, Painted}
pub use Rattle.nit_host.specs.Below.{PixelSource, PlanError, Point, Rearmost, Rectangle, Reply}
pub use Rattle.nit_host.specs.Below.{Restacks, Routed, ScreenPlan, SeatPlan, Serves, Session, Side}
pub use Rattle.nit_host.specs.Below.{Sight, Size}
pub use Rattle.nit_host.specs.Below.{State, Status, Step, TellsFocus, TellsLeave, Touch, Turns}
pub use Rattle.nit_host.specs.Below.{Uncopied, Unseated, Unserved, View, Word, Xray, accepted}
pub use Rattle.nit_host.specs.Below.{after, after_accepted, after_deliveries, after_step}
pub use Rattle.nit_host.specs.Below.{after_steps, among, answered, asks_view, bar_rows, bar_word}
pub use Rattle.nit_host.specs.Below.{bare_word, black_or_word, buffer_place, buffer_size, by_life}
pub use Rattle.nit_host.specs.Below.{by_refusal, by_status, clicks_on, covers, delivered}
pub use Rattle.nit_host.specs.Below.{deliveries_of, dirty, dirty_by_call, enumerate_from, falls}
pub use Rattle.nit_host.specs.Below.{filled_up, first_input, first_session, first_state, frame}
pub use Rattle.nit_host.specs.Below.{IsMember, ShowsLabels, lettered, most_picture_height}
pub use Rattle.nit_host.specs.Below.{glass_in, has_any, has_place, has_view, in_bar, index_at}
pub use Rattle.nit_host.specs.Below.{input_after_call, is_accepted, is_between, is_button, is_held}
pub use Rattle.nit_host.specs.Below.{is_in_rows}
pub use Rattle.nit_host.specs.Below.{is_key, is_kill, is_killed, is_label, is_mode_key, is_owned_by}
pub use Rattle.nit_host.specs.Below.{is_session, is_some, is_view, is_word_in, kill_button}
pub use Rattle.nit_host.specs.Below.{kill_key, kill_mode, kills, layer, least_units, list_all}
pub use Rattle.nit_host.specs.Below.{list_any, member, most_height, most_length, most_sessions}
pub use Rattle.nit_host.specs.Below.{most_scale, picture_height}
pub use Rattle.nit_host.specs.Below.{most_slots, most_units, most_width, moved, no_sight, opened}
pub use Rattle.nit_host.specs.Below.{opening_of, option_map, option_map_or, owner, owner_of}
pub use Rattle.nit_host.specs.Below.{owns_either, pixel, pixel_count, place_at, plain_sight, point}
pub use Rattle.nit_host.specs.Below.{position_or_len, projection, put_back, put_front}
pub use Rattle.nit_host.specs.Below.{range_with_len, receive, rectangle, rectangle_over, refusal}
pub use Rattle.nit_host.specs.Below.{relabelled, replies_from, replies_to, restacked, route}
pub use Rattle.nit_host.specs.Below.{routed_as, scenery_of, seen, serve, session, session_in}
pub use Rattle.nit_host.specs.Below.{session_owns, set_where, shown, shown_index, shows_part}
pub use Rattle.nit_host.specs.Below.{since_opening, slice_index, source_at, source_of, source_under}
pub use Rattle.nit_host.specs.Below.{spans, table_size, taking, to, told_words, under_pointer}
pub use Rattle.nit_host.specs.Below.{vacant_state, without, word_from, words_of, xray_key}
pub use Rattle.nit_host.specs.Below.{xray_mode, zeros}
pub use Rattle.nit_host.specs.Clicks.{CameSince, HasNoLook, IsLockedOut, IsNoLook, TakesClick}
pub use Rattle.nit_host.specs.Clicks.{WasShown, after_look, owner_then}
pub use Rattle.nit_host.specs.Damage.{area_at, area_on, uncopied}
pub use Rattle.nit_host.specs.Former.{CameBy, since_coming}
pub use Rattle.nit_host.specs.Fresh.{AreBlankSheets, AreSheets, IsFresh, IsHost, IsPlainOf, sheet_at}
pub use Rattle.nit_host.specs.Fresh.{sheets_of, size_at}
pub use Rattle.nit_host.specs.Handing.{CanTakeWords, IsHandedIn, after_handing}
pub use Rattle.nit_host.specs.Host.{AreTurns, HostModel, IsAsSeen, IsFirst, IsOneOf, behind}
pub use Rattle.nit_host.specs.Host.{blank_sheets, called, client_of, first_host, forgotten}
pub use Rattle.nit_host.specs.Host.{frame_by, frame_shown, handed, is_client, is_input, is_handed}
pub use Rattle.nit_host.specs.Host.{is_live, lacks_handles, last_text, looked, most_comings}
pub use Rattle.nit_host.specs.Host.{no_turns, picture_now, put, refreshed, reply_to, routed_of}
pub use Rattle.nit_host.specs.Host.{has_live_view, seat_turn, sheet_in, told, unserved_call}
pub use Rattle.nit_host.specs.Host.{unserved_input}
pub use Rattle.nit_host.specs.Host.{unserved_refresh, unserved_restack, with_handed, worn_out}
pub use Rattle.nit_host.specs.Looked.{IsSeenBut, frame_at}
pub use Rattle.nit_host.specs.Moves.{IsClickBy, IsKillBy, IsKillClick, IsTakenByClicks}
pub use Rattle.nit_host.specs.Moves.{SwitchesMode, TakesFocus, is_held_after}
pub use Rattle.nit_host.specs.Plan.{hex_digit, is_screen, is_within, no_script, planned}
pub use Rattle.nit_host.specs.Plan.{refused_plan, waiting_label, waiting_member}
pub use Rattle.nit_host.specs.Seats.{TakesIn, free_seat, has_label, is_free_in, is_label_taken}
pub use Rattle.nit_host.specs.Seats.{is_taken, labelled_or_first, may_come, next_client, seat_for}
pub use Rattle.nit_host.specs.Seats.{seated, seats_of, unseated, with_turn}
pub use Rattle.nit_host.specs.Sheet.{SheetModel, blank_sheet, handed_over, low_bytes}
pub use Rattle.nit_host.specs.Shown.{LastLook, holds_nothing, is_as_shown, is_moved, is_same_client}
pub use Rattle.nit_host.specs.Shown.{no_look, nobody_came, shown_under_pointer}
pub use Rattle.nit_host.specs.Stacking.{AreInLayers, IsRestacked}
pub use Rattle.nit_host.specs.Touch.{HasTouched, HoldsBar, HoldsBarIn, HoldsTouched, IsBarArea}
pub use Rattle.nit_host.specs.Touch.{IsToldArea, is_touched, part_touched, shows_place, touch_of}
pub use Rattle.nit_host.specs.Touch.{touched_by, touched_in, touched_over, touched_unless}
pub use Rattle.nit_host.specs.Viewing.{owner_on, owner_shown}
pub use Rattle.nit_host.specs.Words.{IsInPart, sheet_word}
