-- What lemmas use: the words of clauses, the library's lemmas, and those of the crates below.
pub use Rattle.nit_host.specs.Terms.{Act, AgreeOutside, Agrees, All, Answered, AreBlankSheets, AreGlasses}
pub use Rattle.nit_host.specs.Terms.{AreInLayers, AreLive, AreParts, AreSheets, AreTurns, Area}
pub use Rattle.nit_host.specs.Terms.{Bare, Call, Calls, CameBy, CameSince, Client, Comes}
pub use Rattle.nit_host.specs.Terms.{Configuration, Delivery, DesktopModel, Device, Does, Entry}
pub use Rattle.nit_host.specs.Terms.{Event, Foremost, HasNoLook, HasPlaces, HasTouched, HoldsBar}
pub use Rattle.nit_host.specs.Terms.{HoldsBarIn, HoldsTouched, HoldsUnless, HostModel, IsAreaAdded}
pub use Rattle.nit_host.specs.Terms.{IsAreaOf, IsBarArea, IsClickBy, IsConfiguration, IsFirst}
pub use Rattle.nit_host.specs.Terms.{IsFreeLabel, IsFresh, IsHandedIn, IsHost, IsInPart, IsKillBy}
pub use Rattle.nit_host.specs.Terms.{IsKillClick, IsLoaded, IsLockedOut, IsNoLook, IsOneOf}
pub use Rattle.nit_host.specs.Terms.{IsPlainOf, IsRestacked, IsSeenBut, IsServedEntry, IsStepOf}
pub use Rattle.nit_host.specs.Terms.{IsTakenByClicks, IsToldArea, IsWord, IsWordOfSource, Item}
pub use Rattle.nit_host.specs.Terms.{LastLook, Looks, Member, Mode, NoPair, Painted, PixelSource}
pub use Rattle.nit_host.specs.Terms.{Point, Puts, Rearmost, Rectangle, Refreshes, Reply, Restacks}
pub use Rattle.nit_host.specs.Terms.{most_scale, picture_height}
pub use Rattle.nit_host.specs.Terms.{Routed, ScreenPlan, SeatPlan, Serves, Session, SheetModel, Side, Sight}
pub use Rattle.nit_host.specs.Terms.{Size, State, Status, StaysOutside, Step, SwitchesMode}
pub use Rattle.nit_host.specs.Terms.{TakesClick, TakesFocus, TakesIn, Touch, Turns, Unseated}
pub use Rattle.nit_host.specs.Terms.{Unserved, View, WasShown, Word, accepted, after}
pub use Rattle.nit_host.specs.Terms.{after_accepted, after_act, after_acts, after_deliveries}
pub use Rattle.nit_host.specs.Terms.{after_handing, after_look, after_step, among, answered}
pub use Rattle.nit_host.specs.Terms.{area_on, bar_rows, bar_word, bare_word, behind, black_or_word}
pub use Rattle.nit_host.specs.Terms.{blank_sheet, blank_sheets, buffer_place, buffer_size, by_life}
pub use Rattle.nit_host.specs.Terms.{by_refusal, by_status, called, clicks_on, covers, delivered}
pub use Rattle.nit_host.specs.Terms.{deliveries_of, dirty, dirty_by_call, enumerate_from, falls}
pub use Rattle.nit_host.specs.Terms.{filled_up, first_host, first_session, first_state, frame}
pub use Rattle.nit_host.specs.Terms.{frame_at, frame_by, frame_shown, free_seat, glass_in, handed}
pub use Rattle.nit_host.specs.Terms.{handed_over, has_any, has_label, has_place, has_view}
pub use Rattle.nit_host.specs.Terms.{holds_nothing, in_bar, index_at, input_after_call, is_accepted}
pub use Rattle.nit_host.specs.Terms.{is_as_shown, is_between, is_button, is_client, is_input}
pub use Rattle.nit_host.specs.Terms.{is_free_in, is_handed, is_held_after, is_in_rows, is_inside}
pub use Rattle.nit_host.specs.Terms.{is_kill, is_killed, is_label, is_label_taken, is_live}
pub use Rattle.nit_host.specs.Terms.{is_moved, is_owned_by, is_same_client, is_screen, is_session}
pub use Rattle.nit_host.specs.Terms.{is_some, is_taken, is_touched, is_view, is_within, is_word_in}
pub use Rattle.nit_host.specs.Terms.{kill_button, kills, labelled_or_first, layer, least_units}
pub use Rattle.nit_host.specs.Terms.{list_all, list_any, looked, low_bytes, member, most_comings}
pub use Rattle.nit_host.specs.Terms.{most_height, most_sessions, most_units, most_width, moved}
pub use Rattle.nit_host.specs.Terms.{next_client, no_look, no_sight, no_turns, nobody_came, opened}
pub use Rattle.nit_host.specs.Terms.{option_map, option_map_or, owner, owner_of, owner_on}
pub use Rattle.nit_host.specs.Terms.{owner_shown, owner_then, owns_either, picture_now, pixel}
pub use Rattle.nit_host.specs.Terms.{pixel_count, place_at, plain_sight, planned, point}
pub use Rattle.nit_host.specs.Terms.{position_or_len, put, put_back, put_front, range_with_len}
pub use Rattle.nit_host.specs.Terms.{receive, rectangle, rectangle_over, refreshed, refusal}
pub use Rattle.nit_host.specs.Terms.{refused_plan, relabelled, reply_to, restacked, route}
pub use Rattle.nit_host.specs.Terms.{routed_as, routed_of, scenery_of, seat_for, seated, seats_of}
pub use Rattle.nit_host.specs.Terms.{seen, serve, session, session_in, session_owns, set_where}
pub use Rattle.nit_host.specs.Terms.{sheet_at, sheet_in, sheets_of, shown, shown_index}
pub use Rattle.nit_host.specs.Terms.{shown_under_pointer, shows_part, shows_place, since_coming}
pub use Rattle.nit_host.specs.Terms.{size_at, slice_index, source_at, source_of, source_under}
pub use Rattle.nit_host.specs.Terms.{spans, has_live_view, step_of_act, step_unless, steps_of, table_size}
pub use Rattle.nit_host.specs.Terms.{taking, told, told_words, touch_of, touched_by, touched_over}
pub use Rattle.nit_host.specs.Terms.{touched_unless, seat_turn, under_pointer, unless_for, unseated}
pub use Rattle.nit_host.specs.Terms.{unserved_call, unserved_input, unserved_refresh}
pub use Rattle.nit_host.specs.Terms.{unserved_restack, vacant_state, waiting_label, waiting_member}
pub use Rattle.nit_host.specs.Terms.{with_handed, with_turn, without, word_from, sheet_word, words_of}
pub use Rattle.nit_host.specs.Terms.{worn_out, zeros}
pub use Rattle.nit_journal.proofs.ForCallers.{refused_reply, serve_accepted, serve_refused}
pub use Rattle.nit_overlay.proofs.ForCallers.{flat_shown, get_or-frame, length-frame, same_frame}
pub use Rattle.nit_screen.proofs.ForCallers.{owns_none, unaccepted_state}
pub use Rattle.nit_stack.proofs.ForCallers.{NoPair-back, NoPair-filter, NoPair-front, found_passes}
pub use Rattle.nit_word.proofs.ForCallers.{are_set, before_row, both_set, column_and_row, filled_at}
pub use Rattle.nit_word.proofs.ForCallers.{filled_long, length-zeros, next_between, none_between}
pub use Rattle.nit_word.proofs.ForCallers.{none_past, none_set, same_filled, same_set, set_long}
pub use Rattle.nit_word.proofs.ForCallers.{word_at, zero_at}
pub use Rattle.std.proofs.Common.{List, Ok, ap, append-nil, arith, refl, set, subst, sym, ◌∙◌}
pub use Rattle.std.proofs.Math.ListN.{get_or-eq_default, get_or-map, length-set}
pub use Rattle.std.proofs.Math.Nat.{mul-le-mul_right, mul_comm}
pub use Rattle.std.proofs.Math.Seq.{get_or-append_seam}
pub use Rattle.std.proofs.lemmas.Bool.{and_from, and_left, and_parts, and_right, cases_Bool}
pub use Rattle.std.proofs.lemmas.Bool.{cases_eq, cases_lt, cond_both, eq-eqb, eqb-true}
pub use Rattle.std.proofs.lemmas.Bool.{false_from_ne_true, false≢true, ne_eqb, or_cases}
pub use Rattle.std.proofs.lemmas.Bool.{true_from_ne_false}
pub use Rattle.std.proofs.lemmas.Bool.Decides.{nat_tests}
pub use Rattle.std.proofs.lemmas.Int.{ints}
pub use Rattle.std.proofs.lemmas.List.{ext_get_or, get_or-replicate, get_or-set_same}
pub use Rattle.std.proofs.lemmas.List.{get_or_append_left, get_or_default, get_or_past}
pub use Rattle.std.proofs.lemmas.List.{length-append, length-map, length-replicate, length-take-le}
pub use Rattle.std.proofs.lemmas.List.{map-append, map-id, map-set, set-get_or, set_past, take_all}
pub use Rattle.std.proofs.lemmas.List.{take_at, take_more}
pub use Rattle.std.proofs.lemmas.List.Elements.{All-nil}
pub use Rattle.std.proofs.lemmas.List.Folds.{find_at, list_any_at, list_any_none}
pub use Rattle.std.proofs.lemmas.List.FromFn.{get_or-enumerate_from, get_or-map-range_with_len}
pub use Rattle.std.proofs.lemmas.List.FromFn.{get_or-range_with_len, length-enumerate_from}
pub use Rattle.std.proofs.lemmas.List.FromFn.{length-range_with_len}
pub use Rattle.std.proofs.lemmas.List.Sums.{AllPass-from_list_all, fails_before_first, fold-append}
pub use Rattle.std.proofs.lemmas.List.Sums.{passes_at_first, position_or_len_is}
pub use Rattle.std.proofs.lemmas.Nat.{div-add-mod', div-mul-add, mod-mul-add, mod_below, mul-add-lt}
pub use Rattle.std.proofs.lemmas.Nat.{mul-le}
pub use Rattle.std.proofs.lemmas.Option.{get_or_from_slice_get, same_Some, slice_get-get_or}
pub use Rattle.std.proofs.lemmas.Option.{slice_get_past, slice_get_within}
pub use Rattle.std.proofs.lemmas.Slice.Eq.{bytes_eq-Decides}
