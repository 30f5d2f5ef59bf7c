-- What lemmas use: the words of clauses, the library's lemmas, and those of the crates below.
pub use Rattle.nit_events.proofs.ForCallers.{at_most_one}
pub use Rattle.nit_rect.proofs.ForCallers.{all_append}
pub use Rattle.nit_report.specs.Terms.{AllByRecursion, AllZip, AppendsDraws, Bad, Begins, Call}
pub use Rattle.nit_report.specs.Terms.{Closed, Delivery, Device, Draw, Draws, Entry, Event}
pub use Rattle.nit_report.specs.Terms.{FitsCall, FitsDelivery, FitsDevice, FitsEntry, FitsEvent}
pub use Rattle.nit_report.specs.Terms.{FitsInputLine, FitsInt, FitsItem, FitsLine, FitsNat}
pub use Rattle.nit_report.specs.Terms.{FitsReply, FitsRouted, FitsSession, FitsShot, HasOneReading}
pub use Rattle.nit_report.specs.Terms.{IfOk, InputLine, IsFirstBadEntry, IsJournalAnswer, IsOkAnd}
pub use Rattle.nit_report.specs.Terms.{IsRunConfiguration, IsRunMember, Item, JournalError, Killed}
pub use Rattle.nit_report.specs.Terms.{Line, Live, Member, NoMemory, ReadsClient, ReadsJournal}
pub use Rattle.nit_report.specs.Terms.{Reply, Routed, UnlessNoMemory, at_both, at_kind, at_made}
pub use Rattle.nit_report.specs.Terms.{backdrop, buffer_lines, busy, busy_lines, call_at}
pub use Rattle.nit_report.specs.Terms.{call_spelling, channels, click, clicks, client_block}
pub use Rattle.nit_report.specs.Terms.{client_text, codes, decimal, deliveries_at, deliveries_of}
pub use Rattle.nit_report.specs.Terms.{delivery_spelling, device_spelling, draws_in_turn}
pub use Rattle.nit_report.specs.Terms.{entry_spelling, event_spelling, event_told, events_text}
pub use Rattle.nit_report.specs.Terms.{first_of, first_phase, flat_map, focus_enter_at}
pub use Rattle.nit_report.specs.Terms.{focus_leave_at, for_each, generated_member, input_phases}
pub use Rattle.nit_report.specs.Terms.{input_spelling, is_call, is_device, is_input_phase, is_phase}
pub use Rattle.nit_report.specs.Terms.{is_printable, is_session_number, is_shot_line}
pub use Rattle.nit_report.specs.Terms.{is_shot_number, is_text, item_spelling, journal_text, just}
pub use Rattle.nit_report.specs.Terms.{kinds, leave_at, line_spelling, nat, nat_field, nothing_at}
pub use Rattle.nit_report.specs.Terms.{one_in_front, phase_end, phases, placed, places, plain_at}
pub use Rattle.nit_report.specs.Terms.{range_with_len, reply_spelling, routed_as, script_name}
pub use Rattle.nit_report.specs.Terms.{second_phase, seed, session_field, shifted, shot_field}
pub use Rattle.nit_report.specs.Terms.{spelled, taken, titled, titles, user_phase_end, user_phases}
pub use Rattle.nit_report.specs.Terms.{views, xray_shot, ◌>>=◌}
pub use Rattle.nit_script.proofs.ForCallers.{Exact, IsKind, IsReader, Takes, begins_more, both}
pub use Rattle.nit_script.proofs.ForCallers.{call_again, call_takes, device_again, device_takes}
pub use Rattle.nit_script.proofs.ForCallers.{ended_again, ended_takes, first_takes, kind}
pub use Rattle.nit_script.proofs.ForCallers.{made_takes, nat_fields, no_reading, not_empty, nothing}
pub use Rattle.nit_script.proofs.ForCallers.{nothing_spelled, one_reading, reads_begins, same_lines}
pub use Rattle.nit_script.proofs.ForCallers.{same_read, spaced, stops, taken_begins, tested}
pub use Rattle.std.proofs.Common.{append_assoc, arith, length, refl, rules, sym, ◌∙◌}
pub use Rattle.std.proofs.lemmas.Bool.{cases_lt, eqb-true, false≢true}
pub use Rattle.std.proofs.lemmas.Bool.Decides.{nat_tests}
pub use Rattle.std.proofs.lemmas.Fmt.{decimal_digit, decimal_injective, decimal_step}
pub use Rattle.std.proofs.lemmas.Fmt.{length-decimal-le}
pub use Rattle.std.proofs.lemmas.List.{append-nil, drop-drop, map-append, map-id}
pub use Rattle.std.proofs.lemmas.List.Concat.{flat_map-append}
pub use Rattle.std.proofs.lemmas.List.FromFn.{get_or-map-range_with_len, map-range_with_len_more}
pub use Rattle.std.proofs.lemmas.List.Sums.{sum_by-cons}
pub use Rattle.std.proofs.lemmas.Option.{some_pair_parts}
pub use Rattle.std.proofs.lemmas.Slice.{drop-put_mid}
