-- The words that clauses use: those that come from outside, and those of this crate.
pub use Rattle.nit_report.specs.Below.{AllByRecursion, AllZip, Bad, Begins, Call, Closed, Delivery}
pub use Rattle.nit_report.specs.Below.{Device, Entry, Event, FitsCall, FitsDevice, FitsInputLine}
pub use Rattle.nit_report.specs.Below.{FitsInt, FitsLine, FitsNat, Gives, HasOneReading, IfOk}
pub use Rattle.nit_report.specs.Below.{InputLine, IsOkAnd, IsRunConfiguration, IsRunMember, IsWord}
pub use Rattle.nit_report.specs.Below.{Item, JournalError, Killed, Line, Live, Member, NoMemory}
pub use Rattle.nit_report.specs.Below.{ReadsClient, ReadsInput, Reply, Routed, at_both, at_kind}
pub use Rattle.nit_report.specs.Below.{at_made, call_at, call_spelling, channels, codes, decimal}
pub use Rattle.nit_report.specs.Below.{deliveries_of, delivery, device_spelling, first_of, flat_map}
pub use Rattle.nit_report.specs.Below.{input_phases, input_spelling, is_input_phase, is_label}
pub use Rattle.nit_report.specs.Below.{is_phase, is_printable, is_text, line_spelling, most_height}
pub use Rattle.nit_report.specs.Below.{most_read, most_width, nat, nat_field, nothing_at, phases}
pub use Rattle.nit_report.specs.Below.{range_with_len, routed_as, spelled}
pub use Rattle.nit_report.specs.Draw.{AppendsDraws, Draw, Draws, below, draws_in_turn, for_each}
pub use Rattle.nit_report.specs.Draw.{just, ◌>>=◌}
pub use Rattle.nit_report.specs.EntryReaders.{answered_at, bad_at, behind_reply_at, deliveries_at}
pub use Rattle.nit_report.specs.EntryReaders.{delivery_at, done_at, entry_at, entry_front_at}
pub use Rattle.nit_report.specs.EntryReaders.{event_at, event_reply_at, event_told, final_at}
pub use Rattle.nit_report.specs.EntryReaders.{focus_enter_at, focus_leave_at, handle_at, holding_at}
pub use Rattle.nit_report.specs.EntryReaders.{input_entry_at, is_session_number, is_shot_number}
pub use Rattle.nit_report.specs.EntryReaders.{item_at, leave_at, no_view_at, one_in_front, plain_at}
pub use Rattle.nit_report.specs.EntryReaders.{quota_at, reply_at, reserve_at, routed_at}
pub use Rattle.nit_report.specs.EntryReaders.{session_field, shot_entry_at, shot_field}
pub use Rattle.nit_report.specs.EntrySpelling.{delivery_spelling, entry_spelling, event_spelling}
pub use Rattle.nit_report.specs.EntrySpelling.{item_spelling, reply_spelling}
pub use Rattle.nit_report.specs.EventsText.{ending_text, events_text, status_spelling, taken}
pub use Rattle.nit_report.specs.Generator.{backdrop, buffer_lines, busy, busy_lines, checked, click}
pub use Rattle.nit_report.specs.Generator.{clicks, client_block, client_label, client_script}
pub use Rattle.nit_report.specs.Generator.{client_text, config_text, filled, first_phase}
pub use Rattle.nit_report.specs.Generator.{from_outside, generated, generated_configuration}
pub use Rattle.nit_report.specs.Generator.{generated_member, is_call, is_device, is_shot_line}
pub use Rattle.nit_report.specs.Generator.{kinds, phase_end, placed, places, script_name}
pub use Rattle.nit_report.specs.Generator.{second_phase, seed, shifted, some_colour, some_motion}
pub use Rattle.nit_report.specs.Generator.{some_part, some_refresh, some_view, titled, titles}
pub use Rattle.nit_report.specs.Generator.{user_phase_end, user_phases, user_script, user_text}
pub use Rattle.nit_report.specs.Generator.{views, xray_shot}
pub use Rattle.nit_report.specs.JournalText.{FitsDelivery, FitsEntry, FitsEvent, FitsItem}
pub use Rattle.nit_report.specs.JournalText.{FitsReply, FitsRouted, FitsSession, FitsShot}
pub use Rattle.nit_report.specs.JournalText.{IsFirstBadEntry, IsJournalAnswer, ReadsJournal}
pub use Rattle.nit_report.specs.JournalText.{UnlessNoMemory, journal_text}
pub use Rattle.nit_report.specs.Picture.{picture, picture_header, picture_length}
