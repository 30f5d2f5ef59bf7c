-- The words of the library and of the crates below that are used here, and the crate's plain types.
pub use Rattle.nit_audit.specs.declared.auditing.Verdict.{Verdict}
pub use Rattle.nit_audit.specs.declared.keys.Change.{Change}
pub use Rattle.nit_audit.specs.declared.keys.Which.{Which}
pub use Rattle.nit_config.specs.Configuration.{Configuration, bar_rows, donation_of, member}
pub use Rattle.nit_config.specs.ConfigurationRanges.{IsConfiguration, IsMember}
pub use Rattle.nit_config.specs.declared.config.Member.{Member}
pub use Rattle.nit_events.specs.Input.{InputState, Routing, deliveries_of, delivery, first_input}
pub use Rattle.nit_events.specs.Input.{forget, pointer_after, routed_as, routing}
pub use Rattle.nit_events.specs.Ranges.{IsDevice, most_read}
pub use Rattle.nit_events.specs.declared.call.Call.{Call}
pub use Rattle.nit_events.specs.declared.call.Call.TheVariants.{Close, Place, Take, Title}
pub use Rattle.nit_events.specs.declared.call.Reply.{Reply}
pub use Rattle.nit_events.specs.declared.device.Device.{Device}
pub use Rattle.nit_events.specs.declared.entry.Entry.{Entry}
pub use Rattle.nit_events.specs.declared.event.Delivery.{Delivery}
pub use Rattle.nit_events.specs.declared.event.Event.{Event}
pub use Rattle.nit_events.specs.declared.event.Item.{Item}
pub use Rattle.nit_events.specs.declared.event.Routed.{Routed}
pub use Rattle.nit_events.specs.declared.event.Status.{Status}
pub use Rattle.nit_focus.specs.Focus.{FocusModel, clicks_on_list, pointer, with_pointer}
pub use Rattle.nit_glyph.specs.Texts.{is_title}
pub use Rattle.nit_journal.specs.Projection.{alone, projection, replies_to}
pub use Rattle.nit_journal.specs.Replay.{Agrees, IsLegal, IsOpen, LegalFrom}
pub use Rattle.nit_journal.specs.Session.{Answered, Session, accepted, by_life, first_session}
pub use Rattle.nit_journal.specs.Session.{given, receive, refusal, serve, taking}
pub use Rattle.nit_journal.specs.StackAfter.{after_accepted, after_deliveries, is_accepted}
pub use Rattle.nit_journal.specs.StackAfter.{new_view}
pub use Rattle.nit_journal.specs.State.{State, after, clicks_on, delivered, first_state}
pub use Rattle.nit_journal.specs.State.{input_after_call, layer, route, session_in}
pub use Rattle.nit_journal.specs.WholeJournals.{Does, IsWhole, Shoots, UserAction, calls_of, done}
pub use Rattle.nit_journal.specs.WholeJournals.{left, next_phase, phases_along, to_do}
pub use Rattle.nit_journal.specs.WholeJournals.{user_actions_of}
pub use Rattle.nit_plan.specs.Calls.{calls_from, calls_to_make, user_actions_from}
pub use Rattle.nit_plan.specs.Calls.{user_actions_to_do}
pub use Rattle.nit_rect.specs.Limits.{most_sessions}
pub use Rattle.nit_rect.specs.Rectangle.{covers, is_rectangle, rectangle}
pub use Rattle.nit_script.specs.Grammar.{most_lines}
pub use Rattle.nit_script.specs.Spelling.{FitsInputLine}
pub use Rattle.nit_script.specs.declared.line.InputLine.{InputLine}
pub use Rattle.nit_script.specs.declared.line.Line.{Line}
pub use Rattle.nit_stack.specs.LabelPlaces.{is_view}
pub use Rattle.nit_stack.specs.Orders.{changed, moved, put_above, put_back, put_front, without}
pub use Rattle.nit_stack.specs.Sources.{in_bar, owner}
pub use Rattle.nit_stack.specs.declared.view.View.{View}
pub use Rattle.slab.specs.Slab.{Slab, Updates, get}
pub use Rattle.std.specs.List.{AllByRecursion, insert, list_any, position_or_len}
pub use Rattle.std.specs.List.Sorted.{IsNonDecreasing}
pub use Rattle.std.specs.Option.{option_map}
pub use Rattle.std.specs.Prelude.{Err, IfOk, IfSome, IsSomeAnd, IsTrue, Ok, OnOk, Result, is_some}
pub use Rattle.std.specs.Prelude.{slice_index_or, slice_set, vec_len}
