-- The words of the library and of the crates below that are used here, and the crate's plain types.
pub use Rattle.nit_config.specs.Configuration.{Configuration, bar_rows, donation_of, is_file_name}
pub use Rattle.nit_config.specs.Configuration.{lettered, member}
pub use Rattle.nit_config.specs.ConfigurationRanges.{IsConfiguration, IsMember}
pub use Rattle.nit_config.specs.declared.config.Member.{Member}
pub use Rattle.nit_events.specs.Input.{InputState, Routing, deliveries_of, delivery, first_input}
pub use Rattle.nit_events.specs.Input.{forget, pointer_after, routed_as, routing, unless_it_is}
pub use Rattle.nit_events.specs.Ranges.{IsDevice, most_waiting}
pub use Rattle.nit_events.specs.declared.call.Call.{Call}
pub use Rattle.nit_events.specs.declared.call.Call.TheVariants.{Buffer, Close, Destroy, Take}
pub use Rattle.nit_events.specs.declared.call.Call.TheVariants.{Refresh, Upgrade}
pub use Rattle.nit_events.specs.declared.call.Reply.{Reply}
pub use Rattle.nit_events.specs.declared.call.Reply.TheVariants.{Done}
pub use Rattle.nit_events.specs.declared.device.Device.{Device}
pub use Rattle.nit_events.specs.declared.entry.Entry.{Entry}
pub use Rattle.nit_events.specs.declared.event.Delivery.{Delivery}
pub use Rattle.nit_events.specs.declared.event.Event.{Event}
pub use Rattle.nit_events.specs.declared.event.Item.{Item}
pub use Rattle.nit_events.specs.declared.event.Routed.{Routed}
pub use Rattle.nit_events.specs.declared.event.Status.{Status}
pub use Rattle.nit_focus.specs.Focus.{AllOfInput, FocusModel, clicks_on_list, pointer, with_pointer}
pub use Rattle.nit_focus.specs.Reach.{HasForgotten, IsForgottenIfKilled}
pub use Rattle.nit_glyph.specs.Lettering.{IsLettering, picture_height, plain}
pub use Rattle.nit_glyph.specs.Texts.{is_label}
pub use Rattle.nit_glyph.specs.declared.lettering.Lettering.{Lettering}
pub use Rattle.nit_journal.specs.Deliveries.{is_kill, kills}
pub use Rattle.nit_journal.specs.Projection.{reserved, views_in_use}
pub use Rattle.nit_journal.specs.Session.{Session, accepted, answered, by_call, by_handle, by_life}
pub use Rattle.nit_journal.specs.Session.{ended, first_session, has_view, queued, receive, refusal}
pub use Rattle.nit_journal.specs.Session.{serve, taking}
pub use Rattle.nit_journal.specs.StackAfter.{after_accepted, stack_after_call}
pub use Rattle.nit_journal.specs.State.{State, after, clicks_on, delivered, first_state}
pub use Rattle.nit_journal.specs.State.{input_after_call, layer, route, session, session_in}
pub use Rattle.nit_journal.specs.Steps.{IsFreeLabel, relabelled}
pub use Rattle.nit_rect.specs.Limits.{most_sessions, most_side, most_slots, most_units}
pub use Rattle.nit_rect.specs.Rectangle.{IsPlace, Rectangle, is_place, is_rectangle, rectangle}
pub use Rattle.nit_rect.specs.declared.point.Point.{Point}
pub use Rattle.nit_slots.specs.Account.{AccountModel, IsDonation, buffer_left, buffer_need}
pub use Rattle.nit_slots.specs.Account.{most_views, room, table_size, view_slots}
pub use Rattle.nit_slots.specs.Slots.{SlotsModel, is_slot_among, is_slot_taken, spare, with_slot}
pub use Rattle.nit_slots.specs.Slots.{without_slot}
pub use Rattle.nit_slots.specs.Table.{IsTable, TableModel, has_handle, slot_of, without_handle}
pub use Rattle.nit_stack.specs.LabelPlaces.{is_view}
pub use Rattle.nit_stack.specs.Orders.{changed, moved, put_above, put_again, put_back, put_front}
pub use Rattle.nit_stack.specs.Orders.{without}
pub use Rattle.nit_stack.specs.Sources.{Size, no_size, owner, owner_in, point}
pub use Rattle.nit_stack.specs.Stack.{IsBar, IsBufferSize, IsRectInRange, IsScreenSize, IsSlotView}
pub use Rattle.nit_stack.specs.Stack.{IsStack}
pub use Rattle.nit_stack.specs.Stack.{NoPair, SlotView, StackModel, fresh, fresh_in, has_slot}
pub use Rattle.nit_stack.specs.Stack.{is_named, is_of_session, is_slot, layer_of, moved_above}
pub use Rattle.nit_stack.specs.Stack.{on_view, put_own_back, put_own_front, slot_layer}
pub use Rattle.nit_stack.specs.Stack.{slot_view_in, slot_view_layer, view_ref, with_offset}
pub use Rattle.nit_stack.specs.Stack.{with_rect, with_title}
pub use Rattle.nit_stack.specs.ViewNames.{IsNamedBy, MeanSame, name_in, name_of, view_layer}
pub use Rattle.nit_stack.specs.ViewNames.{views_of}
pub use Rattle.nit_stack.specs.declared.view.View.{View}
pub use Rattle.std.specs.List.{AllByRecursion, list_any}
pub use Rattle.std.specs.Option.{option_map, option_map_or}
pub use Rattle.std.specs.Prelude.{List, [], length, map, replicate, slice_set, sum, ℕ}
