-- The words that clauses use: those that come from outside, and those of this crate.
pub use Rattle.nit_server.specs.Below.{IsLettering, IsScreenSize, Lettering, lettered}
pub use Rattle.nit_server.specs.Below.{picture_height, plain}
pub use Rattle.nit_server.specs.Below.{AllByRecursion, Buffer, Call, Close, Configuration, Delivery}
pub use Rattle.nit_server.specs.Below.{Destroy, Device, Done, Entry, Event, FocusModel}
pub use Rattle.nit_server.specs.Below.{HasForgotten, InputState, IsBar, IsBufferSize}
pub use Rattle.nit_server.specs.Below.{IsConfiguration, IsDevice, IsDonation, IsForgottenIfKilled}
pub use Rattle.nit_server.specs.Below.{IsFreeLabel, IsMember, IsNamedBy, IsPlace, IsRectInRange}
pub use Rattle.nit_server.specs.Below.{IsSlotView, IsStack, IsTable, Item, MeanSame, Member, NoPair}
pub use Rattle.nit_server.specs.Below.{Point, Rectangle, Reply, Routed, Routing, Session, Size}
pub use Rattle.nit_server.specs.Below.{SlotView, SlotsModel, StackModel, State, Status, Take}
pub use Rattle.nit_server.specs.Below.{Upgrade, View, accepted, after, after_accepted, answered}
pub use Rattle.nit_server.specs.Below.{bar_rows, buffer_left, buffer_need, by_call, by_handle}
pub use Rattle.nit_server.specs.Below.{by_life, changed, clicks_on, clicks_on_list, delivered}
pub use Rattle.nit_server.specs.Below.{deliveries_of, delivery, donation_of, ended, first_input}
pub use Rattle.nit_server.specs.Below.{first_session, first_state, forget, fresh, fresh_in}
pub use Rattle.nit_server.specs.Below.{has_handle, has_slot, has_view, input_after_call}
pub use Rattle.nit_server.specs.Below.{is_file_name, is_kill, is_label, is_named, is_of_session}
pub use Rattle.nit_server.specs.Below.{is_place, is_rectangle, is_slot, is_slot_among}
pub use Rattle.nit_server.specs.Below.{is_slot_taken, is_view, kills, layer, layer_of, list_any}
pub use Rattle.nit_server.specs.Below.{member, most_sessions, most_side, most_slots, most_units}
pub use Rattle.nit_server.specs.Below.{most_views, most_waiting, moved, moved_above, name_in}
pub use Rattle.nit_server.specs.Below.{name_of, no_size, on_view, option_map, option_map_or, owner}
pub use Rattle.nit_server.specs.Below.{owner_in, point, pointer, pointer_after, put_above}
pub use Rattle.nit_server.specs.Below.{put_again, put_back, put_front, put_own_back, put_own_front}
pub use Rattle.nit_server.specs.Below.{queued, receive, rectangle, refusal, relabelled, reserved}
pub use Rattle.nit_server.specs.Below.{route, routed_as, routing, serve, session, session_in}
pub use Rattle.nit_server.specs.Below.{slot_layer, slot_of, slot_view_in, slot_view_layer, spare}
pub use Rattle.nit_server.specs.Below.{stack_after_call, taking, unless_it_is, view_layer, view_ref}
pub use Rattle.nit_server.specs.Below.{view_slots, views_in_use, views_of, with_offset}
pub use Rattle.nit_server.specs.Below.{with_pointer, with_rect, with_slot, with_title, without}
pub use Rattle.nit_server.specs.Below.{without_handle, without_slot}
pub use Rattle.nit_server.specs.KeptSession.{IsPaid, KeptSessionModel}
pub use Rattle.nit_server.specs.Seats.{with_opened}
pub use Rattle.nit_server.specs.Server.{AreServerParts, AreSlotsNamed, IsServed, IsServer}
pub use Rattle.nit_server.specs.Server.{IsSessionOfClient, KeepsViews, ServerModel, kept_session_at}
pub use Rattle.nit_server.specs.Server.{no_kept_session, pairs_of, server_of, size_of_buffer}
pub use Rattle.nit_server.specs.Server.{state_of}
pub use Rattle.nit_server.specs.ServerInput.{IsServerInput, MayLose, client_in, killed_in}
pub use Rattle.nit_server.specs.ServerInput.{pointed_by, routing_of, with_delivered, with_routed}
pub use Rattle.nit_server.specs.ServerOpening.{first_kept_session, first_stack, slots_of_all}
pub use Rattle.nit_server.specs.ViewsTaken.{with_ended, without_view, without_views}
