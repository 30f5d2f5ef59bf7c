-- What lemmas use: the words of clauses, the library's lemmas, and those of the crates below.
pub use Rattle.nit_events.proofs.ForCallers.{at_most_one}
pub use Rattle.nit_focus.proofs.ForCallers.{known_after}
pub use Rattle.nit_journal.proofs.ForCallers.{all_kept, delivered_length, serve_accepted}
pub use Rattle.nit_journal.proofs.ForCallers.{within_quota}
pub use Rattle.nit_server.specs.Terms.{AllByRecursion, AreServerParts, AreSlotsNamed, Call, Close}
pub use Rattle.nit_server.specs.Terms.{Configuration, Delivery, Destroy, Device, Done, Entry, Event}
pub use Rattle.nit_server.specs.Terms.{FocusModel, HasForgotten, InputState, IsBar, IsBufferSize}
pub use Rattle.nit_server.specs.Terms.{IsConfiguration, IsFreeLabel, IsMember, IsNamedBy, IsPaid}
pub use Rattle.nit_server.specs.Terms.{IsPlace, IsRectInRange, IsServed, IsServer, IsServerInput}
pub use Rattle.nit_server.specs.Terms.{IsSessionOfClient, IsSlotView, IsStack, Item, KeepsViews}
pub use Rattle.nit_server.specs.Terms.{KeptSessionModel, MayLose, MeanSame, Member, NoPair, Point}
pub use Rattle.nit_server.specs.Terms.{Rectangle, Reply, Routed, Routing, ServerModel, Session}
pub use Rattle.nit_server.specs.Terms.{Size, SlotView, SlotsModel, StackModel, State, Status, Take}
pub use Rattle.nit_server.specs.Terms.{View, accepted, after, after_accepted, answered, bar_rows}
pub use Rattle.nit_server.specs.Terms.{buffer_left, buffer_need, by_life, changed, clicks_on}
pub use Rattle.nit_server.specs.Terms.{clicks_on_list, client_in, delivered, deliveries_of}
pub use Rattle.nit_server.specs.Terms.{delivery, ended, first_kept_session, first_session}
pub use Rattle.nit_server.specs.Terms.{first_stack, forget, fresh, fresh_in, has_handle, has_slot}
pub use Rattle.nit_server.specs.Terms.{input_after_call, is_label, is_named, is_of_session}
pub use Rattle.nit_server.specs.Terms.{is_place, is_rectangle, is_slot, is_slot_among}
pub use Rattle.nit_server.specs.Terms.{is_slot_taken, is_view, kept_session_at, layer, layer_of}
pub use Rattle.nit_server.specs.Terms.{list_any, member, most_sessions, most_slots, most_units}
pub use Rattle.nit_server.specs.Terms.{moved, moved_above, name_in, name_of, no_kept_session}
pub use Rattle.nit_server.specs.Terms.{no_size, on_view, option_map_or, owner, owner_in, pairs_of}
pub use Rattle.nit_server.specs.Terms.{pointed_by, pointer, pointer_after, put_above, put_again}
pub use Rattle.nit_server.specs.Terms.{put_back, put_front, put_own_back, put_own_front, receive}
pub use Rattle.nit_server.specs.Terms.{rectangle, refusal, relabelled, routed_as, routing}
pub use Rattle.nit_server.specs.Terms.{routing_of, serve, server_of, session, session_in}
pub use Rattle.nit_server.specs.Terms.{size_of_buffer, slot_layer, slot_of, slot_view_in}
pub use Rattle.nit_server.specs.Terms.{slot_view_layer, slots_of_all, spare, stack_after_call}
pub use Rattle.nit_server.specs.Terms.{taking, unless_it_is, view_layer, view_ref, view_slots}
pub use Rattle.nit_server.specs.Terms.{views_of, with_delivered, with_ended, with_offset}
pub use Rattle.nit_server.specs.Terms.{with_opened, with_pointer, with_rect, with_slot, with_title}
pub use Rattle.nit_server.specs.Terms.{without, without_handle, without_slot, without_view}
pub use Rattle.nit_server.specs.Terms.{without_views}
pub use Rattle.nit_stack.proofs.ForCallers.{All-insert, All_found, agree_by, found_in_slot}
pub use Rattle.nit_stack.proofs.ForCallers.{found_passes, found_some, has-name, has-put_front}
pub use Rattle.nit_stack.proofs.ForCallers.{has-without, insert_apart, keeps_above, keeps_back}
pub use Rattle.nit_stack.proofs.ForCallers.{keeps_changed, keeps_front, keeps_push, keeps_remove}
pub use Rattle.nit_stack.proofs.ForCallers.{keeps_size, map-without, name-above, name-back}
pub use Rattle.nit_stack.proofs.ForCallers.{name-changed, name-front, name-put_front, name-without}
pub use Rattle.nit_stack.proofs.ForCallers.{name_has_slot, none_kept, owner_is, owner_of_views}
pub use Rattle.nit_stack.proofs.ForCallers.{views_above, views_backed, views_changed, views_closed}
pub use Rattle.nit_stack.proofs.ForCallers.{views_fronted, views_put_front, without_none}
pub use Rattle.std.proofs.Common.{IfNone, ap, arith, get_or-set_same, length-set, subst, sym, ◌∙◌}
pub use Rattle.std.proofs.Math.ListN.{get_or-map}
pub use Rattle.std.proofs.Math.Seq.{map-set_same}
pub use Rattle.std.proofs.lemmas.Bool.{and_parts, false_from_ne_true}
pub use Rattle.std.proofs.lemmas.Bool.Decides.{nat_tests, not_from_Decides}
pub use Rattle.std.proofs.lemmas.Grind.{get_or-set_at}
pub use Rattle.std.proofs.lemmas.Int.{to_z-of_z}
pub use Rattle.std.proofs.lemmas.List.{get_or-replicate, get_or_default, length-map}
pub use Rattle.std.proofs.lemmas.List.{length-replicate, map-set, set-get_or}
pub use Rattle.std.proofs.lemmas.List.Elements.{All-from_get_or, All-get_or, All-head, All-map}
pub use Rattle.std.proofs.lemmas.List.Elements.{All-nil, All-replicate, All-tail, All-weaker}
pub use Rattle.std.proofs.lemmas.List.Folds.{sum_by-replicate}
pub use Rattle.std.proofs.lemmas.List.Sums.{count_by-le-length, length-filter, sum-map, sum_by-cons}
pub use Rattle.std.proofs.lemmas.List.Sums.{sum_by-set}
pub use Rattle.std.proofs.lemmas.Map.Views.{any-filter_same}
pub use Rattle.std.proofs.lemmas.Option.{some_pair_parts}
pub use Rattle.std.proofs.lemmas.Simd.{map-map, splat_is_map}
pub use Rattle.std.proofs.lemmas.Slice.Eq.{bytes_eq-Decides}
