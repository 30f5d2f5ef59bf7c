-- What answers use: all that lemmas use, and this crate's lemmas.
pub use Rattle.nit_server.proofs.AcceptedCalls.{backed, buffered, fronted, offset_by, placed}
pub use Rattle.nit_server.proofs.AcceptedCalls.{put_above_next, refreshed, same_layer, taken, there}
pub use Rattle.nit_server.proofs.AcceptedCalls.{titled, told, upgraded}
pub use Rattle.nit_server.specs.Terms.{lettered}
pub use Rattle.nit_server.proofs.Basics.{All_found, Configuration, Destroy, Done, IfNone, IsServed}
pub use Rattle.nit_server.proofs.Basics.{IsSlotView, KeptSessionModel, Routing, ServerModel, ap}
pub use Rattle.nit_server.proofs.Basics.{arith, bytes_eq-Decides, client_in, delivered_length}
pub use Rattle.nit_server.proofs.Basics.{ended, first_kept_session, first_session, get_or-replicate}
pub use Rattle.nit_server.proofs.Basics.{get_or-set_same, get_or_default, has_handle, is_of_session}
pub use Rattle.nit_server.proofs.Basics.{is_slot, kept_session_at, length-set, list_any, map-map}
pub use Rattle.nit_server.proofs.Basics.{most_sessions, name_of, nat_tests, not_from_Decides}
pub use Rattle.nit_server.proofs.Basics.{owner_is, pairs_of, routed_as, routing_of, session_in}
pub use Rattle.nit_server.proofs.Basics.{slot_of, slots_of_all, subst, sym, to_z-of_z, without_slot}
pub use Rattle.nit_server.proofs.Basics.{without_views, ◌∙◌}
pub use Rattle.nit_server.proofs.Openings.{begun, handles_without, has_as_held, none_of}
pub use Rattle.nit_server.proofs.Openings.{opened_server, seat_holds, seat_leaves}
pub use Rattle.nit_server.proofs.ServerInputLemmas.{attends_less, each_one, is_client, is_few}
pub use Rattle.nit_server.proofs.ServerInputLemmas.{may_lose, no_owner, owned_at, pointed_is}
pub use Rattle.nit_server.proofs.ServerInputLemmas.{routed_is}
pub use Rattle.nit_server.proofs.ServerLemmas.{has_member, has_session, is_serving, machine_is}
pub use Rattle.nit_server.proofs.ServerLemmas.{own_machine, own_member, slot_is_free, slot_of-none}
pub use Rattle.nit_server.proofs.ViewsComeAndGo.{IsGoneView, IsNewView, closed, created, destroyed}
pub use Rattle.nit_server.proofs.ViewsComeAndGo.{fewer, new_name, no_view_left, none_left, one_less}
pub use Rattle.nit_server.proofs.ViewsComeAndGo.{session_ends, session_over, stands, view_comes}
pub use Rattle.nit_server.proofs.ViewsComeAndGo.{view_goes, view_gone}
