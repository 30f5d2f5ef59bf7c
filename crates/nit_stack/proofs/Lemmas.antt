-- What answers use: all that lemmas use, and this crate's lemmas.
pub use Rattle.nit_stack.proofs.Basics.{All-nil, All-replicate, IsBufferSize, IsSlotView, IsStack}
pub use Rattle.nit_stack.proofs.Basics.{SlotView, among, ap, arith, covers, filter_same, find_at}
pub use Rattle.nit_stack.proofs.Basics.{fresh, get_or-map, get_or-set_same, in_bar, ints}
pub use Rattle.nit_stack.proofs.Basics.{is_session, is_slot, is_view, layer_in, length, length-map}
pub use Rattle.nit_stack.proofs.Basics.{length-replicate, length-set, list_any, map-set, no_size}
pub use Rattle.nit_stack.proofs.Basics.{position_or_len, put_own_back, put_own_front, refl, size}
pub use Rattle.nit_stack.proofs.Basics.{size_of, slice_get_read, slot_view, subst, sym, to_z-of_z}
pub use Rattle.nit_stack.proofs.Basics.{view_layer, with_offset, with_rect, with_title, without}
pub use Rattle.nit_stack.proofs.Basics.{◌∙◌}
pub use Rattle.nit_stack.proofs.Lists.{Put-back, Put-front, above_is, back_at, back_none, drop_at}
pub use Rattle.nit_stack.proofs.Lists.{find-map, front_is, list_any-map, map-put_back, map-without}
pub use Rattle.nit_stack.proofs.Lists.{place_found, place_is, place_within, slot_at}
pub use Rattle.nit_stack.proofs.SlotsAndNames.{agree_by, has-above, has-changed, has-moved}
pub use Rattle.nit_stack.proofs.SlotsAndNames.{has-name, has-put_front, has-without, moved_to}
pub use Rattle.nit_stack.proofs.SlotsAndNames.{name-above, name-back, name-changed, name-front}
pub use Rattle.nit_stack.proofs.SlotsAndNames.{name-put_front, name-without, name_has_slot}
pub use Rattle.nit_stack.proofs.SlotsAndNames.{name_is_there, owner_named, owner_of_session}
pub use Rattle.nit_stack.proofs.SlotsAndNames.{views_above, views_backed, views_changed}
pub use Rattle.nit_stack.proofs.SlotsAndNames.{views_closed, views_fronted, views_put_front}
pub use Rattle.nit_stack.proofs.SlotsAndNames.{views_without, without_none, without_one}
pub use Rattle.nit_stack.proofs.StackLemmas.{keeps_above, keeps_back, keeps_changed, keeps_front}
pub use Rattle.nit_stack.proofs.StackLemmas.{keeps_layer, keeps_push, keeps_remove, keeps_size}
pub use Rattle.nit_stack.proofs.StackLemmas.{opened_as}
pub use Rattle.nit_stack.proofs.SlotsAndViews.{all_below, backed, few, fronted, model, others_kept}
pub use Rattle.nit_stack.proofs.SlotsAndViews.{owner_is, owner_of_views, place_in_order, pushed}
pub use Rattle.nit_stack.proofs.SlotsAndViews.{raised, ref_at, ref_behind, ref_stands, rewritten}
pub use Rattle.nit_stack.proofs.SlotsAndViews.{room_again, room_for, seat_sound, slot_kept}
pub use Rattle.nit_stack.proofs.SlotsAndViews.{source_bare, source_is, there_at, view_at, view_in}
pub use Rattle.nit_stack.proofs.SlotsAndViews.{written_kept}
