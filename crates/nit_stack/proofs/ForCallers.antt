-- What other crates cite of lists of views: searches, changes of the order, names, slots, owners and sources.
pub use Rattle.nit_stack.proofs.SlotsAndNames.{agree_by, has-name, has-put_front, has-without}
pub use Rattle.nit_stack.proofs.SlotsAndNames.{name-above, name-back, name-changed, name-front}
pub use Rattle.nit_stack.proofs.SlotsAndNames.{name-put_front, name-without, name_has_slot}
pub use Rattle.nit_stack.proofs.SlotsAndNames.{owner_named, owner_of_session, views_above}
pub use Rattle.nit_stack.proofs.SlotsAndNames.{views_backed, views_changed, views_closed}
pub use Rattle.nit_stack.proofs.SlotsAndNames.{views_fronted, views_put_front, without_none}
pub use Rattle.nit_stack.proofs.StackLemmas.{keeps_above, keeps_back, keeps_changed, keeps_front}
pub use Rattle.nit_stack.proofs.StackLemmas.{keeps_push, keeps_remove, keeps_size}
pub use Rattle.nit_stack.proofs.Lists.{All-insert, All_found, NoPair-back, NoPair-filter}
pub use Rattle.nit_stack.proofs.Lists.{NoPair-front, Put, Put-above, Put-back, Put-front}
pub use Rattle.nit_stack.proofs.Lists.{above_is, any_found, back_at, back_none, drop_at, find-map}
pub use Rattle.nit_stack.proofs.Lists.{find-without, found_fails, found_passes, found_some}
pub use Rattle.nit_stack.proofs.Lists.{front_is, insert_apart, list_any-map, map-insert, map-map}
pub use Rattle.nit_stack.proofs.Lists.{map-put_above, map-put_back, map-put_front, map-without}
pub use Rattle.nit_stack.proofs.Lists.{moved_found, none_kept, place_is, slot_at}
pub use Rattle.nit_stack.proofs.SlotsAndViews.{flip, found_in_slot, map_twice, owner_is}
pub use Rattle.nit_stack.proofs.SlotsAndViews.{owner_of_views, source_bare, source_is}
