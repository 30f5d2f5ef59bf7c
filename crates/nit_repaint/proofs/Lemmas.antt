-- What answers use: all that lemmas use, and this crate's lemmas.
pub use Rattle.nit_repaint.proofs.Basics.{AreSet, FitsStack, IsRepaint, Point, Put-back, Put-front}
pub use Rattle.nit_repaint.proofs.Basics.{ap, arith, eqb-true, found_passes, found_some, has_come}
pub use Rattle.nit_repaint.proofs.Basics.{ints, is_slot, is_wanted, length, list_any, nat_tests}
pub use Rattle.nit_repaint.proofs.Basics.{ne_eqb, nothing_set, once, other_count, owner_passes}
pub use Rattle.nit_repaint.proofs.Basics.{pieces_left, pixel, place_of, put_own_back, put_own_front}
pub use Rattle.nit_repaint.proofs.Basics.{refl, repainted_none, same_Some, set_same, shown_at}
pub use Rattle.nit_repaint.proofs.Basics.{slot_owns_either, slot_view_layer, source_of_number, sym}
pub use Rattle.nit_repaint.proofs.Basics.{to_come, true, wanted_of_first, with_items_is}
pub use Rattle.nit_repaint.proofs.Basics.{with_offset, with_rect, without, ◌∙◌}
pub use Rattle.nit_repaint.proofs.ViewChangeLemmas.{changes, fallen_owns, gone_change, gone_owns}
pub use Rattle.nit_repaint.proofs.ViewChangeLemmas.{moved_owns, moves, moves_above, stands_nowhere}
pub use Rattle.nit_repaint.proofs.ViewChangeLemmas.{stands_there}
pub use Rattle.nit_repaint.proofs.ViewRemovalLemmas.{more_painted, nothing_painted, piece_painted}
pub use Rattle.nit_repaint.proofs.ViewRemovalLemmas.{still_can}
pub use Rattle.nit_repaint.proofs.WantedLemmas.{all_came, all_wanted, comes_as, last_shown}
pub use Rattle.nit_repaint.proofs.WantedLemmas.{next_shown, none_came, one_shown, one_wanted}
pub use Rattle.nit_repaint.proofs.WantedLemmas.{part_of_session, part_same, run_none, run_same}
pub use Rattle.nit_repaint.proofs.WantedLemmas.{run_told, seat_session, seat_set, seat_there}
pub use Rattle.nit_repaint.proofs.WantedLemmas.{shown_as, wanted_here, whole_shown}
