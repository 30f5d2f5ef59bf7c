-- What answers use: all that lemmas use, and this crate's lemmas.
pub use Rattle.nit_overlay.proofs.AreaLemmas.{ColumnsPainted, RowsPainted, RowsSoFar, area_as}
pub use Rattle.nit_overlay.proofs.AreaLemmas.{bar_area, bar_black, bar_done, bar_row, bar_unowned}
pub use Rattle.nit_overlay.proofs.AreaLemmas.{in_columns, in_rows, last_row, more_columns}
pub use Rattle.nit_overlay.proofs.AreaLemmas.{more_rows, next_of, no_columns, no_rows}
pub use Rattle.nit_overlay.proofs.Basics.{All_found, IsPlaced, IsSlotView, Text, ap, arith}
pub use Rattle.nit_overlay.proofs.Basics.{bar_word, frame, is_slot, length, max, mul-le-mul_right}
pub use Rattle.nit_overlay.proofs.Basics.{nat_tests, option_map, point, rules, scenery, shown}
pub use Rattle.nit_overlay.proofs.Basics.{stripe_rule, sym, unowned_word, view_word, word_by, ℕ}
pub use Rattle.nit_overlay.proofs.Basics.{◌∙◌}
pub use Rattle.nit_overlay.proofs.FrameLemmas.{RunSoFar, bar_run, bare_run, frame_fits}
pub use Rattle.nit_overlay.proofs.FrameLemmas.{get_or-frame, is_frame, is_whole, kill_tints}
pub use Rattle.nit_overlay.proofs.FrameLemmas.{length-frame, no_owner, owned_run, owner_in_slot}
pub use Rattle.nit_overlay.proofs.FrameLemmas.{plain_is_label, rect_shown, renewed, same_frame}
pub use Rattle.nit_overlay.proofs.FrameLemmas.{shown_of_owner, shown_unowned, xray_bright}
