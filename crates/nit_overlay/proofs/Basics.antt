-- What lemmas use: the words of clauses, the library's lemmas, and those of the crates below.
pub use Rattle.nit_overlay.specs.Terms.{Area, Flat, IsAreaBy, IsBright, IsMark, IsOfNamed}
pub use Rattle.nit_overlay.specs.Terms.{IsOverlaid, IsPainted, IsPlaced, IsReddish, IsRenewed}
pub use Rattle.nit_overlay.specs.Terms.{IsShownIn, IsSlotView, IsWord, Kill, LetteredLook, Lettering}
pub use Rattle.nit_overlay.specs.Terms.{Mode, NoPair, picture_height, plain, plain_look, text_dot}
pub use Rattle.nit_overlay.specs.Terms.{Point, Rectangle, Scenery, SlotView, Text, View, ViewRef}
pub use Rattle.nit_overlay.specs.Terms.{Xray, bar_text, bar_word, bare_word, between, by_label}
pub use Rattle.nit_overlay.specs.Terms.{by_mode, codes, covers, frame, grey_word, has_dot}
pub use Rattle.nit_overlay.specs.Terms.{in_area, in_bar, in_label, ink_of, is_dot_of_text}
pub use Rattle.nit_overlay.specs.Terms.{is_in_picture, is_in_text, is_label_dot, is_on_ring}
pub use Rattle.nit_overlay.specs.Terms.{is_same, is_slot, is_some, label_place_of, max, nat_lt}
pub use Rattle.nit_overlay.specs.Terms.{option_map, owner, owner_word, picture_width, pixel, point}
pub use Rattle.nit_overlay.specs.Terms.{range_with_len, rectangle, same_slot, scenery, seat_owner}
pub use Rattle.nit_overlay.specs.Terms.{shown, slice_get, slot_view_in, stripe_rule, unowned_word}
pub use Rattle.nit_overlay.specs.Terms.{view_ref, view_text, view_word, views_of, white_word}
pub use Rattle.nit_overlay.specs.Terms.{word_by}
pub use Rattle.nit_stack.proofs.ForCallers.{All_found, owner_is, owner_of_views}
pub use Rattle.nit_word.proofs.ForCallers.{column_and_row}
pub use Rattle.std.proofs.Common.{ap, arith, length, rules, sym, ℕ, ◌∙◌}
pub use Rattle.std.proofs.Math.Nat.{div-lt_iff_lt-mul, mul-le-mul_right}
pub use Rattle.std.proofs.lemmas.Bool.{cases_lt, le-ltb, true_from_ne_false}
pub use Rattle.std.proofs.lemmas.Bool.Decides.{nat_tests}
pub use Rattle.std.proofs.lemmas.Grind.{same_number_lists}
pub use Rattle.std.proofs.lemmas.Int.{ints}
pub use Rattle.std.proofs.lemmas.List.{ext_get_or, get_or_default, places}
pub use Rattle.std.proofs.lemmas.List.Edits.{get_or-between}
pub use Rattle.std.proofs.lemmas.List.FromFn.{get_or-map-range_with_len, length-map-range_with_len}
pub use Rattle.std.proofs.lemmas.Nat.{div-mul-add, le-div, mod-mul-add}
pub use Rattle.std.proofs.lemmas.Option.{slice_get_within}
