-- The rows of a view: its label there, and what is shown beside it.
use Rattle.std.proofs.Common.{nat_le, Bool, List, None, Option, Some, ap, arith, false, length, pos, refl, sym, true}
use Rattle.std.proofs.Common.{ℕ, ◌&&◌, ◌+◌, ◌<◌, ◌||◌, ◌∙◌, ◌≡◌, ◌≤◌}
use Rattle.nit_overlay.proofs.Basics.{Flat, Kill, Lettering, Mode, Point, Scenery, View, Xray}
use Rattle.nit_overlay.proofs.Basics.{by_label, by_mode, covers, ints, is_on_ring, is_same}
use Rattle.nit_overlay.proofs.Basics.{label_place_of, nat_lt, nat_tests, option_map, picture_height}
use Rattle.nit_overlay.proofs.Basics.{picture_width, point, rectangle, stripe_rule, view_text}
use Rattle.nit_overlay.proofs.Basics.{view_word, word_by}
use Rattle.nit_overlay.specs.Below.{Rule, Span, Tag}
use Rattle.nit_overlay.specs.Look.{draws_labels, pixel_at}
use Rattle.nit_overlay.specs.Span.{has_at_end}
use Rattle.nit_overlay.specs.Stripe.{mode_rule, tag_rule}

-- in the rows of a picture, its columns alone tell whether a pixel lies in it
in_columns_of : (left top wide high x z : ℕ) → top ≤ z → z < top + high
    → covers (rectangle (pos left) (pos top) wide high) (point x z) ≡ (nat_le left x && nat_lt x (left + wide))
in_columns_of left top wide high x z from less = grind (arith, nat_tests, ints)

-- the label that stands at q, in its rows
drawn_at : (l : Lettering) (text : List ℕ) (q : ℕ × ℕ) (rule : Rule) (x z w : ℕ)
    → q.1 ≤ z → z < q.1 + picture_height l
    → word_by (tag_rule (Some (record { text = text; lettering = l; left = q.0; top = q.1 })) x rule) x z w
    ≡ by_label l text (Some q) (point x z) (word_by rule x z w)
drawn_at l text q rule x z w from less =
    let here = in_columns_of q.0 q.1 (picture_width l (length text)) (picture_height l) x z from less in
    grind (arith, here)

-- the label of a view whose place is p
pub drawn : (l : Lettering) (text is : List ℕ) (o : Option (ℕ × ℕ)) (p : Point) (left top : ℕ)
    (rule : Rule) (x z w : ℕ) → is ≡ text → Some p ≡ option_map pixel_at o
    → ((q : ℕ × ℕ) → p ≡ pixel_at q → (left ≡ q.0) × (top ≡ q.1))
    → top ≤ z → z < top + picture_height l
    → word_by (tag_rule (Some (record { text = is; lettering = l; left = left; top = top })) x rule) x z w
    ≡ by_label l text o (point x z) (word_by rule x z w)
drawn l text is None p left top rule x z w same e place from less = absurd (grind arith)
drawn l text is (Some q) p left top rule x z w same e place from less =
    let at = place q (grind arith) in
    let above : q.1 ≤ z = omega (arith, at, from) in
    let below : z < q.1 + picture_height l = omega (arith, at, less) in
    rw (same, at.0, at.1) (drawn_at l text q rule x z w above below)

by_mode_rule : (m : Mode) (ring focused : Bool) (x z w : ℕ) → draws_labels m ≡ true
    → word_by (mode_rule m ring focused) x z w ≡ by_mode m ring focused w
by_mode_rule m ring focused x z w draws = grind arith

labelled_view : (m : Mode) (s : Scenery) (v : View) (p : Point) (w : ℕ) → draws_labels m ≡ true
    → view_word m s v p w ≡ by_label s.lettering (view_text s v) (label_place_of s v) p
    (by_mode m (is_on_ring v.rect p) (is_same s.focus (Some v.sid)) w)
labelled_view Flat s v p w draws = absurd (grind arith)
labelled_view Xray s v p w draws = refl
labelled_view Kill s v p w draws = refl

-- a row of a view, by the facts of its label, its ring and its focus
module _ (m : Mode) (s : Scenery) (v : View) (edge focused : Bool) (columns : Span) (tag : Option Tag) (x z w : ℕ)
    (ring : (has_at_end columns x || edge) ≡ is_on_ring v.rect (point x z))
    (focus : focused ≡ is_same s.focus (Some v.sid)) where
  by_draws : (b : Bool) → draws_labels m ≡ b → (draws_labels m ≡ false → tag ≡ None)
      → (draws_labels m ≡ true → (rule : Rule) → word_by (tag_rule tag x rule) x z w
      ≡ by_label s.lettering (view_text s v) (label_place_of s v) (point x z) (word_by rule x z w))
      → word_by (tag_rule tag x (mode_rule m (has_at_end columns x || edge) focused)) x z w
      ≡ view_word m s v (point x z) w
  by_draws true draws none some =
      rw (ring, focus) (some draws (mode_rule m (is_on_ring v.rect (point x z)) (is_same s.focus (Some v.sid)))
      ∙ ap (by_label s.lettering (view_text s v) (label_place_of s v) (point x z))
      (by_mode_rule m (is_on_ring v.rect (point x z)) (is_same s.focus (Some v.sid)) x z w draws)
      ∙ sym (labelled_view m s v (point x z) w draws))
  by_draws false draws none some = rw (none draws) (undrawn m draws)
    where
      undrawn : (m : Mode) → draws_labels m ≡ false
          → word_by (mode_rule m (has_at_end columns x || edge) focused) x z w ≡ view_word m s v (point x z) w
      undrawn Flat draws = refl
      undrawn Xray draws = absurd (grind arith)
      undrawn Kill draws = absurd (grind arith)

  pub row_words : (draws_labels m ≡ false → tag ≡ None)
      → (draws_labels m ≡ true → (rule : Rule) → word_by (tag_rule tag x rule) x z w
      ≡ by_label s.lettering (view_text s v) (label_place_of s v) (point x z) (word_by rule x z w))
      → word_by (stripe_rule (record { mode = m; focused = focused; edge = edge; columns = columns; tag = tag }) x) x z w
      ≡ view_word m s v (point x z) w
  row_words none some = by_draws (draws_labels m) refl none some
