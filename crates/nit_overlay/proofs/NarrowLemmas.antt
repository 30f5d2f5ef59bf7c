-- Narrow runs are painted pixel by pixel.
use Rattle.std.proofs.Common.{Bool, List, ap, inl, inr, sym, ◌||◌, None, Option, Some, arith, false}
use Rattle.std.proofs.Common.{length, refl}
use Rattle.std.proofs.Common.{slice_index, true, ℕ, ◌+◌, ◌<◌, ◌∙◌, ◌≡◌, ◌≤◌, set}
use Rattle.nit_overlay.proofs.Basics.{Flat, IsPainted, Kill, Mode, Point, Scenery, View, Xray}
use Rattle.nit_overlay.proofs.Basics.{in_label, is_in_text, is_on_ring, is_same}
use Rattle.nit_overlay.proofs.Basics.{view_word, word_by}
use Rattle.nit_overlay.specs.Below.{Lettering, Stripe}
use Rattle.nit_overlay.specs.Terms.{by_label, by_mode, draws_labels, has_at_end, label_place_of, mode_rule}
use Rattle.nit_overlay.specs.Terms.{stripe_rule, view_text}
use Rattle.std.proofs.lemmas.Bool.{cases_eq}
use Rattle.std.proofs.lemmas.List.{get_or-set_other, get_or-set_same}

-- one pixel more is painted
pub painted_more : (f : ℕ → ℕ → ℕ) (raw old now : List ℕ) (from x w : ℕ) → IsPainted f raw old now from x → from ≤ x
    → x < length now → w ≡ f x (slice_index raw x) → IsPainted f raw old (set now x w) from (x + 1)
painted_more f raw old now from x w far le within is = record {
  painted = λ k from_le lt. elim (cases_eq k x) [
    | inl same ↦ rw (same, get_or-set_same now x w 0 within) is
    | inr differ ↦ get_or-set_other now x k w 0 differ ∙ far.painted k from_le (omega arith)
  ];
  before = λ k lt. get_or-set_other now x k w 0 (λ e. absurd (omega arith)) ∙ far.before k lt;
  after = λ k ge. get_or-set_other now x k w 0 (λ e. absurd (omega arith)) ∙ far.after k (omega arith);
}

-- the rule of a row that meets no label
pub plain_rule : (s : Stripe) (x : ℕ) → s.tag ≡ None
    → stripe_rule s x ≡ mode_rule s.mode (has_at_end s.columns x || s.edge) s.focused
plain_rule s x none = rw none refl

unlabelled : (l : Lettering) (text : List ℕ) (place : Option (ℕ × ℕ)) (p : Point) (w : ℕ) → is_in_text l text place p ≡ false
    → by_label l text place p w ≡ w
unlabelled l text place p w e = grind arith

-- the word of a view's pixel outside its label
pub plain_words : (mode : Mode) (s : Scenery) (v : View) (p : Point) (ring focused : Bool) (x y w : ℕ)
    → ring ≡ is_on_ring v.rect p → focused ≡ is_same s.focus (Some v.sid)
    → (draws_labels mode ≡ true → in_label s v p ≡ false)
    → word_by (mode_rule mode ring focused) x y w ≡ view_word mode s v p w
plain_words Flat s v p ring focused x y w r f out = refl
plain_words Xray s v p ring focused x y w r f out =
    by_ring ring focused
    ∙ ap (λ b. by_mode Xray b focused w) r ∙ ap (λ b. by_mode Xray (is_on_ring v.rect p) b w) f
    ∙ sym (unlabelled s.lettering (view_text s v) (label_place_of s v) p _ (out refl))
  where
    by_ring : (r f : Bool) → word_by (mode_rule Xray r f) x y w ≡ by_mode Xray r f w
    by_ring true true = refl
    by_ring true false = refl
    by_ring false true = refl
    by_ring false false = refl
plain_words Kill s v p ring focused x y w r f out =
    by_ring ring
    ∙ ap (λ b. by_mode Kill b focused w) r ∙ ap (λ b. by_mode Kill (is_on_ring v.rect p) b w) f
    ∙ sym (unlabelled s.lettering (view_text s v) (label_place_of s v) p _ (out refl))
  where
    by_ring : (r : Bool) → word_by (mode_rule Kill r focused) x y w ≡ by_mode Kill r focused w
    by_ring true = refl
    by_ring false = refl
