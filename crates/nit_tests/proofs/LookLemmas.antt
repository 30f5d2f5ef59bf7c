-- A look at two views whose labels stand where they are to.
use Rattle.std.proofs.Common.{◌≡◌, ◌∙◌, ℕ, ◌+◌, ◌*◌, ◌<◌, zero, suc, List, [], ◌∷◌, All, length}
use Rattle.std.proofs.Common.{refl, sym, ap, subst, arith}
use Rattle.std.specs.Prelude.{pos, Option, Some, None, IfSome, option_map, slice_get}
use Rattle.std.specs.Prelude.{slice_index_or}
use Rattle.nit_glyph.specs.Lettering.{picture_width, plain}
use Rattle.nit_stack.specs.Stack.{SlotView, StackModel, slot_view_in}
use Rattle.nit_stack.specs.LabelPlaces.{label_place}
use Rattle.nit_overlay.specs.Below.{Mode, Point, Rectangle, views_of}
use Rattle.nit_overlay.specs.declared.look.Look.{Look}
use Rattle.nit_overlay.specs.Frame.{Scenery, label_place_of}
use Rattle.nit_overlay.specs.Look.{IsLook, pixel_at, plain_look}
use Rattle.nit_tests.specs.Painted.{two_views}

-- the place, or that there is none, is that of a label of this width for the view in this slot
abbrev IsPlaceOf : StackModel → ℕ → ℕ → Option Point → Type 0
IsPlaceOf S slot width place =
    (s : SlotView) → slot_view_in slot S.views ≡ Some s
    → place ≡ option_map pixel_at (label_place S.width S.height S.bar (views_of S.views) s.view width 7)

abbrev scenery_of : StackModel → List (List ℕ) → Mode → Option ℕ → Scenery
scenery_of S labels mode focus =
    record {
      width = S.width;
      height = S.height;
      bar = S.bar;
      stack = views_of S.views;
      labels = labels;
      mode =
          mode;
      focus = focus;
      lettering = plain;
    }

abbrev IsPlacedIn : StackModel → List (List ℕ) → Mode → Option ℕ → List (Option Point) → SlotView → Type 0
IsPlacedIn S labels mode focus places s =
    slice_get places s.slot ≡ Some (option_map pixel_at (label_place_of (scenery_of S labels mode focus) s.view))

-- each of the two views, by its number from the front
view_placed : (back front : Rectangle) (a b : List ℕ) (mode : Mode) (focus : Option ℕ) (p q : Option Point)
    → length a ≡ 2 → length b ≡ 1
    → IsPlaceOf (two_views back front) 0 9 p → IsPlaceOf (two_views back front) 1 5 q
    → (k : ℕ) (d : SlotView) → k < length (two_views back front).views
    → IsPlacedIn (two_views back front) (a ∷ b ∷ []) mode focus (p ∷ q ∷ [])
    (slice_index_or (two_views back front).views k d)
view_placed back front a b mode focus p q a_long b_long at_p at_q zero d inside =
    let S = two_views back front in
    let s : SlotView = record {
      slot = 1;
      view =
          record { sid = 1; handle = 1; rect = front; ox = pos 0; oy = pos 0; title = [] };
    } in
    ap Some (subst (λ (n : ℕ).
    q ≡ option_map pixel_at (label_place 12 7 0 (views_of S.views) s.view (picture_width plain n) 7))
    (sym b_long) (at_q s refl))
view_placed back front a b mode focus p q a_long b_long at_p at_q (suc zero) d inside =
    let S = two_views back front in
    let s : SlotView = record {
      slot = 0;
      view =
          record { sid = 0; handle = 1; rect = back; ox = pos 0; oy = pos 0; title = [] };
    } in
    ap Some (subst (λ (n : ℕ).
    p ≡ option_map pixel_at (label_place 12 7 0 (views_of S.views) s.view (picture_width plain n) 7))
    (sym a_long) (at_p s refl))
view_placed back front a b mode focus p q a_long b_long at_p at_q (suc (suc k)) d inside =
    absurd (omega (arith, inside))

-- the same of a stack that is this one
views_placed : (S : StackModel) (back front : Rectangle) (a b : List ℕ) (mode : Mode) (focus : Option ℕ)
    (p q : Option Point) → S ≡ two_views back front → length a ≡ 2
    → length b ≡ 1 → IsPlaceOf S 0 9 p → IsPlaceOf S 1 5 q
    → All (IsPlacedIn S (a ∷ b ∷ []) mode focus (p ∷ q ∷ [])) S.views
views_placed S back front a b mode focus p q are a_long b_long =
    subst (λ (T : StackModel). IsPlaceOf T 0 9 p → IsPlaceOf T 1 5 q
    → All (IsPlacedIn T (a ∷ b ∷ []) mode focus (p ∷ q ∷ [])) T.views) (sym are)
    (λ at_p at_q. λ k d inside. view_placed back front a b mode focus p q a_long b_long at_p at_q k d inside)

-- there is a label for each of the two sessions
two_sizes : (S : StackModel) (back front : Rectangle) → S ≡ two_views back front → 2 ≡ length S.sizes
two_sizes S back front are = sym (ap (λ (T : StackModel). length T.sizes) are)

-- what is shown of these views, labels and places, without a focus
pub look_of_two : (look : Look) (back front : Rectangle) (a b : List ℕ) (p q : Option Point)
    → look.stack.now ≡ two_views back front → look.labels.now ≡ a ∷ b ∷ []
    → look.focus ≡ None → look.places.now ≡ p ∷ q ∷ [] → length a ≡ 2 → length b ≡ 1 → IsPlaceOf look.stack.now 0 9 p
    → IsPlaceOf look.stack.now 1 5 q → IsLook (plain_look look)
look_of_two look back front a b p q are labels focus places a_long b_long at_p at_q =
    let S = look.stack.now in
    record {
      labels = ap length labels ∙ two_sizes S back front are;
      focus = subst (λ (f : Option ℕ). IfSome f (λ session. session < length S.sizes)) (sym focus) tt;
      places = λ _.
          subst (λ (ls : List (List ℕ)). All (IsPlacedIn S ls look.mode look.focus look.places.now) S.views)
          (sym labels)
          (subst (λ (ps : List (Option Point)). All (IsPlacedIn S (a ∷ b ∷ []) look.mode look.focus ps) S.views)
          (sym places)
          (views_placed S back front a b look.mode look.focus p q are a_long b_long at_p at_q));
      lettering = (omega arith, omega arith);
    }
