-- What the painting of one piece leaves.
use Rattle.nit_repaint.proofs.Basics.{CanPaint, CutterModel, HoldBuffers, IsRemovedFrom, IsRepaint}
use Rattle.nit_repaint.proofs.Basics.{NoPair, Painter, PixelSource, Point, Rectangle, Repainted}
use Rattle.nit_repaint.proofs.Basics.{Sight, SlotView, StackModel, and_parts, covers, drop_all}
use Rattle.nit_repaint.proofs.Basics.{drop_at, has_come, has_pixel, is_of_session, is_slot}
use Rattle.nit_repaint.proofs.Basics.{list_any, nat_tests, option_map_or, other_count, owner_in}
use Rattle.nit_repaint.proofs.Basics.{owner_of_views, owner_passes, pixel, repainted_same}
use Rattle.nit_repaint.proofs.Basics.{repainted_union, same_slot, seen, size_of, slot_view_covers}
use Rattle.nit_repaint.proofs.Basics.{source_in, source_of_number, source_under, times, to_come}
use Rattle.nit_repaint.proofs.Basics.{uncovered, without, without_session}
use Rattle.std.proofs.Common.{Bool, IsTrue, List, Some, [], add-one, ap, arith, drop, eq-eqb, false}
use Rattle.std.proofs.Common.{find, length, ne_eqb, not, option_map, refl, slice_get, suc, sym}
use Rattle.std.proofs.Common.{true, zero, ℕ, ◌&&◌, ◌+◌, ◌<◌, ◌∙◌, ◌∷◌, ◌≡◌, ◌≤◌}
use Rattle.nit_repaint.proofs.ViewChangeLemmas.{found_not, marked_same, other_slot, owned_not}
use Rattle.nit_repaint.proofs.ViewChangeLemmas.{without_none}
use Rattle.nit_repaint.proofs.WantedLemmas.{one_came}

-- loads leave the sizes of what all sessions have
pub still_held : (s : StackModel) (before after : ℕ → Sight) (loads : ℕ → List (ℕ × ℕ))
    → ((t : ℕ) → after t ≡ seen (before t) (loads t)) → HoldBuffers s before → HoldBuffers s after
still_held s before after loads e h t = rw (e t) (h t)

-- so more can be painted
pub still_can : {source : ℕ → PixelSource} {all : ℕ → Bool} {x y : ℕ → Sight} {a b : Painter} (s : StackModel)
    → IsRepaint source all x y a b → CanPaint s a x → CanPaint s b y
still_can {x = x} {y = y} s was can = record {
  pixels = was.kept.count ∙ can.pixels;
  held = still_held s x y was.painted.loads was.painted.sights can.held;
}

-- ==== Pixels that are painted one set after the other.

-- nothing yet
pub nothing_painted : {source : ℕ → PixelSource} {all : ℕ → Bool} {x y : ℕ → Sight} {p : Painter}
    → Repainted source all (length p.raw.items) x y p.raw.items p.raw.items → IsRepaint source all x y p p
nothing_painted painted = record { painted = painted; kept = record { count = refl; room = refl } }

-- and more is painted
pub more_painted : {source : ℕ → PixelSource} {first second all : ℕ → Bool} {x y z : ℕ → Sight} {a b c : Painter}
    {k : CutterModel} → IsRepaint source first x y a b → k.room ≡ b.cutter.room
    → IsRepaint source second y z (record b { cutter = k }) c
    → Repainted source all (length a.raw.items) x z a.raw.items c.raw.items → IsRepaint source all x z a c
more_painted was room new painted = record {
  painted = painted;
  kept = record { count = new.kept.count ∙ was.kept.count; room = new.kept.room ∙ room ∙ was.kept.room };
}

-- a piece that the cutter handed out is painted
pub piece_painted : (s : StackModel) {x y z : ℕ → Sight} {a b c : Painter} (next : CutterModel) (r : Rectangle)
    → next.room ≡ b.cutter.room
    → ((p : Point) → to_come a.cutter s p ≤ 1) → ((p : Point) → to_come b.cutter s p ≤ to_come a.cutter s p)
    → ((p : Point) → to_come b.cutter s p ≡ to_come next s p + times r p)
    → ((p : Point) → IsTrue (covers r p) → to_come b.cutter s p ≡ 1)
    → IsRepaint (source_of_number s) (has_come a.cutter b.cutter s) x y a b
    → IsRepaint (source_of_number s) (has_pixel s.width r) y z (record b { cutter = next }) c
    → IsRepaint (source_of_number s) (has_come a.cutter next s) x z a c
piece_painted s {a = a} {b = b} next r room once less count came was new =
    more_painted was room new (one_came s a.cutter b.cutter next r once less count came was.painted
    (other_count _ _ _ _ _ _ _ _ was.kept.count new.painted))

-- ==== What views uncover when they are taken away.

-- ---- all views of a session go, from the rear one on

-- what the rear-most view of a session leaves to be owned
pub record Rear (is : SlotView → Bool) (k : ℕ) (q : SlotView → Bool) (xs : List SlotView) : Type 0 where
  pub owned : option_map_or is (find q (without (is_slot k) xs)) false
      ≡ (option_map_or is (find q xs) false && not (option_map_or (is_slot k) (find q xs) false))
  pub seen_through : option_map_or (is_slot k) (find q xs) false ≡ true
      → find q (without (is_slot k) xs) ≡ find q (without is xs)
  pub own : option_map_or (is_slot k) (find q xs) false ≡ true → option_map_or is (find q xs) false ≡ true

-- no view behind one of a list of views apart stands in its slot
others_of : (k : ℕ) (y x : SlotView) (ys : List SlotView) → list_any (same_slot y) ys ≡ false
    → slice_get (y ∷ ys) 0 ≡ Some x → x.slot ≡ k → list_any (is_slot k) ys ≡ false
others_of k y x ys apart at slot =
    let same : y ≡ x = cc in
    rw (← slot, ← same) apart

pub rear : (is : SlotView → Bool) (k : ℕ) (q : SlotView → Bool) (xs : List SlotView) (i : ℕ) (x : SlotView)
    → NoPair same_slot xs → slice_get xs i ≡ Some x → x.slot ≡ k → is x ≡ true → list_any is (drop (suc i) xs) ≡ false
    → Rear is k q xs
rear is k q [] i x apart at slot own none = cc
rear is k q (y ∷ ys) zero x apart at slot own none =
    let others : list_any (is_slot k) ys ≡ false = others_of k y x ys apart.0 at slot in
    let left = without_none (is_slot k) ys others in
    let bare = without_none is ys none in
    record {
      owned = grind (arith, nat_tests, left, bare, found_not is q ys none);
      seen_through = λ e. grind (arith, nat_tests, left, bare);
      own = λ e. grind (arith, nat_tests, found_not (is_slot k) q ys others);
    }
rear is k q (y ∷ ys) (suc i) x apart at slot own none =
    let other = other_slot ys i x y apart.0 at in
    let r = rear is k q ys i x apart.1 at slot own none in
    record {
      owned = grind (arith, nat_tests, other, r.owned);
      seen_through = λ e. grind (arith, nat_tests, other, r.seen_through);
      own = λ e. grind (arith, nat_tests, other, r.own);
    }

-- ---- the list that is left

-- what is behind the view stays, and so do the views of others, and there is one view less
taken_out : (is : SlotView → Bool) (k : ℕ) (xs : List SlotView) (i : ℕ) (x : SlotView) → NoPair same_slot xs
    → slice_get xs i ≡ Some x → x.slot ≡ k → is x ≡ true → (drop i (without (is_slot k) xs) ≡ drop (suc i) xs)
    × (without is (without (is_slot k) xs) ≡ without is xs) × (suc (length (without (is_slot k) xs)) ≡ length xs)
taken_out is k [] i x apart at slot own = cc
taken_out is k (y ∷ ys) zero x apart at slot own =
    let left = without_none (is_slot k) ys (others_of k y x ys apart.0 at slot) in
    (grind (arith, nat_tests, left), grind (arith, nat_tests, left), grind (arith, nat_tests, left))
taken_out is k (y ∷ ys) (suc i) x apart at slot own =
    let other = other_slot ys i x y apart.0 at in
    let rest = taken_out is k ys i x apart.1 at slot own in
    (grind (arith, nat_tests, other, rest.0), grind (arith, other, rest.1), grind (arith, other, rest.2))

-- ---- stacks

-- what a view owns shows a view behind it when it goes, and so when all views of its session go
pub same_source : (sid k : ℕ) (s : StackModel) (p : Point) → Rear (is_of_session sid) k (slot_view_covers p) s.views
    → owner_passes (is_slot k) s p ≡ true
    → source_in (record s { views = without (is_slot k) s.views }) p ≡ source_in (without_session sid s) p
same_source sid k s p r owns =
    ap (source_under (size_of s.sizes) p) (owner_of_views s.bar (without (is_slot k) s.views) p
    ∙ ap (option_map (λ (a : SlotView). a.view)) same_owner
    ∙ sym (owner_of_views s.bar (without (is_of_session sid) s.views) p))
  where
    same_owner : owner_in (λ a. a.view) s.bar (without (is_slot k) s.views) p
        ≡ owner_in (λ a. a.view) s.bar (without (is_of_session sid) s.views) p
    same_owner = grind (arith, r.seen_through, owns)

pub less_owned : (sid k : ℕ) (s : StackModel) (p : Point) → Rear (is_of_session sid) k (slot_view_covers p) s.views
    → owner_passes (is_of_session sid) (record s { views = without (is_slot k) s.views }) p
    ≡ (owner_passes (is_of_session sid) s p && not (owner_passes (is_slot k) s p))
less_owned sid k s p r = grind (arith, r.owned)

-- a view of another session stays
pub stays : (sid i : ℕ) (s : StackModel) (x : SlotView) → slice_get s.views i ≡ Some x → (x.view.sid ≡ sid → ⊥)
    → i < length s.views → list_any (is_of_session sid) (drop (i + 1) s.views) ≡ false → IsRemovedFrom sid i s s
stays sid i s x at other l none = record {
  rest = refl;
  left = refl;
  behind = rw (drop_at s.views i x at) (grind (arith, ne_eqb x.view.sid sid other, none));
  within = omega arith;
  fewer = omega arith;
  owned = λ p e. e;
}

pub stays_clean : (sid : ℕ) (s : StackModel) (p : Point) → uncovered sid s s p ≡ false
stays_clean sid s p = grind arith

-- a view of the session goes
module _ (sid i k : ℕ) (s s' : StackModel) (x : SlotView) (apart : NoPair same_slot s.views)
    (at : slice_get s.views i ≡ Some x) (slot : x.slot ≡ k) (own : x.view.sid ≡ sid)
    (none : list_any (is_of_session sid) (drop (i + 1) s.views) ≡ false)
    (now : s' ≡ record s { views = without (is_slot k) s.views }) where
  mine : is_of_session sid x ≡ true
  mine = eq-eqb x.view.sid sid own

  behind : list_any (is_of_session sid) (drop (suc i) s.views) ≡ false
  behind = ap (λ (n : ℕ). list_any (is_of_session sid) (drop n s.views)) (sym (add-one i)) ∙ none

  it : (p : Point) → Rear (is_of_session sid) k (slot_view_covers p) s.views
  it p = rear (is_of_session sid) k (slot_view_covers p) s.views i x apart at slot mine behind

  pub goes : i < length s.views → IsRemovedFrom sid i s s'
  goes l = let out = taken_out (is_of_session sid) k s.views i x apart at slot mine in rw now record {
    rest = refl;
    left = out.1;
    behind = ap (list_any (is_of_session sid)) out.0 ∙ behind;
    within = omega (arith, out.2, l);
    fewer = omega (arith, out.2);
    owned = λ p e. (and_parts _ _ (sym (less_owned sid k s p (it p)) ∙ e)).0;
  }

  pub goes_painted : (n : ℕ) (a b : ℕ → Sight) (raw raw' : List ℕ)
      → Repainted (source_of_number s') (λ j. owner_passes (is_slot k) s (pixel s.width j)) n a b raw raw'
      → Repainted (source_of_number (without_session sid s)) (λ j. uncovered sid s s' (pixel s.width j)) n a b raw raw'
  goes_painted n a b raw raw' painted =
      repainted_same _ _ _ _ n a a b b raw raw'
      (λ j l. let r = it (pixel s.width j) in
      rw now (rw (less_owned sid k s (pixel s.width j) r) (grind (arith, r.own))))
      (λ j l m. ap (λ (t : StackModel). source_of_number t j) now
      ∙ same_source sid k s (pixel s.width j) (it (pixel s.width j)) m) (λ t. refl) (λ t. refl) painted

-- ---- one after the other

pub taken_none : (sid : ℕ) (s : StackModel) → IsRemovedFrom sid (length s.views) s s
taken_none sid s = record {
  rest = refl;
  left = refl;
  behind = ap (list_any (is_of_session sid)) (drop_all (length s.views) s.views (omega arith));
  within = omega arith;
  fewer = omega arith;
  owned = λ p e. e;
}

pub taken_more : (sid i : ℕ) (before now next : StackModel) → IsRemovedFrom sid (i + 1) before now
    → IsRemovedFrom sid i now next → IsRemovedFrom sid i before next
taken_more sid i before now next a b = record {
  rest = b.rest ∙ ap (λ (t : StackModel). record t { views = next.views }) a.rest;
  left = b.left ∙ a.left;
  behind = b.behind;
  within = b.within;
  fewer = omega arith;
  owned = λ p e. a.owned p (b.owned p e);
}

pub painted_more : (sid i n : ℕ) (before now next : StackModel) (a b c : ℕ → Sight) (raw mid last : List ℕ)
    → IsRemovedFrom sid (i + 1) before now → IsRemovedFrom sid i now next
    → Repainted (source_of_number (without_session sid before)) (λ k. uncovered sid before now (pixel before.width k)) n
    a b raw mid
    → Repainted (source_of_number (without_session sid now)) (λ k. uncovered sid now next (pixel now.width k)) n b c mid
    last
    → Repainted (source_of_number (without_session sid before)) (λ k. uncovered sid before next (pixel before.width k))
    n a c raw last
painted_more sid i n before now next a b c raw mid last first second one two =
    repainted_union _ _ _ _ n a b c raw mid last
    (λ k. grind arith)
    (λ k. grind (arith, first.owned (pixel before.width k), second.owned (pixel before.width k)))
    one
    (repainted_same _ _ _ _ n b b c c mid last
    (λ k l. ap (λ (t : StackModel). uncovered sid now next (pixel t.width k)) first.rest)
    (λ k l m. rw (first.rest, first.left))
    (λ t. refl) (λ t. refl) two)

pub taken_held : (sid i : ℕ) (before now : StackModel) (a b : ℕ → Sight) (loads : ℕ → List (ℕ × ℕ))
    → IsRemovedFrom sid i before now → ((t : ℕ) → b t ≡ seen (a t) (loads t)) → HoldBuffers before a → HoldBuffers now b
taken_held sid i before now a b loads taken e h = rw taken.rest (still_held before a b loads e h)

pub all_taken : (sid : ℕ) (before now : StackModel) → IsRemovedFrom sid 0 before now → now ≡ without_session sid before
all_taken sid before now taken = taken.rest
    ∙ ap (λ (vs : List SlotView). record before { views = vs })
    (sym (without_none (is_of_session sid) now.views taken.behind) ∙ taken.left)

pub all_painted : (sid n : ℕ) (before now : StackModel) (a b : ℕ → Sight) (raw last : List ℕ)
    → IsRemovedFrom sid 0 before now
    → Repainted (source_of_number (without_session sid before)) (λ k. uncovered sid before now (pixel before.width k)) n
    a b raw last
    → Repainted (source_of_number (without_session sid before))
    (λ k. owner_passes (is_of_session sid) before (pixel before.width k)) n a b raw last
all_painted sid n before now a b raw last taken painted =
    marked_same painted (λ k l. grind (arith, owned_not (is_of_session sid) now (pixel before.width k) taken.behind))
