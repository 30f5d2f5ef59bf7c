-- The views that cover a pixel.
use Rattle.nit_damage.proofs.Basics.{NoPair, None, Point, SlotView, Some, StackModel, arith}
use Rattle.nit_damage.proofs.Basics.{covered, drop_all, drop_more, eqb-true, found_fails}
use Rattle.nit_damage.proofs.Basics.{get_or-take, get_or_from_slice_get, has_slot, is_behind}
use Rattle.nit_damage.proofs.Basics.{is_slot, length-take, list_any-append, option_map_or, owner_in}
use Rattle.nit_damage.proofs.Basics.{place_of, position_or_len, refl, same_slot, slice_get}
use Rattle.nit_damage.proofs.Basics.{slice_get_within, slot_view_covers, slot_view_in, take_more}
use Rattle.std.proofs.Common.{List, [], drop, false, find, not, suc, take, true, zero, ℕ, ◌&&◌, ◌+◌}
use Rattle.std.proofs.Common.{◌<◌, ◌||◌, ◌∷◌, ◌≡◌, ◌≤◌}

-- the front-most of the views that cover a pixel
pub front_most : (p : Point) (views : List SlotView) (i : ℕ) (s : SlotView) → slice_get views i ≡ Some s
    → covered (take i views) p ≡ false → slot_view_covers p s ≡ true → find (slot_view_covers p) views ≡ Some s
front_most p [] i s at none is = cc
front_most p (x ∷ views) zero s at none is = grind arith
front_most p (x ∷ views) (suc i) s at none is = grind (arith, front_most p views i s)

pub no_view : (p : Point) (views : List SlotView) → covered views p ≡ false → find (slot_view_covers p) views ≡ None
no_view p [] none = refl
no_view p (x ∷ views) none = grind (arith, no_view p views)

-- one more view is in front
pub covered_more : (p : Point) (views : List SlotView) (i : ℕ) (s : SlotView) → slice_get views i ≡ Some s
    → covered (take (i + 1) views) p ≡ (covered (take i views) p || slot_view_covers p s)
covered_more p views i s at =
    let here = get_or_from_slice_get views i s s at in
    rw (take_more views i s (slice_get_within views i s at), list_any-append) (grind (arith, here))

-- one view less is to be cut out
pub covered_less : (p : Point) (views : List SlotView) (from at : ℕ) (s : SlotView) → slice_get views at ≡ Some s
    → at < from
    → covered (drop at (take from views)) p ≡ (slot_view_covers p s || covered (drop (at + 1) (take from views)) p)
covered_less p views from at s here before =
    let within = slice_get_within views at s here in
    rw (drop_more (take from views) at s (omega (arith, length-take from views)), get_or-take from views at s before)
    (rw (get_or_from_slice_get views at s s here))

-- none is
pub covered_none : (p : Point) (views : List SlotView) (from at : ℕ) → from ≤ at → covered (drop at (take from views)) p
    ≡ false
covered_none p views from at l = rw (drop_all at (take from views) (omega (arith, length-take from views))) refl

-- a slot without a view owns nothing
pub unowned : (k : ℕ) (p : Point) (views : List SlotView) → has_slot k views ≡ false
    → option_map_or (is_slot k) (find (slot_view_covers p) views) false ≡ false
unowned k p views gone = grind (arith, found_fails (slot_view_covers p) (is_slot k) views)

-- a view owns a pixel where it covers it and none in front does
pub owned_is : (k : ℕ) (p : Point) (views : List SlotView) (s : SlotView) → NoPair same_slot views
    → find (is_slot k) views ≡ Some s
    → option_map_or (is_slot k) (find (slot_view_covers p) views) false
    ≡ (slot_view_covers p s && not (covered (take (position_or_len (is_slot k) views) views) p))
owned_is k p [] s apart there = cc
owned_is k p (x ∷ views) s apart there =
    let n = position_or_len (is_slot k) views in
    let one : 1 + n ≡ suc n = omega arith in
    let more : take (1 + n) (x ∷ views) ≡ x ∷ take n views = rw one in
    let no_other = λ (is : is_slot k x ≡ true). unowned k p views (rw (eqb-true x.slot k is) at apart.0) in
    grind (arith, more, no_other, owned_is k p views s apart.1)

-- the same below the bar and in it
pub owned_behind : (s : StackModel) (k : ℕ) (x : SlotView) (p : Point) → NoPair same_slot s.views
    → slot_view_in k s.views ≡ Some x
    → option_map_or (is_slot k) (owner_in (λ a. a.view) s.bar s.views p) false
    ≡ is_behind (place_of k s.views) s x.view.rect p
owned_behind s k x p apart there = grind (arith, owned_is k p s.views x apart there)
