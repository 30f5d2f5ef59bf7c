-- What the search by edges says of the place of a label.
use Rattle.std.proofs.Common.{List, None, Option, Some, ap, arith, inl, inr, ℕ, ◌<◌, ◌≡◌, ◌≤◌, ◌⊎◌}
use Rattle.nit_place.proofs.Basics.{Any, IfSome, IsAtEdges, IsBefore, IsFree, IsLeast, IsLeastFree}
use Rattle.nit_place.proofs.Basics.{IsSearched, NoPair, Point, ScreenPart, SlotView, View, area_of}
use Rattle.nit_place.proofs.Basics.{before_first, bottom_of, false_from_ne_true, find_at, fits}
use Rattle.nit_place.proofs.Basics.{get_or_from_slice_get, is_slot, is_view, label_place}
use Rattle.nit_place.proofs.Basics.{length-map, negsuc, on_screen, option_map, part_at, point, pos}
use Rattle.nit_place.proofs.Basics.{position_or_len, right_of, same_name, slice_get-map}
use Rattle.nit_place.proofs.Basics.{slice_get_within, slot_view_in, views_of, ℤ}
use Rattle.nit_place.proofs.Names.{StandsAt, names_differ, seat, some_in_front}
use Rattle.nit_place.proofs.Fits.{fits_free, free_fits}
use Rattle.nit_place.proofs.Screen.{least_only}

-- a view stands behind those that its slot is looked for among
stands : (seats : List SlotView) (k : ℕ) (s : SlotView) → NoPair same_name seats → slot_view_in k seats ≡ Some s
    → StandsAt (views_of seats) (position_or_len (is_slot k) seats) s.view
stands seats k s names there =
    let at = rw (find_at (is_slot k) seats) at there in
    let within = slice_get_within seats (position_or_len (is_slot k) seats) s at in
    record {
      within = omega (arith, length-map seats (λ (s : SlotView). s.view));
      view = get_or_from_slice_get (views_of seats) _ s.view _ (rw (slice_get-map, at));
      names = names_differ seats names s;
    }

at_edge : (z : ℤ) (n : ℕ) → 0 < n → n ≡ on_screen z → pos n ≡ z
at_edge (pos m) n more is = ap pos is
at_edge (negsuc m) n more is = absurd (omega arith)

module _ (width height rows : ℕ) (stack : List View) (n : ℕ) (v : View) (there : StandsAt stack n v) where
  -- an edge of a part in front
  edge_at : (far : View → ℤ) (x first : ℕ)
      → (x ≡ first) ⊎ ((k : ℕ) × (k < n) × (0 < x) × (x ≡ on_screen (far (seat stack k))))
      → (pos x ≡ pos first) ⊎ Any (λ u. pos x ≡ far u) (before_first (is_view v.sid v.handle) stack)
  edge_at far x first (inl e) = inl (ap pos e)
  edge_at far x first (inr (k, lt, more, e)) =
      inr (some_in_front stack n v there (λ u. pos x ≡ far u) k lt (at_edge _ x more e))

  module _ (w h : ℕ) (wide : 1 ≤ w) (high : 1 ≤ h) where
    -- the least place by edges is the least one by pixels
    least_free : (x y : ℕ) → IsLeastFree (part_at stack) n (area_of width height rows v.rect) w h x y
        → IsLeast (fits width height rows stack v w h) (Some (x, y))
    least_free x y found = (
      free_fits width height rows stack n v there w h x y found.in_row.free,
      λ x' y' before. false_from_ne_true _ (λ all. none x' y' before
          (fits_free width height rows stack n v there w h x' y' wide high all)),
    )
      where
        none : (x' y' : ℕ) → IsBefore (x', y') (x, y)
            → IsFree (part_at stack) n (area_of width height rows v.rect) w h x' y' → ⊥
        none x' y' (inl above) free = found.above x' y' above free
        none x' y' (inr (same, left)) free = found.in_row.least x' left (rw same at free)

    label_at : (o : Option Point) → IsSearched (part_at stack) n (area_of width height rows v.rect) w h o
        → (o ≡ option_map (λ q. point q.0 q.1) (label_place width height rows stack v w h))
        × IfSome o (IsAtEdges rows stack v)
    label_at None none = (
      rw (← least_only width height rows stack v w h None wide high (λ x y. false_from_ne_true _
          (λ all. none x y (fits_free width height rows stack n v there w h x y wide high all)))),
      tt,
    )
    label_at (Some q) (x, y, is, found) = (
      rw (is, ← least_only width height rows stack v w h (Some (x, y)) wide high (least_free x y found)),
      rw is (record {
        column = edge_at (λ u. right_of u.rect) x _ found.in_row.column;
        row = edge_at (λ u. bottom_of u.rect) y _ found.row;
      }),
    )

-- what is found by the number of views in front and the area that were worked out
pub label_found : (width height rows : ℕ) (seats : List SlotView) (k : ℕ) (s : SlotView) → NoPair same_name seats
    → slot_view_in k seats ≡ Some s → (w h : ℕ) → 1 ≤ w → 1 ≤ h → (n : ℕ) (area : ScreenPart) (o : Option Point)
    → n ≡ position_or_len (is_slot k) seats → area ≡ area_of width height rows s.view.rect
    → IsSearched (part_at (views_of seats)) n area w h o
    → (o ≡ option_map (λ q. point q.0 q.1) (label_place width height rows (views_of seats) s.view w h))
    × IfSome o (IsAtEdges rows (views_of seats) s.view)
label_found width height rows seats k s names there w h wide high n area o e f found =
    label_at width height rows (views_of seats) _ s.view (stands seats k s names there) w h wide high o
    (rw (e, f) at found)
