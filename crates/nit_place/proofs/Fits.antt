-- A label fits by its pixels exactly where it is free by the edges of views.
use Rattle.std.proofs.Common.{List, arith, leb, ltb, max, refl, true, ℕ, ◌+◌, ◌-◌, ◌<◌, ◌≡◌, ◌≤◌}
use Rattle.nit_place.proofs.Basics.{IsFree, Rectangle, ScreenPart, View, area_of, bottom_of, covers}
use Rattle.nit_place.proofs.Basics.{false_from_ne_true, fits, int_le, int_lt, le-leb, le-ltb}
use Rattle.nit_place.proofs.Basics.{lt-ltb, nat_tests, negsuc, on_screen, owns, part_at, part_of}
use Rattle.nit_place.proofs.Basics.{point, pos, right_of, ℤ}
use Rattle.nit_place.proofs.SearchLemmas.{meets-of, meets-true}
use Rattle.nit_place.proofs.Grid.{all_of_grid}
use Rattle.nit_place.proofs.Names.{IsFirstAt, StandsAt, owned_by, owner_of, seat}
use Rattle.nit_place.proofs.Screen.{pixel_owned}

-- ---- pixels of a part

-- a part has a pixel
pub record Covers (r : ScreenPart) (x y : ℕ) : Type 0 where
  pub left : r.left ≤ x
  pub right : x < r.right
  pub top : r.top ≤ y
  pub bottom : y < r.bottom

below_edge : (k : ℕ) (z : ℤ) → ltb k (on_screen z) ≡ int_lt (pos k) z
below_edge k (pos n) = refl
below_edge k (negsuc n) = le-ltb k 0 (omega arith)

past_edge : (k : ℕ) (z : ℤ) → leb (on_screen z) k ≡ int_le z (pos k)
past_edge k (pos n) = grind (arith, nat_tests)
past_edge k (negsuc n) = le-leb 0 k (omega arith)

-- a rectangle covers the pixels of its part
covers_tells : (r : Rectangle) (x y : ℕ) → covers r (point x y) ≡ true → Covers (part_of r) x y
covers_tells r x y e = grind (
  arith,
  nat_tests,
  past_edge x r.x,
  below_edge x (right_of r),
  past_edge y r.y,
  below_edge y (bottom_of r),
)

covers_holds : (r : Rectangle) (x y : ℕ) → Covers (part_of r) x y → covers r (point x y) ≡ true
covers_holds r x y c = grind (
  arith,
  nat_tests,
  past_edge x r.x,
  below_edge x (right_of r),
  past_edge y r.y,
  below_edge y (bottom_of r),
)

-- ---- pixels of a view

-- what a pixel of a view is: on the screen, below the bar, in its part, and in no part in front
record IsOwn (width height rows : ℕ) (stack : List View) (n : ℕ) (v : View) (x y : ℕ) : Type 0 where
  in_width : x < width
  in_height : y < height
  below_bar : rows ≤ y
  covered : Covers (part_of v.rect) x y
  clear : (k : ℕ) → k < n → Covers (part_at stack k) x y → ⊥

module _ (width height rows : ℕ) (stack : List View) (n : ℕ) (v : View) (there : StandsAt stack n v) where
  owns_holds : (x y : ℕ) → IsOwn width height rows stack n v x y → owns width height rows stack v (point x y) ≡ true
  owns_holds x y own =
      let first : IsFirstAt (λ u. covers u.rect (point x y)) stack n v = record {
        fails = λ k lt. false_from_ne_true _ (λ e. own.clear k lt (covers_tells (seat stack k).rect x y e));
        holds = covers_holds v.rect x y own.covered;
      } in
      rw (lt-ltb x width own.in_width, lt-ltb y height own.in_height, le-ltb y rows own.below_bar)
      (owner_of stack n v there _ first)

  module _ (w h x y : ℕ) where
    -- ---- a label's rectangle

    label_owns : fits width height rows stack v w h x y ≡ true → (i j : ℕ) → x ≤ i → i < x + w → y ≤ j → j < y + h
        → IsOwn width height rows stack n v i j
    label_owns all i j left right top bottom =
        let own = pixel_owned width height rows stack v w h x y all i j left right top bottom in
        let first = owned_by stack n v there (λ u. covers u.rect (point i j)) (grind (arith, nat_tests)) in
        record {
          in_width = own.in_width;
          in_height = own.in_height;
          below_bar = grind (arith, nat_tests);
          covered = covers_tells v.rect i j first.holds;
          clear = λ k lt c. let yes = covers_holds (seat stack k).rect i j c in let no = first.fails k lt in cc;
        }

    pub fits_free : 1 ≤ w → 1 ≤ h → fits width height rows stack v w h x y ≡ true
        → IsFree (part_at stack) n (area_of width height rows v.rect) w h x y
    fits_free wide high all =
        let own = label_owns all in
        let first = own x y (omega arith) (omega arith) (omega arith) (omega arith) in
        let last = own (x + (w - 1)) (y + (h - 1)) (omega arith) (omega arith) (omega arith) (omega arith) in
        record {
          from_left = omega arith;
          to_right = omega arith;
          from_top = omega arith;
          to_bottom = omega arith;
          clear = λ k lt. false_from_ne_true _ (λ met.
              let m = meets-true x y w h (part_at stack k) met in
              let both = own (max x (part_at stack k).left) (max y (part_at stack k).top) (omega arith) (omega arith)
              (omega arith) (omega arith) in
              both.clear k lt (grind arith));
        }

    pub free_fits : IsFree (part_at stack) n (area_of width height rows v.rect) w h x y
        → fits width height rows stack v w h x y ≡ true
    free_fits free =
        all_of_grid (owns width height rows stack v) point x y w h
        (λ i j left right top bottom. owns_holds i j (record {
          in_width = omega arith;
          in_height = omega arith;
          below_bar = omega arith;
          covered = grind arith;
          clear = λ k lt c.
              let no = free.clear k lt in
              let yes = meets-of x y w h (part_at stack k) (grind arith) in
              cc;
        }))
