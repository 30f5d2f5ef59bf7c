-- What a label that fits has of the screen, and that no two views own one pixel.
use Rattle.std.proofs.Common.{List, None, Option, Some, arith, false, true, ℕ, ◌&&◌, ◌+◌, ◌-◌, ◌<◌}
use Rattle.std.proofs.Common.{◌≡◌, ◌≤◌}
use Rattle.nit_place.proofs.Basics.{IsApart, IsLeast, View, and_parts, covers, false_from_ne_true}
use Rattle.nit_place.proofs.Basics.{fits, is_owner, is_view, label_place, nat_tests, negsuc, owner}
use Rattle.nit_place.proofs.Basics.{owns, point, pos, rectangle, ℤ}
use Rattle.nit_place.proofs.Grid.{all_in_grid, found_least, one_least}

-- an owned pixel is on the screen, and its owner has the view's name
pub record IsOwned (width height rows : ℕ) (stack : List View) (v : View) (x y : ℕ) : Type 0 where
  pub in_width : x < width
  pub in_height : y < height
  pub owner : is_owner v.sid v.handle (owner rows stack (point x y)) ≡ true

one_name : (v u : View) (o : Option View) → is_owner v.sid v.handle o ≡ true → is_owner u.sid u.handle o ≡ true
    → is_view v.sid v.handle u ≡ true
one_name v u None mine other = cc
one_name v u (Some o) mine other = grind (arith, nat_tests)

-- a pixel of a label's rectangle
record IsPixel (x y w h i j : ℕ) : Type 0 where
  left : x ≤ i
  right : i < x + w
  top : y ≤ j
  bottom : j < y + h

label_pixel : (x y w h i j : ℕ) → covers (rectangle (pos x) (pos y) w h) (point i j) ≡ true → IsPixel x y w h i j
label_pixel x y w h i j e = grind (arith, nat_tests)

module _ (width height rows : ℕ) (stack : List View) where
  module _ (v : View) where
    pub pixel_owned : (w h x y : ℕ) → fits width height rows stack v w h x y ≡ true
        → (i j : ℕ) → x ≤ i → i < x + w → y ≤ j → j < y + h → IsOwned width height rows stack v i j
    pixel_owned w h x y all i j left right top bottom =
        let own = all_in_grid (owns width height rows stack v) point x y w h all i j left right top bottom in
        grind (arith, nat_tests)

    pub fits_within : (w h x y : ℕ) → 1 ≤ w → 1 ≤ h → fits width height rows stack v w h x y ≡ true
        → (x + w ≤ width) × (y + h ≤ height)
    fits_within w h x y wide high all =
        let last = pixel_owned w h x y all (x + (w - 1)) (y + (h - 1)) (omega arith) (omega arith) (omega arith)
        (omega arith) in
        (omega arith, omega arith)

    pub place_least : (w h : ℕ) → 1 ≤ w → 1 ≤ h
        → IsLeast (fits width height rows stack v w h) (label_place width height rows stack v w h)
    place_least w h wide high = found_least (fits width height rows stack v w h) width height (record {
      column = λ x y all. omega (arith, fits_within w h x y wide high all);
      row = λ x y all. omega (arith, fits_within w h x y wide high all);
    })

    pub least_only : (w h : ℕ) (o : Option (ℕ × ℕ)) → 1 ≤ w → 1 ≤ h
        → IsLeast (fits width height rows stack v w h) o → o ≡ label_place width height rows stack v w h
    least_only w h o wide high least = one_least _ o _ least (place_least w h wide high)

  -- no pixel lies in two labels of views of different names
  pub apart : (v u : View) (w h x y w' h' x' y' : ℕ) → is_view v.sid v.handle u ≡ false
      → fits width height rows stack v w h x y ≡ true → fits width height rows stack u w' h' x' y' ≡ true
      → IsApart (rectangle (pos x) (pos y) w h) (rectangle (pos x') (pos y') w' h')
  apart v u w h x y w' h' x' y' other first second p = not_in_both p.x p.y
    where
      not_in_both : (a b : ℤ) → (covers (rectangle (pos x) (pos y) w h) (record { x = a; y = b })
          && covers (rectangle (pos x') (pos y') w' h') (record { x = a; y = b })) ≡ false
      not_in_both (pos i) (pos j) = false_from_ne_true _ (λ both.
          let parts = and_parts (covers (rectangle (pos x) (pos y) w h) (point i j)) _ both in
          let one = label_pixel x y w h i j parts.0 in
          let two = label_pixel x' y' w' h' i j parts.1 in
          let mine = pixel_owned v w h x y first i j one.left one.right one.top one.bottom in
          let yours = pixel_owned u w' h' x' y' second i j two.left two.right two.top two.bottom in
          let same = one_name v u (owner rows stack (point i j)) mine.owner yours.owner in
          cc)
      not_in_both (pos i) (negsuc j) = grind (arith, nat_tests)
      not_in_both (negsuc i) b = grind (arith, nat_tests)
