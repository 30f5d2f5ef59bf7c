-- A map of owners tells the place of a label.
use Rattle.std.proofs.Common.{List, None, Option, Some, arith, refl, true, ℕ, ◌≡◌, ◌≤◌}
use Rattle.nit_labels.specs.Places.{OwnsArea}
use Rattle.nit_place.proofs.Basics.{IsLeastPlace, IsNumberOf, Point, View, false_from_ne_true, fits}
use Rattle.nit_place.proofs.Basics.{label_place, nat_tests, option_map, owns, point}
use Rattle.nit_place.proofs.Grid.{all_in_grid, all_of_grid}
use Rattle.nit_place.proofs.Screen.{fits_within, least_only}

module _ (width height rows : ℕ) (stack : List View) (v : View) (o w h : ℕ) (at : ℕ → ℕ → ℕ) (wide : 1 ≤ w)
    (high : 1 ≤ h) (mapped : IsNumberOf at width height rows stack v o) where
  map_fits : (x y : ℕ) → OwnsArea at width height o w h x y → fits width height rows stack v w h x y ≡ true
  map_fits x y free = all_of_grid (owns width height rows stack v) point x y w h (λ i j left right top bottom.
      let same = mapped i j (omega (arith, free.right)) (omega (arith, free.bottom)) in
      let own = free.own i j left right top bottom in
      grind (arith, nat_tests))

  fits_map : (x y : ℕ) → fits width height rows stack v w h x y ≡ true → OwnsArea at width height o w h x y
  fits_map x y all =
      let within = fits_within width height rows stack v w h x y wide high all in
      record {
        right = within.0;
        bottom = within.1;
        own = λ i j left right top bottom.
            let own = all_in_grid (owns width height rows stack v) point x y w h all i j left right top bottom in
            let same = mapped i j (omega arith) (omega arith) in
            grind (arith, nat_tests);
      }

  pub mapped_place : (q : Option Point) → IsLeastPlace (OwnsArea at width height o w h) q
      → q ≡ option_map (λ p. point p.0 p.1) (label_place width height rows stack v w h)
  mapped_place None none =
      rw (← least_only width height rows stack v w h None wide high
      (λ x y. false_from_ne_true _ (λ all. none x y (fits_map x y all)))) refl
  mapped_place (Some q) (x, y, is, free, least) =
      rw (
        is,
        ← least_only width height rows stack v w h (Some (x, y)) wide high
            (map_fits x y free, λ i j before. false_from_ne_true _ (λ all. least i j before (fits_map i j all))),
      ) refl
