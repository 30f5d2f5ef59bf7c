-- Worked rows of the sets of pixels, computed from the definitions.
use Rattle.nit_damage.proofs.Basics.{None, Rectangle, SlotView, Some, StackModel, ViewRef}
use Rattle.nit_damage.proofs.Basics.{begun_cutter, is_of_gone, is_of_moved, is_owned, place_of}
use Rattle.nit_damage.proofs.Basics.{point, rectangle, refl, to_come}
use Rattle.std.proofs.Common.{[], false, pos, true, ℕ, ◌∷◌, ◌≡◌}

abbrev seat : ℕ → Rectangle → SlotView
seat k r = record { slot = k; view = record { sid = 0; handle = k; rect = r; ox = pos 0; oy = pos 0; title = [] } }

-- a screen of 12 by 12 with a bar: view 2 in front, view 1 under the bar, view 0 behind
abbrev three_views : StackModel
three_views = record {
  views = seat 2 (rectangle (pos 6) (pos 9) 10 9) ∷ seat 1 (rectangle (pos 4) (pos 6) 4 4)
      ∷ seat 0 (rectangle (pos 0) (pos 8) 8 3) ∷ [];
  sizes = [];
  layers = [];
  width = 12;
  height = 12;
  bar = 7;
  most = 3;
}

abbrev view : ℕ → ViewRef
view k = record { 0 = k }

last : place_of 0 three_views.views ≡ 2
last = refl

abbrev part : Rectangle
part = rectangle (pos 2) (pos 9) 3 3

owned : is_owned (view 0) three_views part (point 3 9) ≡ true
owned = refl

owned_by_another : is_owned (view 0) three_views part (point 4 9) ≡ false
owned_by_another = refl

not_in_part : is_owned (view 0) three_views part (point 1 9) ≡ false
not_in_part = refl

abbrev old : Rectangle
old = rectangle (pos 2) (pos 8) 4 3

where_it_was : is_of_moved (view 1) three_views old (point 2 8) ≡ true
where_it_was = refl

where_it_is : is_of_moved (view 1) three_views old (point 7 7) ≡ true
where_it_is = refl

behind_another : is_of_moved (view 1) three_views old (point 6 9) ≡ false
behind_another = refl

under_the_bar : is_of_moved (view 1) three_views old (point 5 6) ≡ false
under_the_bar = refl

abbrev gone : Rectangle
gone = rectangle (pos 4) (pos 6) 6 6

-- the view itself and those behind may cover the pixel
its_own : is_of_gone (Some (view 1)) three_views gone (point 4 7) ≡ true
its_own = refl

of_one_behind : is_of_gone (Some (view 1)) three_views gone (point 4 10) ≡ true
of_one_behind = refl

of_one_in_front : is_of_gone (Some (view 1)) three_views gone (point 6 10) ≡ false
of_one_in_front = refl

bare : is_of_gone None three_views gone (point 8 7) ≡ true
bare = refl

covered : is_of_gone None three_views gone (point 4 7) ≡ false
covered = refl

-- of a rectangle that is to be cut by view 2, its other pixels are to come
still : to_come (begun_cutter 1 gone 3) three_views (point 5 9) ≡ 1
still = refl

cut_out : to_come (begun_cutter 1 gone 3) three_views (point 6 9) ≡ 0
cut_out = refl
