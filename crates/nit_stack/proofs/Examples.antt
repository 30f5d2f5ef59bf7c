-- Worked rows of the stack, computed from the definitions.
use Rattle.nit_stack.proofs.Basics.{Bare, Black, Bool, Size, View, Word, [], eqb, false, moved}
use Rattle.nit_stack.proofs.Basics.{point, put_above, put_back, put_front, rectangle, refl, source}
use Rattle.nit_stack.proofs.Basics.{true}
use Rattle.std.proofs.Common.{negsuc, pos, ℕ, ◌∷◌, ◌≡◌}

-- a view that shows a buffer of 4 by 2 from (-2, -1) on
abbrev reaching : View
reaching =
    record { sid = 0; handle = 1; rect = rectangle (negsuc 1) (negsuc 0) 4 2; ox = pos 0; oy = pos 0; title = [] }

abbrev four_by_two : ℕ → Size
four_by_two s = record { w = 4; h = 2 }

seen_0_0 : source four_by_two 0 (reaching ∷ []) (point 0 0) ≡ Word 0 6
seen_0_0 = refl

seen_1_0 : source four_by_two 0 (reaching ∷ []) (point 1 0) ≡ Word 0 7
seen_1_0 = refl

seen_2_0 : source four_by_two 0 (reaching ∷ []) (point 2 0) ≡ Bare
seen_2_0 = refl

-- moved by one column, its first column is black
abbrev moved_by_one : View
moved_by_one = record { sid = 0; handle = 1; rect = rectangle (pos 1) (pos 1) 4 2; ox = pos 1; oy = pos 0; title = [] }

black_column : source four_by_two 0 (moved_by_one ∷ []) (point 1 1) ≡ Black
black_column = refl

first_column : source four_by_two 0 (moved_by_one ∷ []) (point 2 1) ≡ Word 0 0
first_column = refl

-- a pixel in the bar has no owner
in_the_bar : source four_by_two 7 (moved_by_one ∷ []) (point 2 1) ≡ Bare
in_the_bar = refl

-- layers of numbers: those below 10 are of layer 0, and the others of layer 1
abbrev layer : ℕ → ℕ
layer n = layer_by (eqb n 11)
  where
    layer_by : Bool → ℕ
    layer_by true = 1
    layer_by false = 0

above : moved (eqb 1) (put_above (eqb 3)) (3 ∷ 2 ∷ 1 ∷ []) ≡ 1 ∷ 3 ∷ 2 ∷ []
above = refl

back : moved (eqb 1) (put_back layer 0) (1 ∷ 3 ∷ 2 ∷ []) ≡ 3 ∷ 2 ∷ 1 ∷ []
back = refl

front_of_its_layer : moved (eqb 11) (put_front layer 1) (1 ∷ 2 ∷ 11 ∷ []) ≡ 1 ∷ 2 ∷ 11 ∷ []
front_of_its_layer = refl

back_of_its_layer : moved (eqb 1) (put_back layer 0) (1 ∷ 2 ∷ 11 ∷ []) ≡ 2 ∷ 1 ∷ 11 ∷ []
back_of_its_layer = refl
