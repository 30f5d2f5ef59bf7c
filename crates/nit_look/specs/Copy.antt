-- A picture that takes over the words of another one in some columns and rows.
use Rattle.std.specs.Prelude.{◌≡◌, ◌&&◌, ◌%◌, ◌/◌, ℕ, Bool, List, nat_le, nat_lt, slice_index}
use Rattle.std.specs.Prelude.{if◌then◌else◌}

-- from the first number to before the second
abbrev pub is_in_span : ℕ → ℕ → ℕ → Bool
is_in_span from to n = nat_le from n && nat_lt n to

-- the pixel of a number lies in these columns and rows
abbrev pub is_in_rows : ℕ → ℕ → ℕ → ℕ → ℕ → ℕ → Bool
is_in_rows width left right top bottom k =
    is_in_span left right (k % width) && is_in_span top bottom (k / width)

-- a list that has the words of the first one where the test holds, and else those of the second
abbrev pub IsMerged : (ℕ → Bool) → List ℕ → List ℕ → List ℕ → Type 0
IsMerged test a b merged =
    (k : ℕ) → slice_index merged k ≡ (if test k then slice_index a k else slice_index b k)
