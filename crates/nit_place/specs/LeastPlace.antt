-- The least place at which a test holds, by row and then by column.
use Rattle.std.specs.Prelude.{◌≡◌, ℕ, ◌<◌, ◌⊎◌, Bool, true, false, Option, Some, None}

-- the first place comes before the second one: its row is above, or its column is further left in
-- the same row
abbrev pub IsBefore : ℕ × ℕ → ℕ × ℕ → Type 0
IsBefore a b = (a.1 < b.1) ⊎ ((a.1 ≡ b.1) × (a.0 < b.0))

-- the test holds at a place and at none before it; or, with no place, it holds nowhere
abbrev pub IsLeast : (ℕ → ℕ → Bool) → Option (ℕ × ℕ) → Type 0
IsLeast test None = (x y : ℕ) → test x y ≡ false
IsLeast test (Some q) = (test q.0 q.1 ≡ true) × ((x y : ℕ) → IsBefore (x, y) q → test x y ≡ false)
