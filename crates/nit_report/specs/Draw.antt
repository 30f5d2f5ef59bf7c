-- Values that are drawn from a stream of numbers, one after the other.
use Rattle.std.specs.Prelude.{◌≡◌, ℕ, ◌+◌, ◌*◌, ◌/◌, ◌%◌, ◌^◌, List, [], ◌∷◌, ◌++◌}
use Rattle.nit_report.specs.Below.{flat_map, range_with_len}

-- the number that follows another in a stream
unfoldable pub following : ℕ → ℕ
following s = (s * 1664525 + 1013904223) % 2 ^ 32

-- a draw: from the number at which the stream stands to the value, and to the number at which it
-- stands then
abbrev pub Draw : Type 0 → Type 0
Draw A = ℕ → A × ℕ

-- a number below m
abbrev pub below : ℕ → Draw ℕ
below m s = (following s / 65536 % m, following s)

-- a value that is known, for which nothing is drawn
abbrev pub just : {A : Type 0} → A → Draw A
just x s = (x, s)

-- a draw, and after it the draw that its value asks for
infixl 10 ◌>>=◌
abbrev pub ◌>>=◌ : {A B : Type 0} → Draw A → (A → Draw B) → Draw B
(d >>= f) s = f (d s).0 (d s).1

-- several draws, from left to right
abbrev pub draws_in_turn : {A : Type 0} → List (Draw A) → Draw (List A)
draws_in_turn [] = just []
draws_in_turn (d ∷ ds) = do
  x ← d
  xs ← draws_in_turn ds
  just (x ∷ xs)

-- the draws of each of so many numbers, counted up from the first
unfoldable pub for_each : {A : Type 0} → ℕ → ℕ → (ℕ → List (Draw A)) → List (Draw A)
for_each first count draws = flat_map draws (range_with_len first count)

-- The draw gives this value, and leaves the stream at this number.
abbrev pub Draws : {A : Type 0} → Draw A → ℕ → A → ℕ → Type 0
Draws d s x after = (x ≡ (d s).0) × (after ≡ (d s).1)

-- The draws were made in turn, and their values stand after those that were there.
pub record AppendsDraws {A : Type 0} (draws : List (Draw A)) (s : ℕ) (before : List A) (after : ℕ)
    (now : List A) : Type 0 where
  pub values : now ≡ before ++ (draws_in_turn draws s).0
  pub stream : after ≡ (draws_in_turn draws s).1
