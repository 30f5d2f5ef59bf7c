-- Words of a frame of which some were set.
use Rattle.std.specs.Prelude.{◌≡◌, ℕ, ◌<◌, Bool, List, length, slice_index, if◌then◌else◌}

-- of so many words each chosen one is the word of its number now, and each other one is as before
pub record AreSet (chosen : ℕ → Bool) (n : ℕ) (word : ℕ → ℕ) (old new : List ℕ) : Type 0 where
  pub words : (k : ℕ) → k < n → slice_index new k ≡ (if chosen k then word k else slice_index old k)
  pub count : length new ≡ length old

-- of so many words each chosen one is the raw word now, and each other one is as before
abbrev pub IsCopied : (ℕ → Bool) → ℕ → List ℕ → List ℕ → List ℕ → Type 0
IsCopied chosen n raw old new = AreSet chosen n (slice_index raw) old new
