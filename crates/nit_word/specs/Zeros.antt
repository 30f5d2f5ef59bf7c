-- Words that are all 0.
use Rattle.std.specs.Prelude.{ℕ, ◌-◌, List, ◌++◌, length, replicate, ◌≤◌}

-- so many words that are 0
unfoldable pub zeros : ℕ → List ℕ
zeros n = replicate n 0

-- these words, and after them as many that are 0 as it takes for so many in all
abbrev pub filled_up : ℕ → List ℕ → List ℕ
filled_up size words = words ++ zeros (size - length words)

-- of so many words the first are reached, and memory holds them all
abbrev pub HasRoom : ℕ → ℕ → ℕ → Type 0
HasRoom reached size room = (reached ≤ size) × (size ≤ room)
