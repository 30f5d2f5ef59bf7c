-- The views that a session holds, each as its handle and its slot.
use Rattle.std.specs.Prelude.{ℕ, ◌+◌, ◌≤◌, Bool, not, List, [], ◌∷◌, length, filter, find, Option}
use Rattle.std.specs.Prelude.{option_map, ◌==◌, ◌^◌, ◌-◌}
use Rattle.nit_slots.specs.Below.{list_any}

-- the pairs of a handle and its slot in the order of creation, the next handle, and the most pairs
-- at a time
pub record TableModel : Type 0 where
  pub pairs : List (ℕ × ℕ)
  pub next : ℕ
  pub most : ℕ

-- the last handle of a session
abbrev pub last_handle : ℕ
last_handle = 2 ^ 32 - 1

-- the handle is held
abbrev pub has_handle : List (ℕ × ℕ) → ℕ → Bool
has_handle pairs h = list_any (λ p. p.0 == h) pairs

-- the slot of a handle, if it is held
abbrev pub slot_of : List (ℕ × ℕ) → ℕ → Option ℕ
slot_of pairs h = option_map (λ p. p.1) (find (λ p. p.0 == h) pairs)

-- these pairs without that of a handle
abbrev pub without_handle : List (ℕ × ℕ) → ℕ → List (ℕ × ℕ)
without_handle pairs h = filter (λ p. not (p.0 == h)) pairs

-- from `low` on the handles rise along the list, and they are below `next`
abbrev pub Rises : ℕ → List (ℕ × ℕ) → ℕ → Type 0
Rises low [] next = low ≤ next
Rises low (p ∷ rest) next = (low ≤ p.0) × Rises (p.0 + 1) rest next

-- the handles rise from 1 on and are below the next one, so they differ; they are at most `most`
pub record IsTable (t : TableModel) : Type 0 where
  pub rising : Rises 1 t.pairs t.next
  pub counted : length t.pairs ≤ t.most
