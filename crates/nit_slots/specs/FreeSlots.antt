-- The taken slots as those beside a list of free ones.
use Rattle.std.specs.Prelude.{◌≡◌, ℕ, ◌+◌, ◌<◌, not, List, [], ◌∷◌, length, filter, All, false}
use Rattle.nit_slots.specs.Below.{range_with_len}
use Rattle.nit_slots.specs.Slots.{is_slot_among}

-- the slots below total that are not free, in rising order
abbrev pub taken_beside : List ℕ → ℕ → List ℕ
taken_beside free total = filter (λ k. not (is_slot_among free k)) (range_with_len 0 total)

-- no slot stands twice in the list
abbrev pub Differ : List ℕ → Type 0
Differ [] = Unit {0}
Differ (k ∷ rest) = (is_slot_among rest k ≡ false) × Differ rest

-- the free slots are different and below total; with the taken ones they are all
pub record IsFreeList (free : List ℕ) (total : ℕ) : Type 0 where
  pub below : All (λ k. k < total) free
  pub different : Differ free
  pub whole : length free + length (taken_beside free total) ≡ total
