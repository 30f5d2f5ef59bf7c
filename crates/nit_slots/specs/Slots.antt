-- The slots that all views stand in, as their number and the list of those that are taken.
use Rattle.std.specs.Prelude.{ℕ, ◌-◌, ◌<◌, Bool, not, List, [], ◌∷◌, length, filter, All, ◌==◌}
use Rattle.std.specs.Prelude.{nat_lt, if◌then◌else◌}
use Rattle.nit_slots.specs.Below.{IsStrictlyIncreasing, list_any}

-- how many slots there are, and the numbers of the taken ones in rising order
pub record SlotsModel : Type 0 where
  pub total : ℕ
  pub taken : List ℕ

-- the slot is among these
abbrev pub is_slot_among : List ℕ → ℕ → Bool
is_slot_among slots k = list_any (λ s. s == k) slots

-- the slot is taken
abbrev pub is_slot_taken : SlotsModel → ℕ → Bool
is_slot_taken o k = is_slot_among o.taken k

-- how many slots are not taken
abbrev pub spare : SlotsModel → ℕ
spare o = o.total - length o.taken

-- these slots and one more, which comes to stand before the first greater one
abbrev pub with_slot : List ℕ → ℕ → List ℕ
with_slot [] k = k ∷ []
with_slot (s ∷ rest) k = if nat_lt s k then s ∷ with_slot rest k else k ∷ s ∷ rest

-- these slots without one of them
abbrev pub without_slot : List ℕ → ℕ → List ℕ
without_slot slots k = filter (λ s. not (s == k)) slots

-- the taken slots rise and are below the number of slots
pub record AreSlots (o : SlotsModel) : Type 0 where
  pub below : All (λ k. k < o.total) o.taken
  pub rising : IsStrictlyIncreasing o.taken
