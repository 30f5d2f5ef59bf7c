-- What is answered of a list of entries.
use Rattle.std.specs.Prelude.{◌≡◌, ◌⊎◌, ℕ, ◌+◌, ◌<◌, ◌≤◌, List, [], ◌∷◌, ◌++◌, length, take}
use Rattle.nit_audit.specs.Below.{Entry, IsOpen, Verdict}
use Rattle.nit_events.specs.declared.entry.Entry.TheVariants as entry
use Rattle.nit_audit.specs.declared.auditing.Verdict.TheVariants as verdict

-- the last entry is the last picture
abbrev pub IsEnded : List Entry → Type 0
IsEnded entries = (front : List Entry) × (entries ≡ front ++ entry.Final ∷ [])

-- the first k entries are not good, and any fewer are
pub record IsLeastBad (Good : List Entry → Type 0) (entries : List Entry) (k : ℕ) : Type 0 where
  pub within : k ≤ length entries
  pub bad : Good (take k entries) → ⊥
  pub before : (j : ℕ) → j < k → Good (take j entries)

-- all are good, the last picture is not there, and k is the place after them
pub record IsUnended (Good : List Entry → Type 0) (entries : List Entry) (k : ℕ) : Type 0 where
  pub behind : k ≡ length entries + 1
  pub good : Good entries
  pub unended : IsOpen entries

-- the verdict on entries, where this says which are good
abbrev pub IsVerdict : (List Entry → Type 0) → List Entry → Verdict → Type 0
IsVerdict Good entries verdict.Yes = Good entries × IsEnded entries
IsVerdict Good entries (verdict.No k) = IsLeastBad Good entries k ⊎ IsUnended Good entries k

-- the verdict on entries that stand after n others
abbrev pub IsVerdictFrom : (List Entry → Type 0) → ℕ → List Entry → Verdict → Type 0
IsVerdictFrom Good n entries verdict.Yes = Good entries × IsEnded entries
IsVerdictFrom Good n entries (verdict.No k) =
    (j : ℕ) × (k ≡ n + j) × (IsLeastBad Good entries j ⊎ IsUnended Good entries j)
