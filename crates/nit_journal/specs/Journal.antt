-- A journal that has room.
use Rattle.nit_journal.specs.Below.{Entry, List, ℕ}

-- how many entries a run can have: one for each line of 16 clients and of the user, of which each
-- has
-- at most 65536, and the last picture
abbrev pub most_entries : ℕ
most_entries = 1114113

-- the entries so far, in order, and for how many more there is room
pub record JournalModel : Type 0 where
  pub entries : List Entry
  pub spare : ℕ
