-- The words of one seat, as a glass.
use Rattle.std.specs.Prelude.{ℕ, ◌%◌, ◌^◌, List, slice_index}
use Rattle.nit_host.specs.Below.{Sight, is_between, plain_sight, set_where, told_words, zeros}

-- what is seen of the words, and for how many there is room
pub record SheetModel : Type 0 where
  pub sight : Sight
  pub room : ℕ

-- so many words of an owner, each 0
abbrev pub blank_sheet : ℕ → ℕ → Sight
blank_sheet owner size = plain_sight owner (zeros size)

-- the low three bytes of the word at a place
abbrev pub low_bytes : List ℕ → ℕ → ℕ
low_bytes words n = slice_index words n % 2 ^ 24

-- the words of a sheet after those at the places from `from` to before `to` were handed in
abbrev pub handed_over : ℕ → ℕ → List ℕ → Sight → Sight
handed_over from to words sheet =
    plain_sight sheet.owner
    (set_where (is_between from to) (low_bytes words) (told_words sheet.words))
