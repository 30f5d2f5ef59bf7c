-- What holds of a host: that no word of its screen is stale.
use Rattle.std.specs.Prelude.{◌≡◌, ℕ, ◌<◌, ◌≤◌, List, length, map, slice_index, slice_index_or}
use Rattle.nit_host.specs.Below.{Configuration, DesktopModel, Sight, State, member, no_sight}
use Rattle.nit_host.specs.Below.{pixel_count, plain_sight, source_at, table_size, told_words}
use Rattle.nit_host.specs.Below.{word_from}
use Rattle.nit_host.specs.Host.{sheet_in}
use Rattle.nit_host.specs.Sheet.{SheetModel, blank_sheet}

-- the sheet of a seat; one without words where there is none
abbrev pub sheet_at : List SheetModel → ℕ → SheetModel
sheet_at sheets seat = slice_index_or sheets seat (record { sight = no_sight; room = 0 })

-- the words of the sheets
abbrev pub sheets_of : List SheetModel → List (List ℕ)
sheets_of sheets = map (λ s. told_words s.sight.words) sheets

-- how many words a seat's sheet has
abbrev pub size_at : Configuration → ℕ → ℕ
size_at config seat = table_size (member config seat).donation

-- a glass of this seat that tells its words, as many as the seat's table has places
abbrev pub IsPlainOf : Configuration → ℕ → Sight → Type 0
IsPlainOf config seat sight =
    (sight ≡ plain_sight seat (told_words sight.words)) × (sight.size ≡ size_at config seat)

-- each seat has such a sheet, with room for its words
pub record AreSheets (config : Configuration) (sheets : List SheetModel) : Type 0 where
  pub count : length sheets ≡ length config.clients
  pub plain : (t : ℕ) → t < length config.clients → IsPlainOf config t (sheet_at sheets t).sight
  pub room : (t : ℕ) → t < length config.clients → size_at config t ≤ (sheet_at sheets t).room

-- each seat has a sheet, all of whose words are 0
pub record AreBlankSheets (config : Configuration) (sheets : List SheetModel) : Type 0 where
  pub count : length sheets ≡ length config.clients
  pub blank : (t : ℕ) → t < length config.clients → (sheet_at sheets t).sight ≡ blank_sheet t
      (size_at config t)

-- each raw word is the one that the session of its source has handed in last
abbrev pub IsFresh : State → (ℕ → List ℕ) → List ℕ → Type 0
IsFresh s tables raw =
    (k : ℕ) → k < pixel_count s → slice_index raw k ≡ word_from tables (source_at s k)

-- the seats have their sheets, and the screen shows what the sheets tell
pub record IsHost (d : DesktopModel) (own : List SheetModel) : Type 0 where
  pub sheets : AreSheets d.state.config own
  pub fresh : IsFresh d.state (sheet_in (sheets_of own)) d.raw
