-- What is seen of a seat of the words.
use Rattle.std.specs.Prelude.{◌≡◌, ℕ, ◌<◌, [], length, IfSome, Some, None}
use Rattle.nit_pixels.specs.Below.{PixelView, Seat, Sight, Stages, TableId, option_map, slice_index}
use Rattle.nit_pixels.specs.End.{End}

-- a seat of the words
abbrev pub PixelSeat : Type 0
PixelSeat = Seat (Unit {0}) PixelView

-- the sight of a seat: what its view knows, and as many words as the table has
abbrev pub sight_of : PixelSeat → Sight
sight_of s =
    record {
      owner = s.me.0.owner;
      size = s.table_id.words;
      ink = Stages s.me.0.stages;
      stages = s.me.0.agreed;
      words = s.me.0.words;
      log = Some s.me.0.log;
    }

-- what an end with this seat is seen as
abbrev pub end_of : PixelSeat → End
end_of s = record { sight = sight_of s; stand = record { buffer = s.table_id; seat = s.id } }

-- the seat is of this table, which has a word
abbrev pub IsPixelSeatOf : TableId → PixelSeat → Type 0
IsPixelSeatOf table s = (s.table_id ≡ table) × (0 < table.words)

-- an owner's seat: there is a word, and its view tells all of them
abbrev pub IsOwners : PixelSeat → Type 0
IsOwners s =
    (0 < s.table_id.words)
    × (option_map (λ words. length words) s.me.0.words ≡ Some s.table_id.words) × (s.me.1 ≡ [])

-- of the words that the seat's view tells, those after this place are 0
abbrev pub IsZeroBehind : ℕ → PixelSeat → Type 0
IsZeroBehind last s = IfSome s.me.0.words (λ words. (i : ℕ) → last < i → slice_index words i ≡ 0)

-- a reader's seat: its view tells no words
abbrev pub IsReaders : PixelSeat → Type 0
IsReaders s = s.me.0.words ≡ None
