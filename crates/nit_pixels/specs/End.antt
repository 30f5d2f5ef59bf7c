-- What contracts see of a buffer, of its key and of its ends.
use Rattle.nit_pixels.specs.Below.{Line, List, None, Sight, Some, TableId, [], script_ink}
use Rattle.nit_pixels.specs.Below.{table_size, zeros, ℕ}
use Rattle.nit_pixels.specs.declared.standing.Standing.{Standing}

-- which buffer it is
abbrev pub BufferName : Type 0
BufferName = TableId

-- an end of a buffer, or the key to its owner's end: what it sees, and which buffer and which seat
-- it has
pub record End : Type 0 where
  pub sight : Sight
  pub stand : Standing

-- the owner's sight of a new buffer: a word for each place of the session's table, each of which is
-- 0, the ink of the owner's script, no stages, and nothing was loaded
abbrev pub new_sight : ℕ → List Line → ℕ → Sight
new_sight owner script donation =
    record {
      owner = owner;
      size = table_size donation;
      ink = script_ink script donation;
      stages = None;
      words = Some (zeros (table_size donation));
      log = Some [];
    }

-- a new reader's sight of an owner's buffer: no stages are known, no words are told, and nothing
-- was loaded
abbrev pub reader_sight : Sight → Sight
reader_sight sight = record sight { stages = None; words = None; log = Some [] }
