-- The names of clients.
use Rattle.std.specs.Prelude.{ℕ, ◌+◌, ◌*◌, ◌/◌, ◌%◌, ◌^◌}
use Rattle.nit_c.specs.Below.{Client}

-- a client as C names it: its seat in the low 16 bits, its turn above them
abbrev pub client_name : Client → ℕ
client_name client = client.turn * 2 ^ 16 + client.seat

-- the client that a number names
abbrev pub client_named : ℕ → Client
client_named name = record { seat = name % 2 ^ 16; turn = name / 2 ^ 16 }
