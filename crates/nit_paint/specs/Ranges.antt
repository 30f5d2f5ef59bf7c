-- The ranges of places in a buffer, and of its words.
use Rattle.std.specs.Prelude.{ℕ, ◌^◌, ℤ, pos, negsuc}

-- between these lies each column and row that a pixel of the screen would show, by its view's
-- corner
-- and offset, also where the buffer does not reach so far
abbrev pub least_place : ℤ
least_place = negsuc 99999

abbrev pub most_place : ℤ
most_place = pos 99999

-- how many words the largest buffer has
abbrev pub most_buffer : ℕ
most_buffer = 2 ^ 24
