-- The limits that several crates share, each with a name.
use Rattle.nit_rect.specs.Below.{ℕ}

-- ---- places

-- the last column and the last row, and the greatest width and height of a rectangle
abbrev pub most_length : ℕ
most_length = 32767

-- no rectangle ends further to the right or further down
abbrev pub most_edge : ℕ
most_edge = 65535

-- the columns and the rows of a screen
abbrev pub most_width : ℕ
most_width = 4096

abbrev pub most_height : ℕ
most_height = 4096

-- those of the screen of a run, and of the pictures of a film
abbrev pub most_run_width : ℕ
most_run_width = 1024

abbrev pub most_run_height : ℕ
most_run_height = 768

-- the columns and the rows of a buffer
abbrev pub most_side : ℕ
most_side = 4096

-- ---- sessions

-- sessions on one screen
abbrev pub most_sessions : ℕ
most_sessions = 64

-- sessions of a run
abbrev pub most_run_sessions : ℕ
most_run_sessions = 16

-- views of all sessions together
abbrev pub most_slots : ℕ
most_slots = 4096

-- what a session opens with at least, which is what a view costs, and what it ever has at most, in
-- units
abbrev pub least_units : ℕ
least_units = 256

abbrev pub most_units : ℕ
most_units = 268435456

-- what a session of a run ever has at most, and each that opens with no more
abbrev pub most_run_units : ℕ
most_run_units = 8388608

-- words that a session can pay for, and a session of a run
abbrev pub most_words : ℕ
most_words = 33554432

abbrev pub most_run_words : ℕ
most_run_words = 1048576

-- ---- texts

-- the first and the last byte of printable ASCII
abbrev pub first_printable : ℕ
first_printable = 32

abbrev pub last_printable : ℕ
last_printable = 126
