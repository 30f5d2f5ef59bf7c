-- The 41 glyphs, small and large.
use Prim.Native.String.{String}
use Rattle.std.specs.Prelude.{ℕ, List, [], ◌∷◌, slice_index, codes}

-- a small glyph: its character, and its five rows from the top, as a table names them
abbrev small : String → ℕ → ℕ → ℕ → ℕ → ℕ → ℕ × List ℕ
small character a b c d e = (slice_index (codes character) 0, a ∷ b ∷ c ∷ d ∷ e ∷ [])

-- a large glyph: its character, and its seven rows
abbrev large : String → ℕ → ℕ → ℕ → ℕ → ℕ → ℕ → ℕ → ℕ × List ℕ
large character a b c d e f g =
    (slice_index (codes character) 0, a ∷ b ∷ c ∷ d ∷ e ∷ f ∷ g ∷ [])

-- each character that has a glyph, with the small glyph's five rows from the top;
-- in a row the bit of value 4 is the left column, and the bit of value 1 the right one
abbrev pub small_glyphs : List (ℕ × List ℕ)
small_glyphs =
    small "0" 7 5 5 5 7 ∷
    small "1" 2 6 2 2 7 ∷
    small "2" 7 1 7 4 7 ∷
    small "3" 7 1 7 1 7 ∷
    small "4" 5 5 7 1 1 ∷
    small "5" 7 4 7 1 7 ∷
    small "6" 7 4 7 5 7 ∷
    small "7" 7 1 1 1 1 ∷
    small "8" 7 5 7 5 7 ∷
    small "9" 7 5 7 1 7 ∷
    small "a" 2 5 7 5 5 ∷
    small "b" 6 5 6 5 6 ∷
    small "c" 3 4 4 4 3 ∷
    small "d" 6 5 5 5 6 ∷
    small "e" 7 4 6 4 7 ∷
    small "f" 7 4 6 4 4 ∷
    small "g" 3 4 5 5 3 ∷
    small "h" 5 5 7 5 5 ∷
    small "i" 7 2 2 2 7 ∷
    small "j" 1 1 1 5 2 ∷
    small "k" 5 5 6 5 5 ∷
    small "l" 4 4 4 4 7 ∷
    small "m" 5 7 7 5 5 ∷
    small "n" 6 5 5 5 5 ∷
    small "o" 2 5 5 5 2 ∷
    small "p" 6 5 6 4 4 ∷
    small "q" 2 5 5 6 3 ∷
    small "r" 6 5 6 6 5 ∷
    small "s" 3 4 2 1 6 ∷
    small "t" 7 2 2 2 2 ∷
    small "u" 5 5 5 5 7 ∷
    small "v" 5 5 5 5 2 ∷
    small "w" 5 5 7 7 5 ∷
    small "x" 5 5 2 5 5 ∷
    small "y" 5 5 2 2 2 ∷
    small "z" 7 1 2 4 7 ∷
    small "-" 0 0 7 0 0 ∷
    small "." 0 0 0 0 2 ∷
    small "_" 0 0 0 0 7 ∷
    small ":" 0 2 0 2 0 ∷
    small " " 0 0 0 0 0 ∷
    []

-- the same characters, with the large glyph's seven rows from the top;
-- in a row the bit of value 16 is the left column, and the bit of value 1 the right one
abbrev pub large_glyphs : List (ℕ × List ℕ)
large_glyphs =
    large "0" 14 17 19 21 25 17 14 ∷
    large "1" 4 12 20 4 4 4 31 ∷
    large "2" 14 17 1 6 8 16 31 ∷
    large "3" 31 2 4 2 1 17 14 ∷
    large "4" 2 6 10 18 31 2 2 ∷
    large "5" 31 16 30 1 1 17 14 ∷
    large "6" 6 8 16 30 17 17 14 ∷
    large "7" 31 1 2 4 8 8 8 ∷
    large "8" 14 17 17 14 17 17 14 ∷
    large "9" 14 17 17 15 1 2 12 ∷
    large "a" 0 0 30 1 15 17 15 ∷
    large "b" 16 16 22 25 17 17 30 ∷
    large "c" 0 0 15 16 16 16 15 ∷
    large "d" 1 1 13 19 17 17 15 ∷
    large "e" 0 0 14 17 30 16 14 ∷
    large "f" 6 9 8 28 8 8 8 ∷
    large "g" 0 15 17 17 15 1 30 ∷
    large "h" 16 16 16 30 17 17 17 ∷
    large "i" 4 0 12 4 4 4 14 ∷
    large "j" 2 0 6 2 2 18 12 ∷
    large "k" 16 16 18 20 24 20 18 ∷
    large "l" 12 4 4 4 4 4 7 ∷
    large "m" 0 0 26 21 21 21 21 ∷
    large "n" 0 0 30 17 17 17 17 ∷
    large "o" 0 0 14 17 17 17 14 ∷
    large "p" 0 30 17 17 30 16 16 ∷
    large "q" 0 15 17 17 15 1 1 ∷
    large "r" 0 0 22 25 16 16 16 ∷
    large "s" 0 0 15 16 14 1 30 ∷
    large "t" 8 8 28 8 8 9 6 ∷
    large "u" 0 0 17 17 17 19 13 ∷
    large "v" 0 0 17 17 17 10 4 ∷
    large "w" 0 0 17 17 21 21 10 ∷
    large "x" 0 0 17 10 4 10 17 ∷
    large "y" 0 17 17 17 15 1 14 ∷
    large "z" 0 0 31 2 4 8 31 ∷
    large "-" 0 0 0 31 0 0 0 ∷
    large "." 0 0 0 0 0 14 14 ∷
    large "_" 0 0 0 0 0 0 31 ∷
    large ":" 0 12 12 0 12 12 0 ∷
    large " " 0 0 0 0 0 0 0 ∷
    []
