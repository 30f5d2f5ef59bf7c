-- What an entry does to the screen's raw words and to the glasses of the sessions.
use Rattle.std.specs.Prelude.{◌≡◌, ℕ, ◌*◌, ◌<◌, List, map, slice_index, slice_index_or}
use Rattle.nit_screen.specs.Below.{Bare, Black, Entry, IsInked, IsWord, PixelSource, Repainted}
use Rattle.nit_screen.specs.Below.{Sight, State, Word, bare_word, pixel, range_with_len, source_of}
use Rattle.nit_screen.specs.DirtyPixels.{dirty}

-- how many pixels the screen of a state has
abbrev pub pixel_count : State → ℕ
pixel_count s = s.config.width * s.config.height

-- where the word of a pixel comes from, by the pixel's number
abbrev pub source_at : State → ℕ → PixelSource
source_at s k = source_of s (pixel s.config.width k)

-- Exactly the dirty pixels were loaded again, by their sources in the state after the entry.
abbrev pub Painted : State → Entry → State → (ℕ → Sight) → (ℕ → Sight) → List ℕ → List ℕ → Type 0
Painted s e s' glasses glasses' raw raw' =
    Repainted (source_at s') (λ k. dirty s e s' (pixel s.config.width k))
    (pixel_count s) glasses glasses' raw raw'

-- a raw word may be held by a pixel of this source, whatever the glasses show
abbrev pub IsRawOf : PixelSource → ℕ → Type 0
IsRawOf Bare w = w ≡ bare_word
IsRawOf Black w = w ≡ 0
IsRawOf (Word t i) w = IsWord w

-- each pixel's raw word is the bare one, 0 or a word, by its source
abbrev pub AreRaw : State → List ℕ → Type 0
AreRaw s raw = (k : ℕ) → k < pixel_count s → IsRawOf (source_at s k) (slice_index_or raw k 0)

-- a word of a session is 0, or the ink of the session's glass has it at its place
abbrev pub IsInkedBy : (ℕ → Sight) → PixelSource → ℕ → Type 0
IsInkedBy glasses Bare w = Unit {0}
IsInkedBy glasses Black w = Unit {0}
IsInkedBy glasses (Word t i) w = IsInked (glasses t).ink i w

-- each raw word that comes from a session is 0, or the ink of the session's glass has it at its
-- place
abbrev pub AreInked : State → (ℕ → Sight) → List ℕ → Type 0
AreInked s glasses raw =
    (k : ℕ) → k < pixel_count s → IsInkedBy glasses (source_at s k) (slice_index_or raw k 0)

-- the word of a pixel by its source, where each session's table has these words
abbrev pub word_from : (ℕ → List ℕ) → PixelSource → ℕ
word_from tables Bare = bare_word
word_from tables Black = 0
word_from tables (Word t i) = slice_index (tables t) i

-- the words of the pixels of a state's screen, row by row from the top
abbrev pub words_of : State → (ℕ → ℕ) → List ℕ
words_of s word = map word (range_with_len 0 (pixel_count s))
