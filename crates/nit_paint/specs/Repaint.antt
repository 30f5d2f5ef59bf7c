-- Pixels that are loaded again: what each of them holds then, and what was loaded for it. The
-- glasses are told by the numbers of their sessions, and the pixels by their numbers, row by row
-- from the top.
use Rattle.std.specs.Prelude.{◌≡◌, ℕ, zero, suc, ◌+◌, ◌<◌, ◌==◌, Bool, true, false, ◌&&◌, List, []}
use Rattle.std.specs.Prelude.{◌∷◌, count_by, Contains, slice_index_or, if◌then◌else◌}
use Rattle.nit_paint.specs.Below.{Bare, Black, IsLoaded, PixelSource, Sight, Word}
use Rattle.nit_paint.specs.Below.{bare_word, seen}

-- The word may be held by a pixel of this source: it is the bare word or 0 where nothing is loaded,
-- and what the session's glass gives at the index otherwise.
abbrev pub IsWordOfSource : (ℕ → Sight) → PixelSource → ℕ → Type 0
IsWordOfSource glasses Bare w = w ≡ bare_word
IsWordOfSource glasses Black w = w ≡ 0
IsWordOfSource glasses (Word t i) w = IsLoaded (glasses t) i w

-- a word that comes from a glass is one of these loads
abbrev pub IsAmongLoads : (ℕ → List (ℕ × ℕ)) → PixelSource → ℕ → Type 0
IsAmongLoads loads Bare w = Unit {0}
IsAmongLoads loads Black w = Unit {0}
IsAmongLoads loads (Word t i) w = Contains (loads t) (i, w)

-- what is loaded for one pixel of this source that then holds w
abbrev pub loads_of : PixelSource → ℕ → ℕ → List (ℕ × ℕ)
loads_of Bare w t = []
loads_of Black w t = []
loads_of (Word u i) w t = if t == u then (i, w) ∷ [] else []

-- the pixel shows this word of this session
abbrev pub is_word_of : ℕ → ℕ → PixelSource → Bool
is_word_of t i Bare = false
is_word_of t i Black = false
is_word_of t i (Word u j) = (t == u) && (i == j)

-- how many of these loads were of this index
abbrev pub loads_at : ℕ → List (ℕ × ℕ) → ℕ
loads_at i loads = count_by (λ load. load.0 == i) loads

-- how many of the first n pixels are marked and show the word at i of session t
abbrev pub times_shown : (ℕ → PixelSource) → (ℕ → Bool) → ℕ → ℕ → ℕ → ℕ
times_shown source is_marked t i zero = 0
times_shown source is_marked t i (suc n) =
    times_shown source is_marked t i n
    + (if (is_marked n && is_word_of t i (source n)) then 1 else 0)

-- Of the first n pixels of a screen exactly the marked ones were loaded again, by their sources:
-- each marked pixel holds what it may hold, and a word of a glass was loaded for it in this; every
-- other pixel is as before; each word was loaded as often as it is shown by marked pixels; and
-- nothing else was loaded or changed.
pub record Repainted (source : ℕ → PixelSource) (is_marked : ℕ → Bool) (n : ℕ)
    (before after : ℕ → Sight) (raw raw' : List ℕ) : Type 0 where
  pub loads : ℕ → List (ℕ × ℕ)
  pub sights : (t : ℕ) → after t ≡ seen (before t) (loads t)
  pub marked : (k : ℕ) → k < n → is_marked k ≡ true
      → IsWordOfSource before (source k) (slice_index_or raw' k 0)
      × IsAmongLoads loads (source k) (slice_index_or raw' k 0)
  pub others : (k : ℕ) → (k < n → is_marked k ≡ false)
      → slice_index_or raw' k 0 ≡ slice_index_or raw k 0
  pub counts : (t i : ℕ) → loads_at i (loads t) ≡ times_shown source is_marked t i n
