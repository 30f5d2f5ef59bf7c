-- One history of raw words: which word each pixel held after each entry of a journal. Pixels count
-- from 0, row by row from the top.
use Rattle.std.specs.Prelude.{◌≡◌, ℕ, zero, suc, ◌*◌, ◌<◌, false, List, [], ◌∷◌, ◌++◌, length}
use Rattle.nit_hall.specs.Below.{Configuration, Entry, bare_word, slice_index_or}
use Rattle.nit_hall.specs.NearWords.{is_dirtied}

-- the word of a pixel after the first n entries, where these raw words stand after each entry;
-- before any entry it is the bare word
abbrev pub raw_behind : List (List ℕ) → ℕ → ℕ → ℕ
raw_behind raws zero k = bare_word
raw_behind raws (suc n) k = slice_index_or (slice_index_or raws n []) k 0

-- What each pixel holds after the first n entries of a journal, `held n k`: at first the bare
-- word; and a pixel that an entry does not make dirty holds after it the word that it held before
-- it.
pub record IsHeld (config : Configuration) (journal : List Entry) (held : ℕ → ℕ → ℕ) : Type 0 where
  pub first : (k : ℕ) → held 0 k ≡ bare_word
  pub clean : (front : List Entry) (e : Entry) (rest : List Entry) (k : ℕ)
      → journal ≡ front ++ e ∷ rest → k < config.width * config.height
      → is_dirtied config front e k ≡ false
      → held (suc (length front)) k ≡ held (length front) k

-- after each entry there are raw words, in order, which are held along them
pub record IsHistory (config : Configuration) (entries : List Entry) (raws : List (List ℕ))
    : Type 0 where
  pub each : length raws ≡ length entries
  pub held : IsHeld config entries (raw_behind raws)

-- each pixel holds now what it held after the last entry
abbrev pub AreLast : Configuration → List (List ℕ) → List ℕ → Type 0
AreLast config raws raw = (k : ℕ) → k < config.width * config.height
    → slice_index_or raw k 0 ≡ raw_behind raws (length raws) k
