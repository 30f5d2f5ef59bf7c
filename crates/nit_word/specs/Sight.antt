-- What contracts see of a glass.
use Rattle.std.specs.Prelude.{◌≡◌, ℕ, List, [], ◌∷◌, ◌+◌, ◌<◌, ◌≤◌, ◌++◌, length}
use Rattle.std.specs.Prelude.{slice_index, slice_set}
use Rattle.std.specs.Prelude.{Option, None, Some, IfSome}
use Rattle.nit_word.specs.Below.{option_map}
use Rattle.nit_word.specs.Inks.{Colours, Ink, IsAmong, IsInked, IsWord, Stages}

-- The number of the owner, how many words there are, and the ink; where the glass knows it, lists
-- of words of which one has what now stands at each place; the words where the glass tells them;
-- and each load's place and word, oldest first, where the glass tells them.
pub record Sight : Type 0 where
  pub owner : ℕ
  pub size : ℕ
  pub ink : Ink
  pub stages : Option (List (List ℕ))
  pub words : Option (List ℕ)
  pub log : Option (List (ℕ × ℕ))

-- what was loaded at place i is a word, is 0 or what the ink has there, is what one of the known
-- stages has there, and is the told word at i
pub record IsLoaded (sight : Sight) (i w : ℕ) : Type 0 where
  pub fits : IsWord w
  pub inked : IsInked sight.ink i w
  pub stage : IfSome sight.stages (λ stages. IsAmong stages i w)
  pub told : IfSome sight.words (λ words. w ≡ slice_index words i)

-- what was loaded of a row of places, the first of which is `from`
abbrev pub IsLoadedRow : Sight → ℕ → List ℕ → Type 0
IsLoadedRow sight from row =
    (j : ℕ) → j < length row → IsLoaded sight (from + j) (slice_index row j)

-- where words are told, every place has one
abbrev pub TellsAll : Sight → Type 0
TellsAll sight = IfSome sight.words (λ words. length words ≡ sight.size)

-- the told words, and none where no words are told
abbrev pub told_words : Option (List ℕ) → List ℕ
told_words (Some words) = words
told_words None = []

-- the told word at a place, and 0 where none is told
abbrev pub told_at : Sight → ℕ → ℕ
told_at sight i = slice_index (told_words sight.words) i

-- the sight after these loads: a told log has them at its end, and all else is as before
abbrev pub seen : Sight → List (ℕ × ℕ) → Sight
seen sight loads = record sight { log = option_map (λ log. log ++ loads) sight.log }

-- the sight where the glass knows these stages: all else is as before
abbrev pub with_stages : List (List ℕ) → Sight → Sight
with_stages stages sight = record sight { stages = Some stages }

-- each of the words is had, at its place, by one of the stages
abbrev pub HaveWords : List (List ℕ) → List ℕ → Type 0
HaveWords stages words = (i : ℕ) → IsAmong stages i (slice_index words i)

-- the words are of the stages, where the glass knows any
abbrev pub HasStage : Sight → List ℕ → Type 0
HasStage sight words = IfSome sight.stages (λ stages. HaveWords stages words)

-- w may be stored at place i: it is 0 or what the ink has there, and of the stages, where the glass
-- knows any
abbrev pub MayHold : Sight → ℕ → ℕ → Type 0
MayHold sight i w = IsInked sight.ink i w × IfSome sight.stages (λ stages. IsAmong stages i w)

-- at each place from the first to before the last the colour that it is given may be stored
abbrev pub MayHoldBetween : Sight → ℕ → ℕ → (ℕ → ℕ) → Type 0
MayHoldBetween sight first last colour =
    (i : ℕ) → first ≤ i → i < last → MayHold sight i (colour i)

-- the sight of a glass that tells its words, which are all that its ink has, and tells no log
abbrev pub plain_sight : ℕ → List ℕ → Sight
plain_sight owner words =
    record {
      owner = owner;
      size = length words;
      ink = Stages (words ∷ []);
      stages = None;
      words = Some words;
      log = None;
    }

-- the sight of a glass of fixed colours that tells its words and tells no log
abbrev pub inked_sight : ℕ → List ℕ → List ℕ → Sight
inked_sight owner words colours =
    record {
      owner = owner;
      size = length words;
      ink = Colours colours;
      stages = None;
      words = Some words;
      log = None;
    }

-- the sight after w was stored at place i: told words have it there, and all else is as before
abbrev pub stored : Sight → ℕ → ℕ → Sight
stored sight i w = record sight { words = option_map (λ words. slice_set words i w) sight.words }

-- the sight after w was stored at place i of words that are all that the ink has
abbrev pub plain_stored : Sight → ℕ → ℕ → Sight
plain_stored sight i w =
    let after = stored sight i w in record after { ink = Stages (told_words after.words ∷ []) }
