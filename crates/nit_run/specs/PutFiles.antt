-- Files that are put one after the other, and names that are asked for.
use Rattle.std.specs.Prelude.{◌≡◌, ℕ, List, [], ◌∷◌, ◌++◌, map, Option, Some, None, option_map}
use Rattle.nit_run.specs.Below.{File, IsPut, StoreModel}

-- files are put one after the other
abbrev pub PutEach : List File → List File → List File → Type 0
PutEach [] old new = new ≡ old
PutEach (f ∷ fs) old new = (mid : List File) × IsPut f.0 f.1 old mid × PutEach fs mid new

-- where the store tells its files, it has these files more, put one after the other
abbrev pub PutFiles : List File → Option (List File) → Option (List File) → Type 0
PutFiles files None new = new ≡ None
PutFiles files (Some old) new = (all : List File) × (new ≡ Some all) × PutEach files old all

abbrev pub file_names : List File → List (List ℕ)
file_names files = map (λ f. f.0) files

-- the names that were asked for, and these behind them
abbrev pub asked_also : Option (List (List ℕ)) → List (List ℕ) → Option (List (List ℕ))
asked_also asked names = option_map (λ before. before ++ names) asked

-- what the store shows, with these names at the end of those that were asked for, where they are
-- told
abbrev pub asking_all : StoreModel → List (List ℕ) → StoreModel
asking_all old names = record old { asked = asked_also old.asked names }
