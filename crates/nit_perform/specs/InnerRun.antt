-- What an inner run leaves: frames in a nest, the script that shows them, and the journal.
use Rattle.std.specs.Prelude.{◌≡◌, ◌⊎◌, ℕ, ◌++◌, ◌∷◌, [], List, Option, Some, None, Result, Ok, Err}
use Rattle.std.specs.Prelude.{true, false}
use Rattle.nit_perform.specs.Below.{Inner, IsJournal, Line, NestError, NestModel, RunFiles}
use Rattle.nit_perform.specs.Below.{ShowsNest, TooLong, by_turns, frame_answer, is_too_long}
use Rattle.nit_perform.specs.Below.{nest_of, nest_script}
use Rattle.nit_nested.specs.declared.error.NestError.TheVariants.{NoMemory}

-- a nest and the refusal that is kept of it, if there is one
pub record NestState : Type 0 where
  pub nest : NestModel
  pub fault : Option NestError

-- a frame was taken into the nest, or it was refused: as too long, or for want of memory
abbrev pub TakesFrame : List ℕ → NestModel → NestState → Type 0
TakesFrame words old now =
    ((now.fault ≡ None) × (now.nest ≡ record old { frames = old.frames ++ words ∷ [] }))
    ⊎ (((now.fault ≡ Some TooLong) × (frame_answer old words ≡ Err TooLong))
    ⊎ (now.fault ≡ Some NoMemory))

-- a frame was taken, unless one was refused before; then nothing changes
abbrev pub TakesUnless : Option NestError → List ℕ → NestModel → NestState → Type 0
TakesUnless (Some e) words old now = now ≡ record { nest = old; fault = Some e }
TakesUnless None words old now = TakesFrame words old now

abbrev pub TakesNext : List ℕ → NestState → NestState → Type 0
TakesNext words old now = TakesUnless old.fault words old.nest now

-- frames were taken one after the other, until one was refused
abbrev pub TakesAll : List (List ℕ) → NestState → NestState → Type 0
TakesAll [] old now = now ≡ old
TakesAll (words ∷ rest) old now =
    (mid : NestState) × TakesNext words old mid × TakesAll rest mid now

-- a script that shows the frames of a run by turns was made, with the run's journal; or the frames
-- are too long for it; or memory ran out
abbrev pub NestsRun : RunFiles → List Line → Result Inner NestError → Type 0
NestsRun i own (Ok made) = IsJournal (by_turns i) made.journal.items
    × (is_too_long (nest_of i) (own ∷ []) ≡ false) × (made.script ≡ nest_script (nest_of i) own)
    × ShowsNest (nest_of i) made.script
NestsRun i own (Err TooLong) = is_too_long (nest_of i) (own ∷ []) ≡ true
NestsRun i own (Err NoMemory) = Unit {0}
NestsRun i own (Err other) = ⊥
