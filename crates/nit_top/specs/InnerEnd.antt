-- How an inner run ends the work.
use Rattle.std.specs.Prelude.{◌≡◌, ◌∷◌, [], false, true, List, Result, Ok, Err}
use Rattle.nit_top.specs.Below.{End, Inner, IsJournal, Line, NestError, NoMemory, RunFiles}
use Rattle.nit_top.specs.Below.{ShowsNest, TooLong, by_turns, is_too_long, nest_of, nest_script}
use Rattle.nit_setup.specs.declared.stop.End.TheVariants as end
use Rattle.nit_setup.specs.declared.stop.Fault.TheVariants as fault

-- a refusal of a frame, or of a script that fits but for its length
abbrev pub MayCome : NestError → Type 0
MayCome TooLong = Unit {0}
MayCome NoMemory = Unit {0}
MayCome other = ⊥

-- how the work ends where a frame or the script was refused
abbrev pub end_of_nest : NestError → End
end_of_nest TooLong = end.Unfit fault.FramesTooLong
end_of_nest other = end.NoMemory

-- a script that shows the frames of a run by turns was made, with the run's journal; or the frames
-- are too long for it; or memory ran out
abbrev pub IsInnerEnd : RunFiles → List Line → Result Inner End → Type 0
IsInnerEnd i own (Ok made) = IsJournal (by_turns i) made.journal.items
    × (is_too_long (nest_of i) (own ∷ []) ≡ false) × (made.script ≡ nest_script (nest_of i) own)
    × ShowsNest (nest_of i) made.script
IsInnerEnd i own (Err (end.Unfit fault.FramesTooLong)) =
    is_too_long (nest_of i) (own ∷ []) ≡ true
IsInnerEnd i own (Err end.NoMemory) = Unit {0}
IsInnerEnd i own (Err other) = ⊥
