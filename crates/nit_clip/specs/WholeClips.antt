-- Clip lists that are whole for what the clients are to do. What a client is to do with the
-- clipboard is a list of pairs: the number of a phase, and a clip call that is done in it. Phases
-- count from 0.
use Rattle.std.specs.Prelude.{◌≡◌, ◌≤◌, ℕ, suc, ◌<◌, ◌==◌, nat_le, List, [], ◌∷◌, take, filter}
use Rattle.std.specs.Prelude.{length, slice_index_or, slice_set, if◌then◌else◌}
use Rattle.nit_clip.specs.Below.{AllByRecursion, Call, ClipCall, ClipEntry, ClipLine, Entry}
use Rattle.nit_clip.specs.Below.{UserAction, calls_of, done, left, next_phase, phases_along, to_do}
use Rattle.nit_clip.specs.declared.line.ClipLine.TheVariants as line

-- the clip calls of lines that begin in a phase
abbrev pub clips_from : ℕ → List ClipLine → List (ℕ × ClipCall)
clips_from phase [] = []
clips_from phase (line.Call c ∷ rest) = (phase, c) ∷ clips_from phase rest
clips_from phase (line.Phase ∷ rest) = clips_from (suc phase) rest

-- the clip calls of a client's clip script
abbrev pub clips_to_make : List ClipLine → List (ℕ × ClipCall)
clips_to_make lines = clips_from 0 lines

-- the clip calls among lines, without their phases
abbrev pub clip_calls_in : List ClipLine → List ClipCall
clip_calls_in [] = []
clip_calls_in (line.Call c ∷ rest) = c ∷ clip_calls_in rest
clip_calls_in (line.Phase ∷ rest) = clip_calls_in rest

-- what a client is to do with the clipboard
abbrev pub clips_to_do : List (List (ℕ × ClipCall)) → ℕ → List (ℕ × ClipCall)
clips_to_do scripts sid = slice_index_or scripts sid []

-- the clip calls of a session, in order
abbrev pub clip_calls_of : ℕ → List ClipEntry → List ClipCall
clip_calls_of s [] = []
clip_calls_of s (e ∷ rest) =
    if e.sid == s then e.call ∷ clip_calls_of s rest else clip_calls_of s rest

-- the calls that a client is to make in the phases up to this one
abbrev pub calls_up_to : ℕ → List (ℕ × Call) → List (ℕ × Call)
calls_up_to phase calls = filter (λ t. nat_le t.0 phase) calls

-- A clip call of this phase stands after all calls that its client makes in the phases up to this
-- one, and before every entry of a later phase.
pub record IsInPhase (clients : List (List (ℕ × Call))) (user : List (ℕ × UserAction))
    (journal : List Entry) (phase : ℕ) (e : ClipEntry) : Type 0 where
  pub behind :
      length (calls_up_to phase (to_do clients e.sid)) ≤ length (calls_of e.sid (take e.at journal))
  pub before : AllByRecursion (λ p. p ≤ phase) (take e.at (phases_along clients user journal))

-- what each client is still to do with the clipboard when this one has done what it does next
abbrev pub one_clip_done : List (List (ℕ × ClipCall)) → ℕ → List (List (ℕ × ClipCall))
one_clip_done scripts sid = slice_set scripts sid (left (clips_to_do scripts sid))

-- each entry is what its client does next with the clipboard, in the phase of that
abbrev pub AreInPhases : List (List (ℕ × Call)) → List (ℕ × UserAction) → List Entry
    → List (List (ℕ × ClipCall)) → List ClipEntry → Type 0
AreInPhases clients user journal scripts [] = Unit {0}
AreInPhases clients user journal scripts (e ∷ rest) =
    IsInPhase clients user journal (next_phase (clips_to_do scripts e.sid)) e
    × AreInPhases clients user journal (one_clip_done scripts e.sid) rest

-- what each client is still to do with the clipboard after these entries
abbrev pub left_after :
    List (List (ℕ × ClipCall)) → List ClipEntry → List (List (ℕ × ClipCall))
left_after scripts [] = scripts
left_after scripts (e ∷ rest) = left_after (one_clip_done scripts e.sid) rest

-- The clip calls of each client are those that it is to make, in order, each once, and each stands
-- in its phase.
pub record IsWholeClips (clients : List (List (ℕ × Call))) (user : List (ℕ × UserAction))
    (journal : List Entry) (scripts : List (List (ℕ × ClipCall))) (clips : List ClipEntry)
    : Type 0 where
  pub calls : (sid : ℕ) → sid < length scripts
      → clip_calls_of sid clips ≡ done (clips_to_do scripts sid)
  pub placed : AreInPhases clients user journal scripts clips
