-- The pictures of a run whose user takes no shot.
use Rattle.std.proofs.Common.{arith, ◌≡◌, List, [], ◌∷◌, refl, ℕ, zero, suc, ◌++◌, replicate, ◌∙◌}
use Rattle.nit_run.proofs.Basics.{ActorLine, AreOutputs, ByClient, ByUser, Configuration, Drawing}
use Rattle.nit_run.proofs.Basics.{Entry, File, InputLine, IsJournal, Line, LineTurn, after_turn}
use Rattle.nit_run.proofs.Basics.{count_by, final_name, final_picture, fold, input_by_user}
use Rattle.nit_run.proofs.Basics.{input_lines_of, is_phase, nat_tests, opening_drawing, rounds}
use Rattle.nit_run.proofs.Basics.{shots, shots_after, still_setup, user_actions_from}
use Rattle.nit_run.proofs.Basics.{user_actions_of}
use Rattle.nit_rounds.specs.Drawing.{drawn}
use Rattle.nit_events.specs.declared.entry.Entry.TheVariants as entry
use Rattle.nit_script.specs.declared.line.InputLine.TheVariants as input

pub no_shots : (es : List Entry) → user_actions_of es ≡ [] → shots es ≡ 0
no_shots [] none = refl
no_shots (entry.Input dev routed ∷ es) none = absurd cc
no_shots (entry.Shot n ∷ es) none = absurd cc
no_shots (other ∷ es) none = no_shots es none

-- ---- a user who does nothing

no_actions : (n phase : ℕ) → user_actions_from phase (replicate n input.Phase) ≡ []
no_actions zero phase = refl
no_actions (suc n) phase = no_actions n (suc phase)

phase_first : (n : ℕ) (l : InputLine) (rest : List InputLine) → l ∷ rest ≡ replicate n input.Phase → (l ≡ input.Phase)
    × ((k : ℕ) × (rest ≡ replicate k input.Phase))
phase_first zero l rest e = absurd cc
phase_first (suc n) l rest e = (cc, (n, cc))

-- a move that may be of a user who only ends phases makes no picture
one_move : (config : Configuration) (doing : ActorLine) (d : Drawing) (rest : List InputLine) (n : ℕ)
    → input_by_user doing ++ rest ≡ replicate n input.Phase → (shots_after config doing d ≡ d.shots)
    × ((k : ℕ) × (rest ≡ replicate k input.Phase))
one_move config (ByClient sid l) d rest n e = (refl, (n, e))
one_move config (ByUser l) d rest n e = let (is, more) = phase_first n l rest e in (rw is refl, more)

no_picture_from : (config : Configuration) (scripts : List (List Line)) (moves : List LineTurn) (d : Drawing) (n : ℕ)
    → input_lines_of moves ≡ replicate n input.Phase → (fold (after_turn config scripts) d moves).shots ≡ d.shots
no_picture_from config scripts [] d n e = refl
no_picture_from config scripts (m ∷ moves) d n e =
    let one = one_move config m.doing d (input_lines_of moves) n e in
    no_picture_from config scripts moves (after_turn config scripts d m) one.1.0 one.1.1 ∙ one.0

pub no_picture : (config : Configuration) (scripts : List (List Line)) (moves : List LineTurn) (n : ℕ)
    → input_lines_of moves ≡ replicate n input.Phase → (drawn config scripts moves).shots ≡ []
unfolding drawn
no_picture config scripts moves n e = no_picture_from config scripts moves (opening_drawing config) n e

-- what the law of rounds says
abbrev pub UserOnce : Type 0
UserOnce = (scripts : List (List Line)) (lines : List InputLine) → input_lines_of (rounds scripts lines) ≡ lines

pub one_file : UserOnce → (width height : ℕ) (lines : List Line) (journal : List Entry) (files : List File)
    → IsJournal (still_setup width height lines) journal → AreOutputs (still_setup width height lines) journal files
    → files ≡ (final_name, final_picture (still_setup width height lines) journal) ∷ []
one_file once width height lines journal files j are =
    let s = still_setup width height lines in
    rw (
      are.2,
      are.1.by_rounds refl,
      no_picture s.config s.scripts (rounds s.scripts s.input) (count_by is_phase lines) (once s.scripts s.input),
    ) refl

pub no_shot : (width height : ℕ) (lines : List Line) (journal : List Entry)
    → IsJournal (still_setup width height lines) journal → shots journal ≡ 0
no_shot width height lines journal j = grind (arith, nat_tests, no_shots, no_actions)
