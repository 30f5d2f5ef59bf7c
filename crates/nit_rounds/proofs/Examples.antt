-- Worked rows of rounds, and of what they draw, computed from the definitions.
use Rattle.std.proofs.Common.{List, [], false, map, pos, refl, take, true, ℕ, ◌∷◌, ◌≡◌}
use Rattle.nit_rounds.proofs.Basics.{Acts, Buffer, Calls, Client, Configuration, Does, Fill}
use Rattle.nit_rounds.proofs.Basics.{InputLine, Line, Motion, Place, Refresh, Shoots, User}
use Rattle.nit_rounds.proofs.Basics.{actions_of_turns, bare_word, range_with_len, rounds, shot_file}
use Rattle.nit_rounds.proofs.Basics.{shot_name, turn_of}
use Rattle.nit_config.specs.Configuration.{still_configuration}
use Rattle.nit_events.specs.declared.call.Call.TheVariants.{View}
use Rattle.nit_rounds.specs.Drawing.{drawn}
use Rattle.nit_journal.specs.Session.{serve}
use Rattle.nit_journal.specs.StackAfter.{stack_after_call}
use Rattle.nit_plan.specs.Strokes.{cleared, stroked}
use Rattle.nit_word.specs.Zeros.{zeros}
use Rattle.nit_script.specs.declared.line.Line.TheVariants as line
use Rattle.nit_script.specs.declared.line.InputLine.TheVariants as input

-- ---- one actor acts in each phase

first_script : List Line
first_script = line.Call (Buffer 4 2) ∷ line.Stroke (Fill 0 0 4 2 0xFF0000) ∷ line.Call View
    ∷ line.Call (Place 1 (pos 0) (pos 0) 4 2) ∷ line.Phase ∷ line.Phase ∷ line.Phase ∷ []

second_script : List Line
second_script =
    line.Phase ∷ line.Call (Buffer 4 2) ∷ line.Stroke (Fill 0 0 4 2 0xFF) ∷ line.Call View
    ∷ line.Call (Place 1 (pos 0) (pos 0) 4 2) ∷ line.Phase ∷ line.Phase
    ∷ line.Call (Place 1 (pos 4) (pos 2) 4 2) ∷ []

shot_script : List InputLine
shot_script = input.Phase ∷ input.Phase ∷ input.Shot ∷ input.Phase ∷ []

two_turns : map turn_of (rounds (first_script ∷ second_script ∷ []) shot_script)
    ≡ Client 0 0 ∷ Client 1 0 ∷ User 0 ∷ Client 0 1 ∷ Client 0 2 ∷ Client 0 3 ∷ Client 0 4
    ∷ Client 0 5 ∷ Client 1 1 ∷ User 1 ∷ Client 1 2 ∷ Client 1 3 ∷ Client 1 4 ∷ Client 1 5
    ∷ Client 0 6 ∷ Client 1 6 ∷ User 2 ∷ User 3
    ∷ Client 1 7 ∷ []
unfolding first_script second_script shot_script
two_turns = refl

two_acts : actions_of_turns (rounds (first_script ∷ second_script ∷ []) shot_script)
    ≡ Calls 0 (Buffer 4 2) ∷ Calls 0 View ∷ Calls 0 (Place 1 (pos 0) (pos 0) 4 2)
    ∷ Calls 1 (Buffer 4 2) ∷ Calls 1 View ∷ Calls 1 (Place 1 (pos 0) (pos 0) 4 2)
    ∷ Acts Shoots ∷ Calls 1 (Place 1 (pos 4) (pos 2) 4 2) ∷ []
unfolding first_script second_script shot_script
two_acts = refl

-- ---- phases of different lengths: those that end first wait for the last one

long_first : List Line
long_first = line.Call View ∷ line.Call View ∷ line.Phase ∷ line.Call View ∷ []

long_second : List Line
long_second = line.Phase ∷ line.Call View ∷ line.Call View ∷ line.Call View ∷ []

one_motion : List InputLine
one_motion = input.Phase ∷ input.Device (Motion 1 1) ∷ []

waiting_turns : map turn_of (rounds (long_first ∷ long_second ∷ []) one_motion)
    ≡ Client 0 0 ∷ Client 1 0 ∷ User 0 ∷ Client 0 1 ∷ Client 0 2
    ∷ Client 0 3 ∷ Client 1 1 ∷ User 1 ∷ Client 1 2 ∷ Client 1 3 ∷ []
unfolding long_first long_second one_motion
waiting_turns = refl

waiting_acts : actions_of_turns (rounds (long_first ∷ long_second ∷ []) one_motion)
    ≡ Calls 0 View ∷ Calls 0 View ∷ Calls 0 View ∷ Calls 1 View ∷ Acts (Does (Motion 1 1)) ∷ Calls 1 View ∷ Calls 1 View
    ∷ []
unfolding long_first long_second one_motion
waiting_acts = refl

-- ---- no line at all

nothing : rounds [] [] ≡ []
nothing = refl

-- ---- what is drawn

-- a screen of 3 by 1
abbrev small : Configuration
small = record (still_configuration 3 1) {
  input = [];
  clients =
      record { label = []; donation = 512; script = []; layer = 0; clicks = true } ∷ [];
}

-- the view shows both words of the buffer; one of them is drawn over, and seen with the next call; the last call sets
-- both to 0
abbrev drawing_script : List Line
drawing_script =
    line.Call (Buffer 2 1) ∷ line.Call View ∷ line.Stroke (Fill 0 0 2 1 7) ∷ line.Call (Place 1 (pos 0) (pos 0) 2 1)
    ∷ line.Stroke (Fill 1 0 1 1 8)
    ∷ line.Call (Refresh (pos 1) (pos 0) 1 1) ∷ line.Call (Buffer 2 1) ∷ []

-- the words of the pixels after so many moves
abbrev words_at : ℕ → List ℕ
words_at k = map (drawn small (drawing_script ∷ []) (take k (rounds (drawing_script ∷ []) []))).word
    (range_with_len 0 3)

words_drawn : map words_at (3 ∷ 4 ∷ 5 ∷ 6 ∷ 7 ∷ [])
    ≡ (bare_word ∷ bare_word ∷ bare_word ∷ []) ∷ (7 ∷ 7 ∷ bare_word ∷ []) ∷ (7 ∷ 7 ∷ bare_word ∷ [])
    ∷ (7 ∷ 8 ∷ bare_word ∷ []) ∷ (0 ∷ 0 ∷ bare_word ∷ []) ∷ []
unfolding drawn serve stack_after_call zeros stroked cleared
words_drawn = refl

-- the shots of the user are named by their numbers
shots_named : map (λ f. (shot_file f).0)
    (drawn small ([] ∷ []) (rounds ([] ∷ []) (input.Shot ∷ input.Phase ∷ input.Shot ∷ []))).shots
    ≡ shot_name 1 ∷ shot_name 2 ∷ []
unfolding drawn
shots_named = refl
