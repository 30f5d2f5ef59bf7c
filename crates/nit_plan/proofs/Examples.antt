-- Worked rows of scripts, computed from the definitions.
use Rattle.std.proofs.Common.{List, [], refl, take, ℕ, ◌∷◌, ◌≡◌}
use Rattle.nit_plan.proofs.Basics.{Buffer, Check, Close, Expect, Fill, Line, Nothing, Step, Take}
use Rattle.nit_plan.proofs.Basics.{Taken, View, calls_in, calls_to_make, ink, map, plan_of_script}
use Rattle.nit_plan.proofs.Basics.{stages_within, words_left}
use Rattle.nit_journal.specs.Session.{serve}
use Rattle.nit_plan.specs.Strokes.{cleared, stroked}
use Rattle.nit_word.specs.Zeros.{zeros}
use Rattle.nit_events.specs.declared.call.Reply.TheVariants as reply
use Rattle.nit_script.specs.declared.line.Line.TheVariants as line
use Rattle.nit_plan.specs.declared.plan.Expect.TheVariants.{Reply}

-- a check of two colours over a buffer of 4 by 2
checks : stroked (record { w = 4; h = 2 }) (Check 0 0 4 2 7 9) (0 ∷ 0 ∷ 0 ∷ 0 ∷ 0 ∷ 0 ∷ 0 ∷ 0 ∷ 5 ∷ [])
    ≡ 7 ∷ 9 ∷ 7 ∷ 9 ∷ 9 ∷ 7 ∷ 9 ∷ 7 ∷ 5 ∷ []
unfolding stroked
checks = refl

-- a fill that reaches past the buffer
fills : stroked (record { w = 2; h = 2 }) (Fill 1 1 9 9 7) (1 ∷ 2 ∷ 3 ∷ 4 ∷ 5 ∷ []) ≡ 1 ∷ 2 ∷ 3 ∷ 7 ∷ 5 ∷ []
unfolding stroked
fills = refl

-- what a script of 512 units leaves: the second buffer is refused, and the fill before the first does nothing
abbrev script : List Line
script =
    line.Stroke (Fill 0 0 9 9 7)
    ∷ line.Call (Buffer 2 1)
    ∷ line.Stroke (Fill 1 0 1 1 8)
    ∷ line.Phase
    ∷ line.Call View
    ∷ line.Call (Buffer 40 40)
    ∷ line.Stroke (Fill 0 0 1 1 9)
    ∷ []

left : take 4 (words_left script 512) ≡ 9 ∷ 8 ∷ 0 ∷ 0 ∷ []
unfolding serve zeros stroked cleared
left = refl

named : ink script ≡ 7 ∷ 8 ∷ 9 ∷ []
named = refl

called : calls_to_make script ≡ (0, Buffer 2 1) ∷ (1, View) ∷ (1, Buffer 40 40) ∷ []
called = refl

plain_calls : calls_in (take 5 script) ≡ Buffer 2 1 ∷ View ∷ []
plain_calls = refl

-- the first two words after two and after three lines of the same script; from three to two there are none
parts : map (take 2) (stages_within script 512 2 3) ≡ (0 ∷ 0 ∷ []) ∷ (0 ∷ 8 ∷ []) ∷ []
unfolding serve zeros stroked cleared
parts = refl

none_between : stages_within script 512 3 2 ≡ []
none_between = refl

abbrev step : ℕ → ℕ → Expect → Step
step w h e = record { w = w; h = h; expect = e }

-- the plan of the same script: the second buffer needs 12800 units, and the view leaves 256
steps : (plan_of_script script 512).steps
    ≡ step 0 0 Nothing ∷ step 2 1 (Reply reply.Done) ∷ step 2 1 Nothing ∷ step 2 1 Nothing
    ∷ step 2 1 (Reply (reply.Handle 1)) ∷ step 2 1 (Reply (reply.OutOfQuota 12800 256)) ∷ step 2 1 Nothing ∷ []
unfolding serve
steps = refl

-- a `Take` is open until the script closes its session, and the buffer is gone then
closed : (plan_of_script (line.Call (Buffer 2 1) ∷ line.Call Take ∷ line.Call Close ∷ line.Call Take ∷ line.Call View
    ∷ []) 512).steps
    ≡ step 2 1 (Reply reply.Done) ∷ step 2 1 Taken ∷ step 0 0 (Reply reply.Done) ∷ step 0 0 (Reply reply.Closed)
    ∷ step 0 0 (Reply reply.Closed) ∷ []
unfolding serve
closed = refl
