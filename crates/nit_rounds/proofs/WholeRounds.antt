-- A journal of rounds is whole, and the phases of the rounds never fall.
use Rattle.nit_rounds.proofs.Basics.{Action, ActorLine, AllByRecursion, AreRoundsOf, Bool, ByClient}
use Rattle.nit_rounds.proofs.Basics.{ByUser, Call, Does, Entry, InputLine, IsNonDecreasing, IsWhole}
use Rattle.nit_rounds.proofs.Basics.{Line, LineTurn, List, Shoots, UserAction, [], action_of}
use Rattle.nit_rounds.proofs.Basics.{actions_of_line, actions_of_turns, actors, all_append, ap}
use Rattle.nit_rounds.proofs.Basics.{arith, calls_from, calls_of, calls_to_make, cond_both, done}
use Rattle.nit_rounds.proofs.Basics.{drop, eq-eqb, eqb-true, false, flat_map, flat_map-append}
use Rattle.nit_rounds.proofs.Basics.{get_or, get_or-set_other, get_or-set_same, get_or_past}
use Rattle.nit_rounds.proofs.Basics.{in_phase, le_of_eq, le_trans, left, length, made_of, map}
use Rattle.nit_rounds.proofs.Basics.{nat_tests, ne_eqb, next_phase, phase_count, phase_rounds, phases_along}
use Rattle.nit_rounds.proofs.Basics.{range_with_len, refl, round, rounds, set, subst, suc, sym}
use Rattle.nit_rounds.proofs.Basics.{to_do, turns_from, turns_of, user_actions_from}
use Rattle.nit_rounds.proofs.Basics.{user_actions_of, user_actions_to_do}
use Rattle.std.proofs.Common.{if◌then◌else◌, take, true, zero, ℕ, ◌++◌, ◌+◌, ◌<◌, ◌==◌, ◌∙◌, ◌∷◌}
use Rattle.std.proofs.Common.{◌≡◌, ◌≤◌}
use Rattle.nit_rounds.proofs.PlaceLemmas.{client_part, user_part}
use Rattle.nit_events.specs.declared.entry.Entry.TheVariants as entry
use Rattle.nit_script.specs.declared.line.Line.TheVariants as line
use Rattle.nit_script.specs.declared.line.InputLine.TheVariants as input

-- ---- numbers that never fall

-- each number is at least the one before it, and the first at least this one
abbrev pub Rising : ℕ → List ℕ → Type 0
Rising low [] = Unit {0}
Rising low (x ∷ xs) = (low ≤ x) × Rising x xs

rising_at : (low : ℕ) (xs : List ℕ) → Rising low xs → (j d : ℕ) → j < length xs → low ≤ get_or xs j d
rising_at low [] r j d h = absurd (omega arith)
rising_at low (x ∷ xs) r zero d h = r.0
rising_at low (x ∷ xs) r (suc j) d h = le_trans r.0 (rising_at x xs r.1 j d (omega arith))

pub never_falls : (low : ℕ) (xs : List ℕ) → Rising low xs → IsNonDecreasing xs
never_falls low [] r i j d up h = absurd (omega arith)
never_falls low (x ∷ xs) r zero j d up h = rising_at x (x ∷ xs) (omega arith, r.1) j d h
never_falls low (x ∷ xs) r (suc i) zero d up h = absurd (omega arith)
never_falls low (x ∷ xs) r (suc i) (suc j) d up h = never_falls x xs r.1 i j d (omega arith) (omega arith)

from_lower : (low mid : ℕ) (xs : List ℕ) → low ≤ mid → Rising mid xs → Rising low xs
from_lower low mid [] h r = tt
from_lower low mid (x ∷ xs) h r = (le_trans h r.0, r.1)

same_then : (q : ℕ) (xs ys : List ℕ) → AllByRecursion (λ x. x ≡ q) xs → Rising q ys → Rising q (xs ++ ys)
same_then q [] ys h r = r
same_then q (x ∷ xs) ys h r = grind (arith, nat_tests, same_then q xs ys h.1 r, le_of_eq)

-- ---- the moves of one phase

-- the move's phase, once for each entry that it puts into the journal
abbrev pub act_phases : LineTurn → List ℕ
act_phases m = map (λ _. m.phase) (actions_of_line m.doing)

-- all that these moves put is of this phase
abbrev InPhase : ℕ → List LineTurn → Type 0
InPhase p moves = AllByRecursion (λ m. AllByRecursion (λ n. n ≡ p) (act_phases m)) moves

each_same : (p q : ℕ) (made : List Action) → p ≡ q → AllByRecursion (λ n. n ≡ q) (map (λ _. p) made)
each_same p q [] e = tt
each_same p q (a ∷ made) e = (e, each_same p q made e)

phase_in : (p : ℕ) (moves : List LineTurn) → InPhase p (in_phase p moves)
phase_in p [] = tt
phase_in p (m ∷ moves) = grind (arith, nat_tests, phase_in p moves, cond_both, each_same, eqb-true)

all_flat : {X Y : Type 0} (P : Y → Type 0) (f : X → List Y) (xs : List X)
    → AllByRecursion (λ x. AllByRecursion P (f x)) xs → AllByRecursion P (flat_map f xs)
all_flat P f [] h = tt
all_flat P f (x ∷ xs) h = all_append P (f x) (flat_map f xs) h.0 (all_flat P f xs h.1)

in_round : (p r : ℕ) (moves : List LineTurn) → InPhase p moves → InPhase p (take 1 (drop r moves))
in_round p zero [] h = tt
in_round p zero (m ∷ moves) h = (h.0, tt)
in_round p (suc r) [] h = tt
in_round p (suc r) (m ∷ moves) h = in_round p r moves h.1

round_in : (p r : ℕ) (all : List (List LineTurn)) → InPhase p (round (map (in_phase p) all) r)
round_in p r [] = tt
round_in p r (l ∷ all) = grind (arith, nat_tests, round_in p r all, all_append, in_round, phase_in)

rounds_in : (p : ℕ) (all : List (List LineTurn)) (rs : List ℕ) → InPhase p (flat_map (round (map (in_phase p) all)) rs)
rounds_in p all [] = tt
rounds_in p all (r ∷ rs) = grind (arith, nat_tests, rounds_in p all rs, all_append, round_in)

-- ---- the phases of what is put into a journal

pub rounds_rise : (all : List (List LineTurn)) (p n : ℕ)
    → Rising p (flat_map act_phases (flat_map (phase_rounds all) (range_with_len p n)))
rounds_rise all p zero = tt
rounds_rise all p (suc n) = rw (flat_map-append act_phases (phase_rounds all p) _)
    (same_then p _ _ (all_flat (λ n. n ≡ p) act_phases (phase_rounds all p) (rounds_in p all _))
    (from_lower p (p + 1) _ (omega arith) (rounds_rise all (p + 1) n)))

-- ---- what actors are to do, by their moves

-- a session's call, with its phase
abbrev call_in : ℕ → ℕ → ActorLine → List (ℕ × Call)
call_in s p (ByClient t (line.Call c)) = if t == s then (p, c) ∷ [] else []
call_in s p other = []

abbrev calls_in : ℕ → LineTurn → List (ℕ × Call)
calls_in s m = call_in s m.phase m.doing

-- the user's action, with its phase
abbrev action_in : ℕ → ActorLine → List (ℕ × UserAction)
action_in p (ByUser (input.Device d)) = (p, Does d) ∷ []
action_in p (ByUser input.Shot) = (p, Shoots) ∷ []
action_in p other = []

abbrev actions_in : LineTurn → List (ℕ × UserAction)
actions_in m = action_in m.phase m.doing

script_calls : (s p n : ℕ) (ls : List Line) → flat_map (calls_in s) (turns_from p n (map (ByClient s) ls))
    ≡ calls_from p ls
script_calls s p n [] = refl
script_calls s p n (line.Call c ∷ ls) = grind (arith, nat_tests, script_calls s p (suc n) ls, eq-eqb)
script_calls s p n (line.Stroke x ∷ ls) = script_calls s p (suc n) ls
script_calls s p n (line.Phase ∷ ls) = script_calls s (suc p) (suc n) ls

script_actions : (p n : ℕ) (ls : List InputLine) → flat_map actions_in (turns_from p n (map ByUser ls))
    ≡ user_actions_from p ls
script_actions p n [] = refl
script_actions p n (input.Device d ∷ ls) = rw (script_actions p (suc n) ls)
script_actions p n (input.Shot ∷ ls) = rw (script_actions p (suc n) ls)
script_actions p n (input.Phase ∷ ls) = script_actions (suc p) (suc n) ls

other_call : (s p t : ℕ) (l : Line) → (t ≡ s → ⊥) → call_in s p (ByClient t l) ≡ []
other_call s p t (line.Call c) other = rw (ne_eqb t s other) refl
other_call s p t rest other = refl

round_calls : (scripts : List (List Line)) (input : List InputLine) (s : ℕ)
    → flat_map (calls_in s) (rounds scripts input) ≡ calls_to_make (get_or scripts s [])
round_calls scripts input s = client_part (calls_in s) s calls_to_make (λ p n t l other. other_call s p t l other)
    (λ p n l. refl) refl (script_calls s 0 0) scripts input

round_actions : (scripts : List (List Line)) (input : List InputLine) → flat_map actions_in (rounds scripts input)
    ≡ user_actions_to_do input
round_actions scripts input = user_part actions_in user_actions_to_do (λ p n t l. refl) (script_actions 0 0)
    scripts
    input

-- ---- all entries

abbrev move : ℕ → ℕ → ActorLine → LineTurn
move p n d = record { phase = p; number = n; doing = d }

-- the clients and the user are to do what these moves have them do
record Ahead (clients : List (List (ℕ × Call))) (user : List (ℕ × UserAction)) (ms : List LineTurn) : Type 0 where
  calls : (s : ℕ) → to_do clients s ≡ flat_map (calls_in s) ms
  actions : user ≡ flat_map actions_in ms

-- the journal, with the last picture after it, is what these moves have been done as
record Follows (clients : List (List (ℕ × Call))) (user : List (ℕ × UserAction)) (ms : List LineTurn)
    (js : List Entry) : Type 0 where
  phases : phases_along clients user (js ++ entry.Final ∷ []) ≡ flat_map act_phases ms
  calls : (s : ℕ) → calls_of s (js ++ entry.Final ∷ []) ≡ done (flat_map (calls_in s) ms)
  actions : user_actions_of (js ++ entry.Final ∷ []) ≡ done (flat_map actions_in ms)

abbrev AllFollow : List LineTurn → Type 0
AllFollow ms = (clients : List (List (ℕ × Call))) (user : List (ℕ × UserAction)) (js : List Entry)
    → Ahead clients user ms → map action_of js ≡ actions_of_turns ms → Follows clients user ms js

one_call : (b : Bool) (p : ℕ) (c : Call) (xs : List Call) (ys : List (ℕ × Call)) → xs ≡ done ys
    → (if b then c ∷ xs else xs) ≡ done ((if b then (p, c) ∷ [] else []) ++ ys)
one_call true p c xs ys e = rw e
one_call false p c xs ys e = e

-- the call of a session is done, and what is left of the clients' calls
call_left : (clients : List (List (ℕ × Call))) (s p : ℕ) (c : Call) (ms : List LineTurn)
    → ((x : ℕ) → to_do clients x ≡ call_in x p (ByClient s (line.Call c)) ++ flat_map (calls_in x) ms) →
    (x : ℕ) → to_do (set clients s (left (to_do clients s))) x ≡ flat_map (calls_in x) ms
call_left clients s p c ms calls x = grind (arith, nat_tests, eq-eqb, get_or-set_same, get_or-set_other, get_or_past)

-- what these moves do, a move more does in front
more : (p n : ℕ) (d : ActorLine) (ms : List LineTurn) → AllFollow ms → AllFollow (move p n d ∷ ms)
more p n (ByClient s (line.Call c)) ms follow clients user (entry.Call t call r ∷ js) ahead e =
    let same : t ≡ s = cc in
    let made : call ≡ c = cc in
    let here : to_do clients s ≡ (p, c) ∷ flat_map (calls_in s) ms = rw (eq-eqb s s refl) at (ahead.calls s) in
    let rest = follow (set clients s (left (to_do clients s))) user js
    (record { calls = call_left clients s p c ms ahead.calls; actions = ahead.actions }) cc in
    rw (same, made) (record {
      phases = cc (here, rest.phases);
      calls = λ x. one_call (s == x) p c _ (flat_map (calls_in x) ms) (rest.calls x);
      actions = rest.actions;
    })
more p n (ByClient s (line.Call c)) ms follow clients user other ahead e = absurd cc
more p n (ByUser (input.Device dev)) ms follow clients user (entry.Input d r ∷ js) ahead e =
    let same : d ≡ dev = cc in
    let rest = follow clients (left user) js (record { calls = ahead.calls; actions = ap left ahead.actions }) cc in
    record { phases = cc (ap next_phase ahead.actions, rest.phases); calls = rest.calls; actions = cc rest.actions }
more p n (ByUser (input.Device dev)) ms follow clients user other ahead e = absurd cc
more p n (ByUser input.Shot) ms follow clients user (entry.Shot k ∷ js) ahead e =
    let rest = follow clients (left user) js (record { calls = ahead.calls; actions = ap left ahead.actions }) cc in
    record { phases = cc (ap next_phase ahead.actions, rest.phases); calls = rest.calls; actions = cc rest.actions }
more p n (ByUser input.Shot) ms follow clients user other ahead e = absurd cc
more p n other ms follow clients user js ahead e =
    assumption (follow clients user js (assumption ahead) e)

follow : (ms : List LineTurn) → AllFollow ms
follow [] clients user [] ahead e = record { phases = refl; calls = λ s. refl; actions = refl }
follow [] clients user (j ∷ js) ahead e = absurd cc
follow (m ∷ ms) clients user js ahead e = more m.phase m.number m.doing ms (follow ms) clients user js ahead e

-- ---- the whole run

pub whole : (scripts : List (List Line)) (input : List InputLine) (journal : List Entry)
    → AreRoundsOf journal scripts input
    → IsWhole (map calls_to_make scripts) (user_actions_to_do input) (journal ++ entry.Final ∷ [])
whole scripts input journal are =
    let done_as = follow (rounds scripts input) (map calls_to_make scripts) (user_actions_to_do input) journal
    (record {
      calls = λ s. made_of scripts s ∙ sym (round_calls scripts input s);
      actions =
          sym (round_actions scripts input);
    }) are in
    record {
      calls = λ s inside. done_as.calls s ∙ ap done (round_calls scripts input s ∙ sym (made_of scripts s));
      actions = rw (done_as.actions, round_actions scripts input);
      phases = subst IsNonDecreasing (sym done_as.phases)
          (never_falls 0 _ (rounds_rise (map turns_of (actors scripts input)) 0 (phase_count scripts input)));
      ends = (journal, refl);
    }
