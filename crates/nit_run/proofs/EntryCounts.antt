-- How many entries a whole journal has, and how many a generated run has.
use Rattle.std.proofs.Common.{◌≡◌, ◌∙◌, ℕ, zero, suc, ◌+◌, ◌*◌, ◌<◌, List, [], ◌∷◌, ◌++◌, length}
use Rattle.std.proofs.Common.{sym, map, refl, ap, arith, cond, nat_lt, zero-add}
use Rattle.nit_run.proofs.Basics.{Call, Does, Entry, Global, InputLine, IsJournal, IsOpen}
use Rattle.nit_run.proofs.Basics.{LegalFrom, Line, Reply, Shoots, State, UserAction, Vec, after}
use Rattle.nit_run.proofs.Basics.{as_many, as_many_as_clients, calls_from, calls_of, calls_to_make}
use Rattle.nit_run.proofs.Basics.{client_script, client_text, count_by, done, filter, first_state}
use Rattle.nit_run.proofs.Basics.{front_open, generated_setup, get_or-map}
use Rattle.nit_run.proofs.Basics.{get_or-map-range_with_len, is_call, is_device, is_shot_line}
use Rattle.nit_run.proofs.Basics.{length-filter, length-map, nat_tests, range_with_len, shots}
use Rattle.nit_run.proofs.Basics.{slice_index_or, to_do, user_actions_from, user_actions_of}
use Rattle.nit_run.proofs.Basics.{user_script}
use Rattle.nit_report.specs.Generator.{generated_configuration}
use Rattle.nit_events.specs.declared.entry.Entry.TheVariants as entry
use Rattle.nit_script.specs.declared.line.Line.TheVariants as line
use Rattle.nit_script.specs.declared.line.InputLine.TheVariants as input

-- ---- the calls of all sessions

-- how many calls the first so many sessions have
abbrev all_calls : ℕ → List Entry → ℕ
all_calls zero es = 0
all_calls (suc n) es = all_calls n es + length (calls_of n es)

same_all : (n : ℕ) (xs ys : List Entry) → ((t : ℕ) → length (calls_of t xs) ≡ length (calls_of t ys))
    → all_calls n xs ≡ all_calls n ys
same_all zero xs ys same = refl
same_all (suc n) xs ys same = omega (arith, same_all n xs ys same, same n)

-- a call is one more, where its session is one of them
call_counts : (n sid : ℕ) (c : Call) (r : Reply) (es : List Entry)
    → all_calls n (entry.Call sid c r ∷ es) ≡ all_calls n es + cond (nat_lt sid n) 1 0
call_counts zero sid c r es = grind (arith, nat_tests)
call_counts (suc n) sid c r es = grind (arith, nat_tests, call_counts n sid c r es)

no_calls : (n : ℕ) → all_calls n [] ≡ 0
no_calls zero = refl
no_calls (suc n) = omega (arith, no_calls n)

-- ---- all entries

abbrev finals : List Entry → ℕ
finals [] = 0
finals (entry.Final ∷ es) = suc (finals es)
finals (other ∷ es) = finals es

-- each entry is a call, an action or the last picture
counted : (n : ℕ) (s : State) (taken : ℕ) (es : List Entry) → length s.sessions ≡ n → LegalFrom s taken es
    → length es ≡ all_calls n es + length (user_actions_of es) + finals es
counted n s taken [] e l = omega (arith, no_calls n)
counted n s taken (entry.Call sid c r ∷ rest) e l =
    let more = counted n (after s (entry.Call sid c r)) taken rest (as_many s (entry.Call sid c r) ∙ e) l.1 in
    grind (arith, nat_tests, l.0.0, e, call_counts n sid c r rest, more)
counted n s taken (entry.Input dev routed ∷ rest) e l =
    let more = counted n (after s (entry.Input dev routed)) taken rest (as_many s (entry.Input dev routed) ∙ e) l.1 in
    omega (arith, same_all n (entry.Input dev routed ∷ rest) rest (λ t. refl), more)
counted n s taken (entry.Shot number ∷ rest) e l =
    omega (arith, same_all n (entry.Shot number ∷ rest) rest (λ t. refl), counted n s (taken + 1) rest e l.1)
counted n s taken (entry.Final ∷ rest) e l =
    rw l (omega (arith, same_all n (entry.Final ∷ []) [] (λ t. refl), no_calls n))

open_finals : (es : List Entry) → IsOpen es → finals (es ++ entry.Final ∷ []) ≡ 1
open_finals [] o = refl
open_finals (entry.Final ∷ es) o = absurd o
open_finals (other ∷ es) o = open_finals es o

-- where each of so many sessions makes as many calls
as_many_calls : (n : ℕ) (es : List Entry) → ((t : ℕ) → t < n → length (calls_of t es) ≡ 1507)
    → all_calls n es ≡ n * 1507
as_many_calls zero es each = omega arith
as_many_calls (suc n) es each =
    omega (arith, as_many_calls n es (λ t lt. each t (omega arith)), each n (omega arith))

-- ---- the lines of scripts

pub calls_counted : (phase : ℕ) (lines : List Line) → length (calls_from phase lines) ≡ length (filter is_call lines)
calls_counted phase [] = refl
calls_counted phase (line.Call c ∷ lines) = ap suc (calls_counted phase lines)
calls_counted phase (line.Stroke s ∷ lines) = calls_counted phase lines
calls_counted phase (line.Phase ∷ lines) = calls_counted (suc phase) lines

actions_counted : (phase : ℕ) (lines : List InputLine) → length (user_actions_from phase lines)
    ≡ length (filter is_device lines) + length (filter is_shot_line lines)
actions_counted phase [] = refl
actions_counted phase (input.Phase ∷ lines) = actions_counted (suc phase) lines
actions_counted phase (other ∷ lines) = omega (arith, actions_counted phase lines)

abbrev shoots : List UserAction → ℕ
shoots [] = 0
shoots (Does d ∷ ds) = shoots ds
shoots (Shoots ∷ ds) = suc (shoots ds)

shots_are : (es : List Entry) → shots es ≡ shoots (user_actions_of es)
shots_are [] = refl
shots_are (entry.Shot number ∷ es) = ap suc (shots_are es)
shots_are (other ∷ es) = shots_are es

shots_counted : (phase : ℕ) (lines : List InputLine) → shoots (done (user_actions_from phase lines))
    ≡ length (filter is_shot_line lines)
shots_counted phase [] = refl
shots_counted phase (input.Device d ∷ lines) = shots_counted phase lines
shots_counted phase (input.Shot ∷ lines) = ap suc (shots_counted phase lines)
shots_counted phase (input.Phase ∷ lines) = shots_counted (suc phase) lines

-- ---- a generated run

abbrev pub CallsLaw : Type 0
CallsLaw = (n c : ℕ) → count_by is_call (client_script n c) ≡ 1507

abbrev pub DevicesLaw : Type 0
DevicesLaw = (n : ℕ) → count_by is_device (user_script n) ≡ 202

abbrev pub ShotsLaw : Type 0
ShotsLaw = (n : ℕ) → count_by is_shot_line (user_script n) ≡ 1

made_by_client : CallsLaw → (n c : ℕ) → length (done (calls_to_make (client_script n c))) ≡ 1507
made_by_client law n c =
    rw (length-map, calls_counted, length-filter) (law n c)

-- what each of the eight clients is to do
to_do_of : (n t : ℕ) → t < 8 → to_do (map calls_to_make (map (client_script n) (range_with_len 0 8))) t
    ≡ calls_to_make (client_script n t)
to_do_of n t lt = grind (arith, nat_tests, get_or-map, get_or-map-range_with_len)

pub generated_entries : CallsLaw → DevicesLaw → ShotsLaw → (n : ℕ) (journal : List Entry)
    → IsJournal (generated_setup n) journal → (length journal ≡ 12260) × (shots journal ≡ 1)
unfolding generated_configuration
generated_entries calls devices pictures n journal j =
    let config = generated_configuration in
    let all = counted 8 (first_state config) 0 journal (as_many_as_clients config []) j.legal in
    let each : (t : ℕ) → t < 8 → length (calls_of t journal) ≡ 1507 =
    λ t lt. ap length (j.whole.calls t lt ∙ ap done (to_do_of n t lt)) ∙ made_by_client calls n t in
    let made = as_many_calls 8 journal each in
    let shot_lines = length-filter is_shot_line (user_script n) ∙ pictures n in
    let actions : length (user_actions_of journal) ≡ 203 =
    rw (j.whole.actions, length-map, actions_counted, length-filter, length-filter, devices n, pictures n) refl in
    let (front, is) = j.whole.ends in
    let last : finals journal ≡ 1 =
    ap finals is ∙ open_finals front (front_open (first_state config) 0 front entry.Final [] (rw is at j.legal)) in (
      omega (arith, all, made, actions, last),
      shots_are journal ∙ ap shoots j.whole.actions ∙ shots_counted 0 (user_script n) ∙ shot_lines,
    )

-- the text of a client among all texts
pub text_at : (texts : List (Vec ℕ Global)) (n c : ℕ) (v : Vec ℕ Global) → map (λ (t : Vec ℕ Global). t.items) texts
    ≡ map (client_text n) (range_with_len 0 8) → c < 8 → v ≡ slice_index_or texts c v → v.items ≡ client_text n c
text_at texts n c v are inside is =
    let long = rw (length-map texts) at (ap length are) in
    ap (λ (t : Vec ℕ Global). t.items) is
    ∙ sym (get_or-map (λ (t : Vec ℕ Global). t.items) texts c v [] (omega (arith, long, inside)))
    ∙ rw are (get_or-map-range_with_len (client_text n) 0 8 c c [] inside (zero-add c))
