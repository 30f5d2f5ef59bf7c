-- Scripts line by line: what the lines before the next one are, what the next one adds, and stretches of strokes.
use Rattle.nit_hall.proofs.Basics.{Call, Device, FitsDevice, HasStretch, InputLine, IsAmong}
use Rattle.nit_hall.proofs.Basics.{IsDevice, IsNonDecreasing, IsNonDecreasingBy-push, Line, Stroke}
use Rattle.nit_hall.proofs.Basics.{calls_from, calls_in, common_steps, count_by_more_no}
use Rattle.nit_hall.proofs.Basics.{count_by_more_yes, done, filter-append, get_or-append_seam, gets}
use Rattle.nit_hall.proofs.Basics.{input_phases_before, is_input_phase, is_phase, is_served}
use Rattle.nit_hall.proofs.Basics.{lines_to_call, nat_tests, next_phase, phases_before, served}
use Rattle.nit_hall.proofs.Basics.{slice_get-get_or, stage_within, stretch, stretch_end}
use Rattle.nit_hall.proofs.Basics.{strokes_in_front, sum_by-append, sum_by-cons, user_actions_from}
use Rattle.nit_hall.proofs.Basics.{user_actions_in, words_after}
use Rattle.std.proofs.Common.{Bool, IfSome, List, Option, Some, [], ap, append-nil, arith, cond}
use Rattle.std.proofs.Common.{count_by, drop, false, filter, get_or, length, length-append}
use Rattle.std.proofs.Common.{length-take, refl, slice_get, slice_index, suc, take, take-add}
use Rattle.std.proofs.Common.{take-append-drop, true, zero, ℕ, ◌++◌, ◌+◌, ◌-◌, ◌<◌, ◌∷◌, ◌≡◌, ◌≤◌}
use Rattle.nit_events.specs.declared.device.Device.TheVariants as device
use Rattle.nit_script.specs.declared.line.Line.TheVariants as line
use Rattle.nit_script.specs.declared.line.InputLine.TheVariants as inputs

-- ---- one more line

pub take_line : {X : Type 0} (xs : List X) (k : ℕ) (x : X) → slice_get xs k ≡ Some x
    → take (k + 1) xs ≡ take k xs ++ x ∷ []
take_line xs k x at = grind (arith, common_steps, gets)

-- within a list there is an element
pub item_there : {X : Type 0} (xs : List X) (k : ℕ) → k < length xs → (x : X) × (slice_get xs k ≡ Some x)
item_there [] k h = absurd (omega arith)
item_there (x ∷ xs) k h = (get_or (x ∷ xs) k x, slice_get-get_or (x ∷ xs) k x h)

-- those of the first n that pass are the first so many that pass
pub front_filter : {X : Type 0} (p : X → Bool) (n : ℕ) (xs : List X)
    → take (length (filter p (take n xs))) (filter p xs) ≡ filter p (take n xs)
front_filter p n xs = grind (arith, common_steps, take-append-drop n xs, filter-append p (take n xs) (drop n xs))

pub front_short : {X : Type 0} (n : ℕ) (xs ys : List X) → take n xs ≡ ys → length ys ≡ n → n ≤ length xs
front_short n xs ys e long = omega (arith, length-take n xs, ap length e, long)

pub unserved_line : (script : List Line) (k : ℕ) (l : Line) → slice_get script k ≡ Some l → is_served l ≡ false
    → length (served (take (k + 1) script)) ≡ length (served (take k script))
unserved_line script k l at is = rw (take_line script k l at, filter-append, is, append-nil)

pub served_counted : (script : List Line) (k : ℕ) (l : Line) → slice_get script k ≡ Some l → is_served l ≡ true
    → length (served (take (k + 1) script)) ≡ length (served (take k script)) + 1
served_counted script k l at is = rw (take_line script k l at, filter-append, is, length-append)

-- ---- calls

pub calls_append : (xs ys : List Line) → calls_in (xs ++ ys) ≡ calls_in xs ++ calls_in ys
calls_append [] ys = refl
calls_append (line.Call c ∷ xs) ys = rw (calls_append xs ys)
calls_append (other ∷ xs) ys = calls_append xs ys

pub calls_served : (xs : List Line) → calls_in (served xs) ≡ calls_in xs
calls_served [] = refl
calls_served (line.Call c ∷ xs) = rw (calls_served xs)
calls_served (other ∷ xs) = calls_served xs

-- the calls among the served lines before the next line are those among the lines before it
pub calls_front : (script : List Line) (k : ℕ) → calls_in (take (length (served (take k script))) (served script))
    ≡ calls_in (take k script)
calls_front script k = rw (front_filter is_served k script) (calls_served (take k script))

pub calls_line : (script : List Line) (k : ℕ) (l : Line) → slice_get script k ≡ Some l
    → calls_in (take (k + 1) script) ≡ calls_in (take k script) ++ calls_in (l ∷ [])
calls_line script k l at = rw (take_line script k l at) (calls_append (take k script) (l ∷ []))

pub no_more_calls : (script : List Line) (k : ℕ) (l : Line) → slice_get script k ≡ Some l → calls_in (l ∷ []) ≡ []
    → calls_in (take (k + 1) script) ≡ calls_in (take k script)
no_more_calls script k l at none = rw (calls_line script k l at, none) (append-nil (calls_in (take k script)))

-- the line after so many calls is the one that was counted
pub line_counted : (script : List Line) (k : ℕ) (c : Call) → slice_get script k ≡ Some (line.Call c)
    → lines_to_call (length (calls_in (take k script)) + 1) script ≡ k + 1
line_counted [] k c at = absurd cc
line_counted (x ∷ ls) zero c at = let e : x ≡ line.Call c = cc in rw e
line_counted (line.Call d ∷ ls) (suc k) c at = grind (arith, nat_tests, line_counted ls k c at)
line_counted (other ∷ ls) (suc k) c at = grind (arith, nat_tests, line_counted ls k c at)

-- ---- phases

pub count_cons : {X : Type 0} (p : X → Bool) (x : X) (xs : List X)
    → count_by p (x ∷ xs) ≡ cond {A = ℕ} (p x) 1 0 + count_by p xs
count_cons p x xs = sum_by-cons (λ y. cond {A = ℕ} (p y) 1 0) x xs

-- the phase of the next call is the one that the lines before it lead to
pub phase_of_call : (script : List Line) (p k : ℕ) (c : Call) → slice_get script k ≡ Some (line.Call c)
    → next_phase (drop (length (calls_in (take k script))) (calls_from p script)) ≡ p + phases_before script k
phase_of_call [] p k c at = absurd cc
phase_of_call (x ∷ ls) p zero c at = let e : x ≡ line.Call c = cc in rw e (omega arith)
phase_of_call (line.Phase ∷ ls) p (suc k) c at =
    omega (arith, phase_of_call ls (suc p) k c at, count_cons is_phase line.Phase (take k ls))
phase_of_call (other ∷ ls) p (suc k) c at = grind (arith, sum_by-cons, phase_of_call ls p k c at)

pub counted_more : {X : Type 0} (p : X → Bool) (xs : List X) (k : ℕ) (x : X) → slice_get xs k ≡ Some x → p x ≡ true
    → count_by p (take (k + 1) xs) ≡ count_by p (take k xs) + 1
counted_more p xs k x at is = grind (arith, gets, count_by_more_yes p xs k x)

pub counted_same : {X : Type 0} (p : X → Bool) (xs : List X) (k : ℕ) (x : X) → slice_get xs k ≡ Some x → p x ≡ false
    → count_by p (take (k + 1) xs) ≡ count_by p (take k xs)
counted_same p xs k x at is = grind (arith, gets, count_by_more_no p xs k x)

-- ---- the user's lines

pub actions_append : (xs ys : List InputLine) → user_actions_in (xs ++ ys) ≡ user_actions_in xs ++ user_actions_in ys
actions_append [] ys = refl
actions_append (inputs.Device d ∷ xs) ys = rw (actions_append xs ys)
actions_append (inputs.Shot ∷ xs) ys = rw (actions_append xs ys)
actions_append (inputs.Phase ∷ xs) ys = actions_append xs ys

pub actions_line : (script : List InputLine) (k : ℕ) (l : InputLine) → slice_get script k ≡ Some l
    → user_actions_in (take (k + 1) script) ≡ user_actions_in (take k script) ++ user_actions_in (l ∷ [])
actions_line script k l at = rw (take_line script k l at) (actions_append (take k script) (l ∷ []))

pub actions_done : (p : ℕ) (script : List InputLine) → user_actions_in script ≡ done (user_actions_from p script)
actions_done p [] = refl
actions_done p (inputs.Device d ∷ rest) = rw (actions_done p rest)
actions_done p (inputs.Shot ∷ rest) = rw (actions_done p rest)
actions_done p (inputs.Phase ∷ rest) = actions_done (suc p) rest

pub phase_of_action : (script : List InputLine) (p k : ℕ) (l : InputLine) → slice_get script k ≡ Some l
    → is_input_phase l ≡ false
    → next_phase (drop (length (user_actions_in (take k script))) (user_actions_from p script))
    ≡ p + input_phases_before script k
phase_of_action [] p k l at action = absurd cc
phase_of_action (inputs.Phase ∷ ls) p zero l at action = grind arith
phase_of_action (inputs.Phase ∷ ls) p (suc k) l at action =
    omega (arith, phase_of_action ls (suc p) k l at action, count_cons is_input_phase inputs.Phase (take k ls))
phase_of_action (other ∷ ls) p zero l at action = omega arith
phase_of_action (other ∷ ls) p (suc k) l at action = grind (arith, sum_by-cons, phase_of_action ls p k l at action)

pub device_fits : (dev : Device) → FitsDevice dev → IsDevice dev
device_fits (device.Motion x y) h = tt
device_fits other h = h

-- ---- numbers that never fall

-- without the last one they do not either
pub without_last : (xs : List ℕ) (p : ℕ) → IsNonDecreasing (xs ++ p ∷ []) → IsNonDecreasing xs
without_last xs p old i j d le inside = let a = old i j d le in grind (arith, common_steps, a)

-- each one before the last is at most the last
pub each_below : (xs : List ℕ) (p : ℕ) → IsNonDecreasing (xs ++ p ∷ []) → (i d : ℕ) → i < length xs
    → get_or xs i d ≤ p
each_below xs p old i d inside = let a = old i (length xs) d in grind (arith, common_steps, a)

-- the last one may rise
pub rises : (xs : List ℕ) (p q : ℕ) → p ≤ q → IsNonDecreasing (xs ++ p ∷ []) → IsNonDecreasing (xs ++ q ∷ [])
rises xs p q up old i j d le inside =
    let a = old i j d le in let b = old i (length xs) d in grind (arith, common_steps, a, b)

-- and may stand again after itself
pub again : (xs : List ℕ) (p : ℕ) → IsNonDecreasing (xs ++ p ∷ []) → IsNonDecreasing ((xs ++ p ∷ []) ++ p ∷ [])
again xs p old = IsNonDecreasingBy-push (λ (x : ℕ). x) (xs ++ p ∷ []) p old
    (λ d some. let last : length (xs ++ p ∷ []) - 1 ≡ length xs = omega (arith, length-append xs (p ∷ [])) in
    rw last (omega (arith, get_or-append_seam xs p [] d)))

-- ---- stretches of a script: strokes between two lines that the room serves

-- the strokes that lines begin with are no calls, and end no phase
strokes_silent : (ls : List Line) (j : ℕ) → j ≤ strokes_in_front ls
    → (calls_in (take j ls) ≡ []) × (count_by is_phase (take j ls) ≡ 0)
strokes_silent ls zero few = (refl, refl)
strokes_silent [] (suc j) few = absurd (omega arith)
strokes_silent (line.Stroke s ∷ ls) (suc j) few =
    grind (arith, nat_tests, strokes_silent ls j (omega arith), count_cons)
strokes_silent (other ∷ ls) (suc j) few = absurd (omega arith)

-- the lines of a stretch add no call, and end no phase
pub stretch_same : (script : List Line) (k n : ℕ) → k ≤ n → n ≤ stretch_end script k
    → (calls_in (take n script) ≡ calls_in (take k script)) × (phases_before script n ≡ phases_before script k)
stretch_same script k n from to =
    let here : k + (n - k) ≡ n = omega (arith, from) in
    let silent = strokes_silent (drop k script) (n - k) (omega (arith, from, to)) in
    let count = sum_by-append (λ l. cond {A = ℕ} (is_phase l) 1 0) (take k script) (take (n - k) (drop k script)) in
    rw (rw here at (take-add k (n - k) script))
    (rw (calls_append, silent.0, append-nil), omega (arith, silent.1, count))

-- after a stroke it ends where it did before
ends_behind : (script : List Line) (k : ℕ) (s : Stroke) → slice_get script k ≡ Some (line.Stroke s)
    → stretch_end script k ≡ stretch_end script (k + 1)
ends_behind script k s at =
    let cut : drop k script ≡ line.Stroke s ∷ drop (k + 1) script = grind (arith, common_steps, gets) in
    rw cut (omega arith)

-- the first stretch from a line on
pub stretch_begun : (script : List Line) (donation next : ℕ)
    → HasStretch script donation next (Some (stretch script donation next))
stretch_begun script donation next = grind (arith, nat_tests)

module _ {script : List Line} {donation next : ℕ} {stages : Option (List (List ℕ))} {s : Stroke}
    (at : slice_get script next ≡ Some (line.Stroke s)) (has : HasStretch script donation next stages) where
  -- when a stroke is made
  pub stretch_on : HasStretch script donation (next + 1) stages
  stretch_on = grind (arith, nat_tests, ends_behind)

  -- what a stroke leaves is of the stages
  pub stroke_staged : IfSome stages (λ known. (i : ℕ)
      → IsAmong known i (slice_index (words_after script donation (next + 1)) i))
  stroke_staged = grind (arith, nat_tests, stage_within, ends_behind)
