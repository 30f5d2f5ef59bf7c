-- Draws that are made in turn; drawn lines fit the grammar of scripts; how many there are of a kind.
use Rattle.std.proofs.Common.{Bool, List, [], ap, append_assoc, arith, count_by, length, map, refl}
use Rattle.std.proofs.Common.{rules, slice_index_or, suc, sym, zero, ℕ, ◌%◌, ◌++◌, ◌+◌, ◌-◌, ◌<◌}
use Rattle.std.proofs.Common.{◌∷◌, ◌≡◌, ◌≤◌}
use Rattle.nit_report.proofs.Basics.{AllByRecursion, AllZip, AppendsDraws, Draw, Draws}
use Rattle.nit_report.proofs.Basics.{FitsInputLine, FitsInt, FitsLine, InputLine, Line, ReadsClient}
use Rattle.nit_report.proofs.Basics.{all_append, append-nil, buffer_lines, busy_lines, click}
use Rattle.nit_report.proofs.Basics.{clicks, client_text, draws_in_turn, first_phase, flat_map}
use Rattle.nit_report.proofs.Basics.{flat_map-append, input_phases, is_call, is_device}
use Rattle.nit_report.proofs.Basics.{is_input_phase, is_phase, is_shot_line, just, kinds, map-id}
use Rattle.nit_report.proofs.Basics.{map-range_with_len_more, nat_tests, phase_end, phases, places}
use Rattle.nit_report.proofs.Basics.{range_with_len, second_phase, seed, shifted, sum_by-cons}
use Rattle.nit_report.proofs.Basics.{titled, titles, user_phase_end, user_phases, views, xray_shot}
use Rattle.nit_report.proofs.Basics.{◌>>=◌}
use Rattle.nit_report.specs.Generator.{client_script, user_script, from_outside, placed}
use Rattle.nit_report.specs.Generator.{some_colour, some_part}
use Rattle.nit_report.specs.Draw.{for_each}
use Rattle.nit_events.specs.declared.call.Call.TheVariants as call
use Rattle.nit_script.specs.declared.line.Line.TheVariants as line
use Rattle.nit_script.specs.declared.line.InputLine.TheVariants as input
use Rattle.nit_report.proofs.GeneratedClients.{is_title}

-- ---- draws that are made in turn

-- draws in two parts
in_turn : {A : Type 0} (ds es : List (Draw A)) (s : ℕ)
    → draws_in_turn (ds ++ es) s ≡ (draws_in_turn ds >>= λ xs. draws_in_turn es >>= λ ys. just (xs ++ ys)) s
in_turn [] es s = refl
in_turn (d ∷ ds) es s = rw (in_turn ds es (d s).1) refl

-- some, and then more
pub appends_then : {A : Type 0} {ds es : List (Draw A)} {s t u : ℕ} {xs ys zs : List A} → AppendsDraws ds s xs t ys
    → AppendsDraws es t ys u zs → AppendsDraws (ds ++ es) s xs u zs
appends_then {ds = ds} {es} {s} p q = record {
  values = rw (q.values, p.values, p.stream, in_turn ds es s, append_assoc) refl;
  stream = rw (q.stream, p.stream, in_turn ds es s) refl;
}

-- one more
pub appends_one : {A : Type 0} (d : Draw A) {s t : ℕ} {x : A} {xs ys : List A} → Draws d s x t → ys ≡ xs ++ x ∷ []
    → AppendsDraws (d ∷ []) s xs t ys
appends_one d p e = record { values = rw (← p.0) e; stream = p.1 }

-- ---- for each number

-- the list of what each number gives, with one more number
pub flat_map_next : {A : Type 0} (f : ℕ → List A) (first count j : ℕ) → first + count ≡ j
    → flat_map f (range_with_len first (count + 1)) ≡ flat_map f (range_with_len first count) ++ f j
flat_map_next f first count j e =
    let more = simp map-id at (map-range_with_len_more (λ (k : ℕ). k) first count j e) in
    rw more (simp (flat_map-append, append-nil))

-- what a loop has drawn before its first number, and after one more
pub each_none : {A : Type 0} (first : ℕ) (f : ℕ → List (Draw A)) (s : ℕ) (xs : List A)
    → AppendsDraws (for_each first 0 f) s xs s xs
unfolding for_each
each_none first f s xs = record { values = sym (append-nil xs); stream = refl }

pub each_more : {A : Type 0} (first count next j : ℕ) (f : ℕ → List (Draw A)) {s t u : ℕ} {xs ys zs : List A}
    → AppendsDraws (for_each first count f) s xs t ys → AppendsDraws (f j) t ys u zs → first + count ≡ j
    → count + 1 ≡ next → AppendsDraws (for_each first next f) s xs u zs
unfolding for_each
each_more first count next j f p q e n = rw (← n, flat_map_next f first count j e) (appends_then p q)

-- at the loop's end
pub each_done : {A : Type 0} (first count all : ℕ) (f : ℕ → List (Draw A)) {s t : ℕ} {xs ys : List A}
    → AppendsDraws (for_each first count f) s xs t ys → count ≡ all → AppendsDraws (for_each first all f) s xs t ys
each_done first count all f p n = rw (← n) p

-- ---- drawn lines are within the grammar of scripts

-- ---- what each draw has

pub for_each_all : {A : Type 0} (P : Draw A → Type 0) (first count : ℕ) (f : ℕ → List (Draw A))
    → ((j : ℕ) → j < first + count → AllByRecursion P (f j)) → AllByRecursion P (for_each first count f)
unfolding for_each
for_each_all P first zero f each = tt
for_each_all P first (suc count) f each =
    all_append P (f first) (flat_map f (range_with_len (first + 1) count)) (each first (omega arith))
    (for_each_all P (first + 1) count f (λ j lt. each j (omega arith)))

one_of : {A : Type 0} (P : A → Type 0) (xs : List A) (d : A) → AllByRecursion P xs → P d → (k : ℕ)
    → P (slice_index_or xs k d)
one_of P [] d all other k = other
one_of P (x ∷ xs) d all other zero = all.0
one_of P (x ∷ xs) d all other (suc k) = one_of P xs d all.1 other k

-- a client's script
client_draws : (P : Draw Line → Type 0) → ((v : ℕ) → v ≤ 16 → P (placed v)) → ((v : ℕ) → v ≤ 16 → P (just (titled v)))
    → AllByRecursion P (just line.Phase ∷ just (line.Call call.View) ∷ buffer_lines ++ kinds)
    → AllByRecursion P (first_phase ++ second_phase)
client_draws P place title (phase, (view, (buffer, (back, each)))) =
    all_append P first_phase second_phase
    (all_append P (buffer_lines ++ views ++ places ++ titles) phase_end
    (all_append P (buffer_lines ++ views ++ places) titles
    (all_append P (buffer_lines ++ views) places
    (all_append P buffer_lines views (buffer, (back, tt)) (for_each_all P 1 16 _ (λ v lt. (view, tt))))
    (for_each_all P 1 16 _ (λ v lt. (place v (omega arith), tt))))
    (for_each_all P 1 16 _ (λ v lt. (title v (omega arith), tt)))) (phase, tt))
    (all_append P busy_lines phase_end
    (for_each_all P 0 1944 _ (λ j lt. (one_of P kinds _ each each.1.1.1.1.1.1.0 (j % 8), tt))) (phase, tt))

-- the user's script
pub user_draws : (P : Draw InputLine → Type 0) → P (just input.Phase) → AllByRecursion P click
    → AllByRecursion P xray_shot → AllByRecursion P user_phases
user_draws P phase each shot =
    all_append P (user_phase_end ++ clicks ++ user_phase_end) xray_shot
    (all_append P (user_phase_end ++ clicks) user_phase_end
    (all_append P user_phase_end clicks (phase, tt) (for_each_all P 0 50 _ (λ i lt. each))) (phase, tt)) shot

-- ---- draws of which all values have a property

abbrev Always : {A : Type 0} → (A → Type 0) → Draw A → Type 0
Always P d = (s : ℕ) → P (d s).0

in_turn_all : {A : Type 0} (P : A → Type 0) (ds : List (Draw A)) → AllByRecursion (Always P) ds → (s : ℕ)
    → AllByRecursion P (draws_in_turn ds s).0
in_turn_all P [] all s = tt
in_turn_all P (d ∷ ds) all s = (all.0 s, in_turn_all P ds all.1 (d s).1)

-- ---- values

outside : (m s : ℕ) → 0 < m → m ≤ 1000 → FitsInt (from_outside m s).0
unfolding from_outside
outside m s some few = grind (arith, nat_tests)

-- ---- lines of a client

placed_fits : (v : ℕ) → v ≤ 16 → Always FitsLine (placed v)
unfolding placed
placed_fits v few s =
    let corner = outside 340 s (omega arith) (omega arith) in
    (omega arith, corner, outside 260 _ (omega arith) (omega arith), omega arith, omega arith)

shifted_fits : (v : ℕ) → v ≤ 16 → Always FitsLine (shifted v)
shifted_fits v few s = (omega arith, outside 41 s (omega arith) (omega arith), outside 41 _ (omega arith) (omega arith))

pub client_fits : (n c : ℕ) → AllByRecursion FitsLine (client_script n c)
unfolding client_script some_part some_colour
client_fits n c =
    in_turn_all FitsLine (first_phase ++ second_phase)
    (client_draws (Always FitsLine) placed_fits (λ v few s. (omega arith, (is_title v (omega arith)).1))
    (search (rules, placed_fits, shifted_fits))) (seed n c)

-- ---- lines of the user

pub user_fits : (n : ℕ) → AllByRecursion FitsInputLine (user_script n)
unfolding user_script
user_fits n =
    in_turn_all FitsInputLine user_phases
    (user_draws (Always FitsInputLine) (λ s. tt) (search rules) (search rules)) (seed n 8)

-- ---- the texts of a generated run spell its scripts

pub clients_read : (n first count : ℕ)
    → AllZip ReadsClient (map (client_text n) (range_with_len first count))
    (map (client_script n) (range_with_len first count))
clients_read n first zero = tt
clients_read n first (suc count) = ((client_fits n first, refl), clients_read n (first + 1) count)

-- ---- how many drawn lines there are of a kind

all_drawn : {A : Type 0} (ds : List (Draw A)) (s : ℕ) → length (draws_in_turn ds s).0 ≡ length ds
all_drawn [] s = refl
all_drawn (d ∷ ds) s = ap suc (all_drawn ds (d s).1)

-- of the values of a draw, all pass a test or none does, wherever the stream stands
abbrev Steady : {A : Type 0} → (A → Bool) → Draw A → Type 0
Steady p d = (s : ℕ) → p (d s).0 ≡ p (d 0).0

-- So many values pass a test as there are draws of which the values pass it.
counted : {A : Type 0} (p : A → Bool) (ds : List (Draw A)) → AllByRecursion (Steady p) ds → (s : ℕ)
    → count_by p (draws_in_turn ds s).0 ≡ count_by (λ d. p (d 0).0) ds
counted p [] all s = refl
counted p (d ∷ ds) all s = rw (sum_by-cons, sum_by-cons, all.0 s, counted p ds all.1 (d s).1) refl

-- ---- a client's script

pub client_lines : (n c : ℕ) → length (client_script n c) ≡ 1996
unfolding client_script for_each
client_lines n c = all_drawn (first_phase ++ second_phase) (seed n c)

pub client_calls : (n c : ℕ) → count_by is_call (client_script n c) ≡ 1507
unfolding client_script for_each placed
client_calls n c =
    counted is_call (first_phase ++ second_phase)
    (client_draws (Steady is_call) (λ v few s. refl) (λ v few s. refl) (assumption)) (seed n c)

pub client_phases : (n c : ℕ) → phases (client_script n c) ≡ 3
unfolding client_script for_each placed
client_phases n c =
    ap (λ (k : ℕ). k + 1)
    (counted is_phase (first_phase ++ second_phase)
    (client_draws (Steady is_phase) (λ v few s. refl) (λ v few s. refl) (assumption)) (seed n c))

-- ---- the user's script

pub user_lines : (n : ℕ) → length (user_script n) ≡ 205
unfolding user_script for_each
user_lines n = all_drawn user_phases (seed n 8)

pub user_devices : (n : ℕ) → count_by is_device (user_script n) ≡ 202
unfolding user_script for_each
user_devices n =
    counted is_device user_phases (user_draws (Steady is_device) (λ s. refl) (assumption) (assumption)) (seed n 8)

pub user_shots : (n : ℕ) → count_by is_shot_line (user_script n) ≡ 1
unfolding user_script for_each
user_shots n =
    counted is_shot_line user_phases (user_draws (Steady is_shot_line) (λ s. refl) (assumption) (assumption)) (seed n 8)

pub user_phase_count : (n : ℕ) → input_phases (user_script n) ≡ 3
unfolding user_script for_each
user_phase_count n =
    ap (λ (k : ℕ). k + 1)
    (counted is_input_phase user_phases (user_draws (Steady is_input_phase) (λ s. refl) (assumption) (assumption))
    (seed n 8))
