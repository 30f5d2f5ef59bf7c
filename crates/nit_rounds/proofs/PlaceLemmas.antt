-- Actors at places of their scripts: what each has left, and how places go on.
use Rattle.nit_rounds.proofs.Basics.{ActorLine, ByClient, ByUser, InputLine, Line, LinePlace}
use Rattle.nit_rounds.proofs.Basics.{LineTurn, List, Some, StandsAt, [], actors, add-one, add-zero}
use Rattle.nit_rounds.proofs.Basics.{ap, arith, cases_lt, clients_from, cond, count_by, drop}
use Rattle.nit_rounds.proofs.Basics.{drop_all, drop_more, ends_phase, false, flat_map, get_or}
use Rattle.nit_rounds.proofs.Basics.{get_or-map, get_or_default, get_or_from_slice_get, get_or_past}
use Rattle.nit_rounds.proofs.Basics.{greatest, in_phase, inl, inr, is_active, is_input_phase}
use Rattle.nit_rounds.proofs.Basics.{is_phase, left_at, lefts, length, length-append, length-map}
use Rattle.nit_rounds.proofs.Basics.{map, nat_tests, phase_count, phases, range_with_len, refl}
use Rattle.nit_rounds.proofs.Basics.{rounds, script_of, set, stepped, suc, sum_by-cons, sym}
use Rattle.nit_rounds.proofs.Basics.{turns_from, turns_of, zero, zero-add, ℕ}
use Rattle.std.proofs.Common.{slice_get, true, ◌++◌, ◌+◌, ◌<◌, ◌∙◌, ◌∷◌, ◌≡◌, ◌≢◌, ◌≤◌}
use Rattle.nit_rounds.proofs.OneActor.{Below, Silent, get_map, later, only_phases, phases_whole}
use Rattle.nit_rounds.proofs.OneActor.{taken_silent}

-- The scripts of the actors, and what of the rounds is taken of one of them.

-- ---- the script of each actor

-- what holds of each client's script, by its number, of the user's after them, and of none after that, holds of each
-- actor's script
each_script : (P : ℕ → List ActorLine → Type 0) (sid : ℕ) (scripts : List (List Line)) (input : List InputLine)
    → ((k : ℕ) → k < length scripts → P k (map (ByClient (sid + k)) (get_or scripts k [])))
    → P (length scripts) (map ByUser input) → ((k : ℕ) → length scripts < k → P k []) → (k : ℕ)
    → P k (get_or (clients_from sid scripts ++ map ByUser input ∷ []) k [])
each_script P sid [] input client user nobody zero = user
each_script P sid [] input client user nobody (suc k) = nobody (suc k) (omega arith)
each_script P sid (x ∷ scripts) input client user nobody zero = rw (add-zero sid) at (client 0 (omega arith))
each_script P sid (x ∷ scripts) input client user nobody (suc k) =
    each_script (λ j ds. P (suc j) ds) (suc sid) scripts input
    (λ j inside. let same : suc sid + j ≡ sid + suc j = omega arith in rw same (client (suc j) (omega arith))) user
    (λ j past. nobody (suc j) (omega arith)) k

module _ (scripts : List (List Line)) (input : List InputLine) where
  pub script_client : (k : ℕ) → k < length scripts
      → script_of scripts input k ≡ map (ByClient k) (get_or scripts k [])
  script_client = each_script (λ k ds. k < length scripts → ds ≡ map (ByClient k) (get_or scripts k [])) 0 scripts input
      (λ k inside _. rw (zero-add k)) (λ inside. absurd (omega arith)) (λ k past inside. absurd (omega arith))

  pub script_user : (k : ℕ) → length scripts ≤ k → k ≤ length scripts → script_of scripts input k ≡ map ByUser input
  script_user = each_script (λ k ds. length scripts ≤ k → k ≤ length scripts → ds ≡ map ByUser input) 0 scripts input
      (λ k inside low high. absurd (omega arith)) (λ low high. refl) (λ k past low high. absurd (omega arith))

  -- an actor that has a line is a client or the user
  has_script : (k n : ℕ) → n < length (script_of scripts input k) → k ≤ length scripts
  has_script k n = each_script (λ i ds. n < length ds → i ≤ length scripts) 0 scripts input (λ i inside _. omega arith)
      (λ _. omega arith) (λ i past h. absurd (omega arith)) k

-- ---- no move is in a phase that is not one

moves_below : {L : Type 0} (f : L → ActorLine) (count p k : ℕ) (ls : List L)
    → p + count_by (λ l. ends_phase (f l)) ls < count → Below count (turns_from p k (map f ls))
moves_below f count p k [] h = tt
moves_below f count p k (l ∷ ls) h =
    let more = sum_by-cons (λ x. cond (ends_phase (f x)) 1 0) l ls in
    (omega arith, moves_below f count (cond (ends_phase (f l)) (suc p) p) (suc k) ls (grind arith))

phases_at : (k : ℕ) (scripts : List (List Line)) → k < length scripts
    → phases (get_or scripts k []) ≤ greatest (map phases scripts)
phases_at k [] h = absurd (omega arith)
phases_at zero (x ∷ scripts) h = omega arith
phases_at (suc k) (x ∷ scripts) h = let rest = phases_at k scripts (omega arith) in omega arith

-- the phases of one script are among those of the run
pub below : (scripts : List (List Line)) (input : List InputLine) (k : ℕ)
    → Below (phase_count scripts input) (turns_of (get_or (actors scripts input) k []))
below scripts input =
    let count : ℕ = phase_count scripts input in
    each_script (λ _ ds. Below count (turns_of ds)) 0 scripts input
    (λ k inside. let most = phases_at k scripts inside in
    moves_below (ByClient (0 + k)) count 0 0 (get_or scripts k []) (omega arith))
    (moves_below ByUser count 0 0 input (omega arith)) (λ k past. tt)

-- ---- what is taken of one actor alone

project : {B : Type 0} (g : LineTurn → List B) (scripts : List (List Line)) (input : List InputLine) (k : ℕ)
    → ((i : ℕ) → i ≢ k → Silent g (turns_of (script_of scripts input i)))
    → flat_map g (rounds scripts input) ≡ flat_map g (turns_of (script_of scripts input k))
project g scripts input k h =
    let all : List (List ActorLine) = actors scripts input in
    let n : ℕ = phase_count scripts input in
    let only = only_phases g k (map turns_of all) (λ i other. rw (get_map turns_of refl i all) (h i other)) in
    let are = phases_whole (get_or all k []) 0 0 0 n (omega arith) (rw (zero-add n) (below scripts input k)) in
    rw (only (range_with_len 0 n), get_map turns_of refl k all, are)

-- g takes nothing of other clients' lines, and nothing of the user's lines
abbrev pub NotOthers : {B : Type 0} → (LineTurn → List B) → ℕ → Type 0
NotOthers g s = (p n t : ℕ) (l : Line) → (t ≡ s → ⊥) → g (record { phase = p; number = n; doing = ByClient t l }) ≡ []

abbrev pub NotUser : {B : Type 0} → (LineTurn → List B) → Type 0
NotUser g = (p n : ℕ) (l : InputLine) → g (record { phase = p; number = n; doing = ByUser l }) ≡ []

silent_moves : {B L : Type 0} (g : LineTurn → List B) (f : L → ActorLine)
    → ((p n : ℕ) (l : L) → g (record { phase = p; number = n; doing = f l }) ≡ []) → (p n : ℕ) (ls : List L)
    → Silent g (turns_from p n (map f ls))
silent_moves g f none p n [] = tt
silent_moves g f none p n (l ∷ ls) = (none p n l, silent_moves g f none (cond (ends_phase (f l)) (suc p) p) (suc n) ls)

module _ {B : Type 0} (g : LineTurn → List B) (s : ℕ) (made : List Line → List B) (others : NotOthers g s)
    (user : NotUser g) (none : made [] ≡ [])
    (whole : (ls : List Line) → flat_map g (turns_of (map (ByClient s) ls)) ≡ made ls) where
  -- what is taken of a client's moves alone is what its script makes
  pub client_part : (scripts : List (List Line)) (input : List InputLine)
      → flat_map g (rounds scripts input) ≡ made (get_or scripts s [])
  client_part scripts input =
      let by_user = silent_moves g ByUser user 0 0 input in
      project g scripts input s (each_script (λ i ds. i ≢ s → Silent g (turns_of ds)) 0 scripts input
      (λ t inside other. silent_moves g (ByClient (0 + t)) (λ p n l. others p n (0 + t) l (rw (zero-add t) other)) 0 0
      (get_or scripts t [])) (λ _. by_user) (λ t past _. tt))
      ∙ each_script (λ i ds. i ≡ s → flat_map g (turns_of ds) ≡ made (get_or scripts s [])) 0 scripts input
      (λ t inside same. rw (zero-add t, same) (whole (get_or scripts s [])))
      (λ same. rw (taken_silent g (turns_of (map ByUser input)) by_user, get_or_past scripts s [] (omega arith))
      (sym none))
      (λ t past same. rw (get_or_past scripts s [] (omega arith)) (sym none)) s refl

module _ {B : Type 0} (g : LineTurn → List B) (made : List InputLine → List B)
    (clients : (p n t : ℕ) (l : Line) → g (record { phase = p; number = n; doing = ByClient t l }) ≡ [])
    (whole : (ls : List InputLine) → flat_map g (turns_of (map ByUser ls)) ≡ made ls) where
  -- what is taken of the user's moves alone is what the input script makes
  pub user_part : (scripts : List (List Line)) (input : List InputLine) → flat_map g (rounds scripts input) ≡ made input
  user_part scripts input =
      let n : ℕ = length scripts in
      let silent = each_script (λ i ds. i ≢ n → Silent g (turns_of ds)) 0 scripts input
      (λ t inside _. silent_moves g (ByClient (0 + t)) (λ p k l. clients p k (0 + t) l) 0 0 (get_or scripts t []))
      (λ other. absurd (other refl)) (λ t past _. tt) in
      rw (project g scripts input n silent, script_user scripts input n (omega arith) (omega arith), whole input)

-- ---- scripts

clients_long : (sid : ℕ) (scripts : List (List Line)) → length (clients_from sid scripts) ≡ length scripts
clients_long sid [] = refl
clients_long sid (x ∷ scripts) = rw (clients_long (suc sid) scripts)

pub actors_long : (scripts : List (List Line)) (input : List InputLine)
    → length (actors scripts input) ≡ length scripts + 1
actors_long scripts input = rw (length-append (clients_from 0 scripts) (map ByUser input ∷ []), clients_long 0 scripts)

end_in : {L : Type 0} (f : L → ActorLine) (ls : List L) (n : ℕ) (l : L) (d : ActorLine) → n < length ls
    → l ≡ get_or ls n l → slice_get (map f ls) n ≡ Some d → f l ≡ d
end_in f ls n l d inside is e =
    cc (get_or-map f ls n l (f l) inside, get_or_from_slice_get (map f ls) n d (f l) e, is)

module _ (scripts : List (List Line)) (input : List InputLine) (k : ℕ) where
  client_is : (x : List Line) → k < length scripts → x ≡ get_or scripts k x
      → script_of scripts input k ≡ map (ByClient k) x
  client_is x inside is = rw (script_client scripts input k inside, get_or_default scripts k [] x inside, ← is)

  pub client_long : (x : List Line) → k < length scripts → x ≡ get_or scripts k x
      → length x ≡ length (script_of scripts input k)
  client_long x inside is = rw (client_is x inside is, length-map x (ByClient k))

  pub client_inside : (n : ℕ) (x y : List Line) → k < length scripts → x ≡ get_or scripts k x → y ≡ x
      → n < length (script_of scripts input k) → n < length y
  client_inside n x y inside is same h = rw (← (ap length same ∙ client_long x inside is)) at h

  pub client_end : (n : ℕ) (x y : List Line) (l : Line) (d : ActorLine) → k < length scripts → x ≡ get_or scripts k x
      → y ≡ x → n < length (script_of scripts input k) → l ≡ get_or y n l
      → slice_get (script_of scripts input k) n ≡ Some d → is_phase l ≡ ends_phase d
  client_end n x y l d inside is same h at e =
      let here : script_of scripts input k ≡ map (ByClient k) y = rw (client_is x inside is, ← same) in
      cc (end_in (ByClient k) y n l d (client_inside n x y inside is same h) at (rw here at e))

  pub user_long : length scripts ≤ k → k ≤ length scripts → length input ≡ length (script_of scripts input k)
  user_long low high = cc (length-map input ByUser, script_user scripts input k low high)

  user_is : (n : ℕ) → length scripts ≤ k → n < length (script_of scripts input k)
      → script_of scripts input k ≡ map ByUser input
  user_is n low h = script_user scripts input k low (has_script scripts input k n h)

  pub user_inside : (n : ℕ) (y : List InputLine) → length scripts ≤ k → y ≡ input
      → n < length (script_of scripts input k) → n < length y
  user_inside n y low same h = rw (user_is n low h, length-map input ByUser, ← same) at h

  pub user_end : (n : ℕ) (y : List InputLine) (other : InputLine) (d : ActorLine) → length scripts ≤ k → y ≡ input
      → n < length (script_of scripts input k) → slice_get (script_of scripts input k) n ≡ Some d
      → is_input_phase (get_or y n other) ≡ ends_phase d
  user_end n y other d low same h e =
      let here : script_of scripts input k ≡ map ByUser y = rw (user_is n low h, ← same) in
      let inside = user_inside n y low same h in
      cc (end_in ByUser y n (get_or y n other) d inside (get_or_default y n other (get_or y n other) inside)
      (rw here at e))

-- ---- what each actor has left

pub get_lefts : (k : ℕ) (places : List LinePlace) (all : List (List ActorLine)) (d : LinePlace) → k < length places
    → k < length all → get_or (lefts places all) k [] ≡ left_at (get_or places k d) (get_or all k [])
get_lefts zero (p ∷ places) (ds ∷ all) d h hs = refl
get_lefts (suc k) (p ∷ places) (ds ∷ all) d h hs = get_lefts k places all d (omega arith) (omega arith)
get_lefts k places all d h hs = absurd (omega arith)

pub lefts_long : (places : List LinePlace) (all : List (List ActorLine)) → length all ≤ length places
    → length (lefts places all) ≡ length all
lefts_long [] all h = omega arith
lefts_long (p ∷ places) [] h = refl
lefts_long (p ∷ places) (ds ∷ all) h = rw (lefts_long places all (omega arith))

pub set_lefts : (k : ℕ) (place : LinePlace) (places : List LinePlace) (all : List (List ActorLine))
    → set (lefts places all) k (left_at place (get_or all k [])) ≡ lefts (set places k place) all
set_lefts k place [] all = refl
set_lefts zero place (p ∷ places) [] = refl
set_lefts (suc k) place (p ∷ places) [] = refl
set_lefts zero place (p ∷ places) (ds ∷ all) = refl
set_lefts (suc k) place (p ∷ places) (ds ∷ all) = rw (set_lefts k place places all)

-- ---- who has a line to do

pub active_parts : (phase : ℕ) (place : LinePlace) (ds : List ActorLine) → is_active phase place ds ≡ true
    → (place.phase ≡ phase) × (place.line < length ds)
active_parts phase place ds e = (grind (arith, nat_tests), grind (arith, nat_tests))

pub not_in_phase : (phase : ℕ) (place : LinePlace) (ds : List ActorLine) → is_active phase place ds ≡ false
    → place.line < length ds → place.phase ≡ phase → ⊥
not_in_phase phase place ds idle inside same = grind (arith, nat_tests)

pub nothing_more : (place : LinePlace) (ds : List ActorLine) → length ds ≤ place.line → left_at place ds ≡ []
nothing_more place ds past = rw (drop_all place.line ds past)

-- an actor without a line to do has no move in the phase
pub idle : (phase : ℕ) (place : LinePlace) (ds : List ActorLine) → is_active phase place ds ≡ false
    → (place.line < length ds → phase ≤ place.phase) → in_phase phase (left_at place ds) ≡ []
idle phase place ds none reached =
    elim (cases_lt place.line (length ds)) [
      | inl inside ↦
          let other = not_in_phase phase place ds none inside in
          later phase place.phase place.line (drop place.line ds) (omega arith)
      | inr past ↦ rw (nothing_more place ds past)
    ]

-- ---- a step

pub left_first : (place : LinePlace) (ds : List ActorLine) (d : ActorLine) → place.line < length ds →
    left_at place ds ≡ record { phase = place.phase; number = place.line; doing = get_or ds place.line d }
    ∷ left_at (stepped place (ends_phase (get_or ds place.line d))) ds
left_first place ds d inside = rw (drop_more ds place.line d inside, add-one place.phase, add-one place.line)

pub step_stands : (count phase : ℕ) (place : LinePlace) (ds : List ActorLine) (d : ActorLine) → place.line < length ds
    → place.phase ≡ phase → StandsAt count phase place ds
    → StandsAt count phase (stepped place (ends_phase (get_or ds place.line d))) ds
step_stands count phase place ds d inside same stands = grind (arith, nat_tests, left_first)

-- the phase ends for an actor that has no line to do in it
pub phase_stands : (count phase : ℕ) (place : LinePlace) (ds : List ActorLine) → is_active phase place ds ≡ false
    → StandsAt count phase place ds → StandsAt count (phase + 1) place ds
phase_stands count phase place ds none stands = grind (arith, nat_tests, not_in_phase)
