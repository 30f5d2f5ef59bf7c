-- Rounds one after the other: each takes the first move of each actor. What of them is one actor's: its moves in order,
-- each once.
use Rattle.nit_rounds.proofs.Basics.{ActorLine, AllByRecursion, LineTurn, List, [], add-one}
use Rattle.nit_rounds.proofs.Basics.{all_rounds, ap, append-nil, append_assoc, arith, cases_eq}
use Rattle.nit_rounds.proofs.Basics.{cond, cond_both, drop, drop-drop, drop-set-lt, drop_all}
use Rattle.nit_rounds.proofs.Basics.{drop_more, ends_phase, eq-eqb, flat_map, flat_map-append}
use Rattle.nit_rounds.proofs.Basics.{flat_map-map, get_or, get_or_past, greatest, in_phase, inl}
use Rattle.nit_rounds.proofs.Basics.{inr, length, length-drop, length-map, map, map-set, nat_tests}
use Rattle.nit_rounds.proofs.Basics.{ne_eqb, nil_from_length, phase_rounds, range_with_len, refl}
use Rattle.nit_rounds.proofs.Basics.{rest_of_phase, round, set, set-get_or, subst, suc, sym, take}
use Rattle.nit_rounds.proofs.Basics.{take_more, take_more_set, turns_from, zero, ℕ, ◌∙◌}
use Rattle.std.proofs.Common.{map-id, take-append-drop, take_all, ◌++◌, ◌+◌, ◌-◌, ◌<◌, ◌∷◌, ◌≡◌}
use Rattle.std.proofs.Common.{◌≢◌, ◌≤◌}
use Rattle.nit_rounds.specs.Places.{left_from}

-- lists of at most n moves
abbrev pub Short : ℕ → List (List LineTurn) → Type 0
Short n all = (k : ℕ) → length (get_or all k []) ≤ n

-- so many rounds
abbrev pub walk : ℕ → List (List LineTurn) → List LineTurn
walk zero all = []
walk (suc n) all = flat_map (take 1) all ++ walk n (map (drop 1) all)

pub get_map : {X Y : Type 0} (f : List X → List Y) → f [] ≡ [] → (k : ℕ) (all : List (List X))
    → get_or (map f all) k [] ≡ f (get_or all k [])
get_map f none k [] = sym none
get_map f none zero (l ∷ all) = refl
get_map f none (suc k) (l ∷ all) = get_map f none k all

-- ---- lengths

pub short_greatest : (all : List (List LineTurn)) → Short (greatest (map length all)) all
short_greatest [] k = omega arith
short_greatest (l ∷ all) zero = omega arith
short_greatest (l ∷ all) (suc k) = let rest = short_greatest all k in omega arith

pub short_drop : (n : ℕ) (all : List (List LineTurn)) → Short (suc n) all → Short n (map (drop 1) all)
short_drop n all h k = grind (arith, nat_tests, get_map, length-drop)

-- ---- walks

firsts_none : (all : List (List LineTurn)) → Short 0 all → flat_map (take 1) all ≡ []
firsts_none [] h = refl
firsts_none ([] ∷ all) h = firsts_none all (λ k. h (suc k))
firsts_none ((m ∷ l) ∷ all) h = absurd (let here = h 0 in omega arith)

walk_none : (n : ℕ) (all : List (List LineTurn)) → Short 0 all → walk n all ≡ []
walk_none zero all h = refl
walk_none (suc n) all h = rw (firsts_none all h)
    (walk_none n (map (drop 1) all) (short_drop 0 all (λ k. let here = h k in omega arith)))

-- more rounds than the longest list has moves add nothing
walk_short : (n m : ℕ) (all : List (List LineTurn)) → Short n all → Short m all → walk n all ≡ walk m all
walk_short zero m all h k = sym (walk_none m all h)
walk_short (suc n) zero all h k = walk_none (suc n) all k
walk_short (suc n) (suc m) all h k =
    rw (walk_short n m (map (drop 1) all) (short_drop n all h) (short_drop m all k))

map_drops : (a : ℕ) (all : List (List LineTurn)) → map (drop 1) (map (drop a) all) ≡ map (drop (a + 1)) all
map_drops a [] = refl
map_drops a (l ∷ all) = rw (drop-drop 1 a l, map_drops a all)

rounds_from : (all : List (List LineTurn)) (a n : ℕ) → flat_map (round all) (range_with_len a n)
    ≡ walk n (map (drop a) all)
rounds_from all a zero = refl
rounds_from all a (suc n) = grind (arith, nat_tests, rounds_from all (a + 1) n, flat_map-map, map_drops)

pub all_walk : (n : ℕ) (all : List (List LineTurn)) → Short n all → all_rounds all ≡ walk n all
all_walk n all h =
    rw (rounds_from all 0 (greatest (map length all)), map-id all) (walk_short _ n all (short_greatest all) h)

-- the rounds are the first one, and those of what is left then
pub at_begin : (all : List (List LineTurn)) → rest_of_phase 0 all ≡ all_rounds all
at_begin all =
    let n : ℕ = greatest (map length all) in
    let more : Short (suc n) all = λ k. let here = short_greatest all k in omega arith in
    rw (all_walk (suc n) all more, all_walk n (map (drop 1) all) (short_drop n all more))

module _ {B : Type 0} (g : LineTurn → List B) where
  -- ---- lists of which nothing is taken

  -- g takes nothing of the moves
  abbrev pub Silent : List LineTurn → Type 0
  Silent moves = AllByRecursion (λ m. g m ≡ []) moves

  pub taken_silent : (moves : List LineTurn) → Silent moves → flat_map g moves ≡ []
  taken_silent [] h = refl
  taken_silent (m ∷ moves) h = rw (h.0, taken_silent moves h.1) refl

  -- a function that keeps silent what was
  abbrev Quiet : (List LineTurn → List LineTurn) → Type 0
  Quiet f = (moves : List LineTurn) → Silent moves → Silent (f moves)

  quiet_phase : (p : ℕ) → Quiet (in_phase p)
  quiet_phase p [] h = tt
  quiet_phase p (m ∷ moves) h = grind (arith, nat_tests, quiet_phase p moves h.1, cond_both)

  quiet_drop : Quiet (drop 1)
  quiet_drop [] h = tt
  quiet_drop (m ∷ moves) h = h.1

  -- ---- one actor of whom something is taken

  -- g takes nothing of any list but the one at place k
  abbrev pub OnlyAt : ℕ → List (List LineTurn) → Type 0
  OnlyAt k all = (i : ℕ) → i ≢ k → Silent (get_or all i [])

  only_map : (f : List LineTurn → List LineTurn) → f [] ≡ [] → Quiet f → (k : ℕ) (all : List (List LineTurn))
      → OnlyAt k all → OnlyAt k (map f all)
  only_map f none quiet k all h i other = rw (get_map f none i all) (quiet (get_or all i []) (h i other))

  -- what is taken of the first moves of all
  only_firsts : (k : ℕ) (all : List (List LineTurn)) → OnlyAt k all
      → flat_map g (flat_map (take 1) all) ≡ flat_map g (take 1 (get_or all k []))
  only_firsts k [] h = refl
  only_firsts zero (l ∷ all) h =
      let others = only_firsts (length all) all (λ i _. h (suc i) (λ e. omega arith)) in
      rw (flat_map-append g (take 1 l) (flat_map (take 1) all), others, get_or_past all (length all) [] (omega arith))
      (append-nil (flat_map g (take 1 l)))
  only_firsts (suc k) ([] ∷ all) h = only_firsts k all (λ i other. h (suc i) (λ e. other (omega arith)))
  only_firsts (suc k) ((m ∷ l) ∷ all) h =
      rw ((h 0 (λ e. omega arith)).0) (only_firsts k all (λ i other. h (suc i) (λ e. other (omega arith))))

  only_walk : (n k : ℕ) (all : List (List LineTurn)) → OnlyAt k all → length (get_or all k []) ≤ n
      → flat_map g (walk n all) ≡ flat_map g (get_or all k [])
  only_walk zero k all h short = sym (rw (nil_from_length (get_or all k []) (omega arith)))
  only_walk (suc n) k all h short =
      let own : List LineTurn = get_or all k [] in
      let rest : List (List LineTurn) = map (drop 1) all in
      let rest_is : get_or rest k [] ≡ drop 1 own = get_map (drop 1) refl k all in
      let shorter : length (get_or rest k []) ≤ n = rw rest_is (omega (arith, length-drop 1 own)) in
      let firsts = flat_map-append g (flat_map (take 1) all) (walk n rest) in
      let walked = only_walk n k rest (only_map (drop 1) refl quiet_drop k all h) shorter in
      let parts = flat_map-append g (take 1 own) (drop 1 own) in
      rw (firsts, only_firsts k all h, walked, rest_is, ← parts, take-append-drop 1 own)

  only_phase : (k : ℕ) (all : List (List LineTurn)) → OnlyAt k all → (p : ℕ)
      → flat_map g (phase_rounds all p) ≡ flat_map g (in_phase p (get_or all k []))
  only_phase k all h p =
      let here : List (List LineTurn) = map (in_phase p) all in
      let n : ℕ = greatest (map length here) in
      let short : Short n here = short_greatest here in
      let walked = only_walk n k here (only_map (in_phase p) refl (quiet_phase p) k all h) (short k) in
      rw (all_walk n here short, walked, get_map (in_phase p) refl k all)

  pub only_phases : (k : ℕ) (all : List (List LineTurn)) → OnlyAt k all → (ps : List ℕ)
      → flat_map g (flat_map (phase_rounds all) ps) ≡ flat_map g (flat_map (λ p. in_phase p (get_or all k [])) ps)
  only_phases k all h [] = refl
  only_phases k all h (p ∷ ps) = grind (arith, nat_tests, only_phases k all h ps, flat_map-append, only_phase)

-- ---- the phases of a script make it whole

-- all moves are in a phase below this one
abbrev pub Below : ℕ → List LineTurn → Type 0
Below count moves = AllByRecursion (λ m. m.phase < count) moves

-- a script that goes on in a later phase has no move in this one
pub later : (q p k : ℕ) (ds : List ActorLine) → q < p → in_phase q (turns_from p k ds) ≡ []
later q p k [] h = refl
later q p k (d ∷ ds) h = rw (ne_eqb p q (λ e. omega arith))
    (later q (cond (ends_phase d) (suc p) p) (suc k) ds (grind arith))

passed : (m : LineTurn) (moves : List LineTurn) (p n : ℕ) → m.phase < p
    → flat_map (λ q. in_phase q (m ∷ moves)) (range_with_len p n)
    ≡ flat_map (λ q. in_phase q moves) (range_with_len p n)
passed m moves p zero h = refl
passed m moves p (suc n) h = rw (ne_eqb m.phase p (λ e. omega arith), passed m moves (p + 1) n (omega arith))

pub no_phases : (ps : List ℕ) → flat_map (λ q. in_phase q []) ps ≡ []
no_phases [] = refl
no_phases (p ∷ ps) = no_phases ps

-- the phases from one on make whole what begins in it or in a later one
pub phases_whole : (ds : List ActorLine) (q p k n : ℕ) → q ≤ p → Below (q + n) (turns_from p k ds)
    → flat_map (λ r. in_phase r (turns_from p k ds)) (range_with_len q n) ≡ turns_from p k ds
phases_whole [] q p k n up h = no_phases (range_with_len q n)
phases_whole (d ∷ ds) q p k zero up h = absurd (let out : p < q + 0 = h.0 in omega arith)
phases_whole (d ∷ ds) q p k (suc n) up h =
    let next : ℕ = cond (ends_phase d) (suc p) p in
    elim (cases_eq p q) [
      | inl same ↦
          let behind = passed (record { phase = p; number = k; doing = d }) (turns_from next (suc k) ds) in
          rw (eq-eqb p q same)
          (rw (behind (q + 1) n (omega arith), phases_whole ds q next (suc k) (suc n) (grind arith) h.1))
      | inr other ↦
          let more : q + suc n ≡ (q + 1) + n = omega arith in
          rw (later q p k (d ∷ ds) (omega arith)) (phases_whole (d ∷ ds) (q + 1) p k n (omega arith)
          (subst (λ (c : ℕ). Below c (turns_from p k (d ∷ ds))) more h))
    ]

-- What is left of a phase: an actor without a move is passed over, and a move is taken from the front.

-- actors from one up to another have no move
abbrev AreIdle : List (List LineTurn) → ℕ → ℕ → Type 0
AreIdle all from to = (i : ℕ) → from ≤ i → i < to → get_or all i [] ≡ []

-- nor have these in the phase
abbrev NoneIn : ℕ → List (List LineTurn) → ℕ → ℕ → Type 0
NoneIn p all from to = (i : ℕ) → from ≤ i → i < to → in_phase p (get_or all i []) ≡ []

idle_in : (p from to : ℕ) (all : List (List LineTurn)) → NoneIn p all from to → AreIdle (map (in_phase p) all) from to
idle_in p from to all none i up below_ = get_map (in_phase p) refl i all ∙ none i up below_

-- ---- within a phase

-- an actor that has no move is passed over
skip : (k : ℕ) (all : List (List LineTurn)) → k < length all → get_or all k [] ≡ []
    → rest_of_phase k all ≡ rest_of_phase (k + 1) all
skip k all inside none =
    let here : drop k all ≡ [] ∷ drop (k + 1) all = rw (drop_more all k [] inside, none) in
    let taken : take (k + 1) all ≡ take k all ++ [] ∷ [] = rw (take_more all k [] inside, none) in
    rw (here, taken) (rw (← append_assoc (take k all) ([] ∷ []) (map (drop 1) (drop (k + 1) all))))

-- those from one actor up to another have no move
skip_to : (n k b : ℕ) (all : List (List LineTurn)) → k + n ≡ b → b ≤ length all → AreIdle all k b
    → rest_of_phase k all ≡ rest_of_phase b all
skip_to zero k b all is inside none = ap (λ (x : ℕ). rest_of_phase x all) (omega arith)
skip_to (suc n) k b all is inside none =
    skip k all (omega arith) (none k (omega arith) (omega arith))
    ∙ skip_to n (k + 1) b all (omega arith) inside (λ i from_ below_. none i (omega arith) below_)

-- those from one actor on have no move, so a new round begins
skip_rest : (k : ℕ) (all : List (List LineTurn)) → k ≤ length all → AreIdle all k (length all)
    → rest_of_phase k all ≡ all_rounds all
skip_rest k all up none =
    let n : ℕ = length all in
    skip_to (n - k) k n all (omega arith) (omega arith) none
    ∙ rw (drop_all n all (omega arith), take_all n all (omega arith)) (rw (append-nil all))

-- an actor does its move
take_one : (b : ℕ) (all : List (List LineTurn)) (m : LineTurn) (rest : List LineTurn) → b < length all
    → get_or all b [] ≡ m ∷ rest → rest_of_phase b all ≡ m ∷ rest_of_phase (b + 1) (set all b rest)
take_one b all m rest inside has = grind (arith, nat_tests, drop_more, drop-set-lt, take_more_set, append_assoc)

-- ---- the phases after it

-- the move taken was in no later phase
same_phase : (q b : ℕ) (all : List (List LineTurn)) (m : LineTurn) (rest : List LineTurn) → get_or all b [] ≡ m ∷ rest
    → m.phase < q → map (in_phase q) (set all b rest) ≡ map (in_phase q) all
same_phase q b all m rest has less =
    let before : get_or (map (in_phase q) all) b [] ≡ in_phase q rest = get_map (in_phase q) refl b all
    ∙ ap (in_phase q) has ∙ rw (ne_eqb m.phase q (λ e. omega arith)) refl in
    rw (map-set (in_phase q) all b rest, ← before, set-get_or (map (in_phase q) all) b [])

same_phases : (n q b : ℕ) (all : List (List LineTurn)) (m : LineTurn) (rest : List LineTurn)
    → get_or all b [] ≡ m ∷ rest → m.phase < q → flat_map (phase_rounds (set all b rest)) (range_with_len q n)
    ≡ flat_map (phase_rounds all) (range_with_len q n)
same_phases zero q b all m rest has less = refl
same_phases (suc n) q b all m rest has less =
    rw (same_phase q b all m rest has less, same_phases n (q + 1) b all m rest has (omega arith))

-- an actor does its move, and what is left then
pub one_taken : (count p b : ℕ) (all : List (List LineTurn)) (m : LineTurn) (rest : List LineTurn) → b < length all
    → get_or all b [] ≡ m ∷ rest → m.phase ≡ p
    → left_from count p b all ≡ m ∷ left_from count p (b + 1) (set all b rest)
unfolding left_from
one_taken count p b all m rest inside has e =
    let now : get_or (map (in_phase p) all) b [] ≡ m ∷ in_phase p rest = get_map (in_phase p) refl b all
    ∙ ap (in_phase p) has ∙ rw (eq-eqb m.phase p e) refl in
    let long : b < length (map (in_phase p) all) = omega (arith, length-map all (in_phase p)) in
    let taken = take_one b (map (in_phase p) all) m (in_phase p rest) long now in
    rw (taken, ← map-set (in_phase p) all b rest, ← same_phases _ (suc p) b all m rest has (omega arith))

-- ---- new rounds, new phases, and the end

pub turned_to : (count p k b : ℕ) (all : List (List LineTurn)) → k ≤ b → b ≤ length all → NoneIn p all k b
    → left_from count p b all ≡ left_from count p k all
unfolding left_from
turned_to count p k b all up inside none =
    let long = length-map all (in_phase p) in
    rw (← skip_to (b - k) k b (map (in_phase p) all) (omega arith) (omega arith) (idle_in p k b all none))

-- what is left where no actor from this one on has a move in the phase
round_ends : (count p k : ℕ) (all : List (List LineTurn)) → k ≤ length all → NoneIn p all k (length all)
    → left_from count p k all ≡ all_rounds (map (in_phase p) all)
    ++ flat_map (phase_rounds all) (range_with_len (suc p) (count - suc p))
unfolding left_from
round_ends count p k all up none = grind (arith, nat_tests, length-map, skip_rest, idle_in)

pub round_begun : (count p k : ℕ) (all : List (List LineTurn)) → k ≤ length all → NoneIn p all k (length all)
    → left_from count p 0 all ≡ left_from count p k all
unfolding left_from
round_begun count p k all up none = rw (at_begin (map (in_phase p) all), ← round_ends count p k all up none)

nothing_in : (p : ℕ) (all : List (List LineTurn)) → NoneIn p all 0 (length all) → all_rounds (map (in_phase p) all) ≡ []
nothing_in p all none = all_walk 0 (map (in_phase p) all)
    (λ k. rw (get_map (in_phase p) refl k all) (grind (arith, none k, get_or_past all k [])))

-- no actor has a move in the phase, and the next phase begins
pub phase_begun : (count p : ℕ) (all : List (List LineTurn)) → suc p < count → NoneIn p all 0 (length all)
    → left_from count (suc p) 0 all ≡ left_from count p 0 all
unfolding left_from
phase_begun count p all more none =
    let one_more : count - suc p ≡ suc (count - suc (suc p)) = omega arith in
    let here = at_begin (map (in_phase p) all) in
    cc (here, at_begin (map (in_phase (suc p)) all), add-one (suc p), one_more, nothing_in p all none)

nothing_behind : (n q : ℕ) (all : List (List LineTurn)) → AreIdle all 0 (length all)
    → flat_map (phase_rounds all) (range_with_len q n) ≡ []
nothing_behind zero q all none = refl
nothing_behind (suc n) q all none = grind (arith, nat_tests, nothing_behind n (q + 1) all none, nothing_in)

-- no actor has a move left
pub nothing_left : (count p k : ℕ) (all : List (List LineTurn)) → k ≤ length all → AreIdle all 0 (length all)
    → left_from count p k all ≡ []
nothing_left count p k all up none = grind (arith, nat_tests, round_ends, nothing_in, nothing_behind)
