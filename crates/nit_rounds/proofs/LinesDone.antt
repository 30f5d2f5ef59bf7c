-- How many moves there are, as many as lines; which lines of an actor are done in the rounds, and which before a move.
use Rattle.nit_rounds.proofs.Basics.{ActorLine, AreRoundsOf, ByClient, ByUser, Calls, Configuration}
use Rattle.nit_rounds.proofs.Basics.{Entry, InputLine, IsLegal, IsWhole, LegalFrom, Line, LineTurn}
use Rattle.nit_rounds.proofs.Basics.{List, Some, State, [], action_of, actions_of_line}
use Rattle.nit_rounds.proofs.Basics.{actions_of_turns, add-one, add-zero, after, ap, arith}
use Rattle.nit_rounds.proofs.Basics.{as_many_as_clients, calls_from, calls_of, calls_to_make, cond}
use Rattle.nit_rounds.proofs.Basics.{done, ends_phase, eq-eqb, first_state, flat_map}
use Rattle.nit_rounds.proofs.Basics.{flat_map-append, get_or, get_or-range_with_len, get_or_at}
use Rattle.nit_rounds.proofs.Basics.{get_or_past, input_by_user, input_lines_of, length}
use Rattle.nit_rounds.proofs.Basics.{length-append, length-map, length-range_with_len, line_by}
use Rattle.nit_rounds.proofs.Basics.{lines_of, map, nat_tests, ne_eqb, range_with_len, refl, rounds}
use Rattle.nit_rounds.proofs.Basics.{slice_get, slice_get_within, suc, sum_by-cons, sym, take_at}
use Rattle.nit_rounds.proofs.Basics.{turns_from, user_actions_from, user_actions_of}
use Rattle.nit_rounds.proofs.Basics.{user_actions_to_do, zero-add}
use Rattle.std.proofs.Common.{nat_le, sum, take, zero, ℕ, ◌++◌, ◌+◌, ◌-◌, ◌<◌, ◌∙◌, ◌∷◌, ◌≡◌, ◌≤◌}
use Rattle.nit_rounds.proofs.PlaceLemmas.{client_part, user_part}
use Rattle.nit_journal.proofs.ForCallers.{as_many}
use Rattle.nit_events.specs.declared.entry.Entry.TheVariants as entry
use Rattle.nit_script.specs.declared.line.InputLine.TheVariants as input
use Rattle.nit_script.specs.declared.line.Line.TheVariants as line

-- ---- all lines

made_lines : {L : Type 0} (f : L → ActorLine) (of : ActorLine → List L) → ((l : L) → of (f l) ≡ l ∷ [])
    → (p n : ℕ) (ls : List L) → flat_map (λ m. of m.doing) (turns_from p n (map f ls)) ≡ ls
made_lines f of one p n [] = refl
made_lines {L = L} f of one p n (l ∷ ls) =
    rw (one l) (rw (made_lines f of one (cond (ends_phase (f l)) (suc p) p) (suc n) ls))

-- the numbers of the lines
numbers : {L : Type 0} → (ActorLine → List L) → LineTurn → List ℕ
numbers of m = map (λ _. m.number) (of m.doing)

made_numbers : {L : Type 0} (f : L → ActorLine) (of : ActorLine → List L) → ((l : L) → of (f l) ≡ l ∷ [])
    → (p n : ℕ) (ls : List L) → flat_map (numbers of) (turns_from p n (map f ls)) ≡ range_with_len n (length ls)
unfolding numbers
made_numbers f of one p n [] = refl
made_numbers f of one p n (l ∷ ls) =
    rw (one l) (rw (made_numbers f of one (cond (ends_phase (f l)) (suc p) p) (suc n) ls, ← add-one n))

pub own_line : (s : ℕ) (l : Line) → line_by s (ByClient s l) ≡ l ∷ []
own_line s l = rw (eq-eqb s s refl) refl

pub other_line : (s t : ℕ) (l : Line) → (t ≡ s → ⊥) → line_by s (ByClient t l) ≡ []
other_line s t l other = rw (ne_eqb t s other) refl

pub client_lines : (scripts : List (List Line)) (input : List InputLine) (s : ℕ) → lines_of s (rounds scripts input)
    ≡ get_or scripts s []
client_lines scripts input s =
    client_part (λ m. line_by s m.doing) s (λ ls. ls) (λ p n t l other. other_line s t l other) (λ p n l. refl) refl
    (made_lines (ByClient s) (line_by s) (own_line s) 0 0) scripts input

pub user_lines : (scripts : List (List Line)) (input : List InputLine) → input_lines_of (rounds scripts input) ≡ input
user_lines scripts input = user_part (λ m. input_by_user m.doing) (λ ls. ls) (λ p n t l. refl)
    (made_lines ByUser input_by_user (λ l. refl) 0 0) scripts input

-- ---- as many moves as lines

-- whether the line is of a client from this one on, as a number
abbrev is_from : ℕ → ActorLine → ℕ
is_from sid (ByClient t l) = cond (nat_le sid t) 1 0
is_from sid (ByUser l) = 0

-- how many moves are of clients from this one on
abbrev moves_from : ℕ → List LineTurn → ℕ
moves_from sid [] = 0
moves_from sid (m ∷ moves) = is_from sid m.doing + moves_from sid moves

one_by_client : (sid : ℕ) (d : ActorLine) → is_from sid d ≡ length (line_by sid d) + is_from (suc sid) d
one_by_client sid (ByClient t l) = grind (arith, nat_tests)
one_by_client sid (ByUser l) = refl

of_client : (sid : ℕ) (moves : List LineTurn)
    → moves_from sid moves ≡ length (lines_of sid moves) + moves_from (suc sid) moves
of_client sid [] = refl
of_client sid (m ∷ moves) = grind (arith, nat_tests, of_client sid moves, length-append, one_by_client)

not_from : (sid : ℕ) (d : ActorLine) → ((s : ℕ) → sid ≤ s → length (line_by s d) ≡ 0) → is_from sid d ≡ 0
not_from sid (ByClient t l) none = grind (arith, nat_tests, none t)
not_from sid (ByUser l) none = refl

none_from : (sid : ℕ) (moves : List LineTurn) → ((s : ℕ) → sid ≤ s → length (lines_of s moves) ≡ 0)
    → moves_from sid moves ≡ 0
none_from sid [] none = refl
none_from sid (m ∷ moves) none =
    let long = λ (s : ℕ). length-append (line_by s m.doing) (lines_of s moves) in
    let here = not_from sid m.doing (λ s up. omega (arith, none s up, long s)) in
    let rest = none_from sid moves (λ s up. omega (arith, none s up, long s)) in
    omega arith

of_clients : (sid : ℕ) (scripts : List (List Line)) (moves : List LineTurn)
    → ((k : ℕ) → length (lines_of (sid + k) moves) ≡ length (get_or scripts k []))
    → moves_from sid moves ≡ sum (map length scripts)
of_clients sid [] moves each =
    none_from sid moves (λ s up. let same : sid + (s - sid) ≡ s = omega arith in rw same at (each (s - sid)))
of_clients sid (x ∷ scripts) moves each =
    let rest = of_clients (suc sid) scripts moves
    (λ k. let same : sid + suc k ≡ suc sid + k = omega arith in rw same at (each (suc k))) in
    let more = sum_by-cons (λ (n : ℕ). n) (length x) (map length scripts) in
    omega (arith, of_client sid moves, rw (add-zero sid) at (each 0), rest, more)

one_of_all : (d : ActorLine) → length (input_by_user d) + is_from 0 d ≡ 1
one_of_all (ByClient t l) = grind (arith, nat_tests)
one_of_all (ByUser l) = refl

of_all : (moves : List LineTurn) → length (input_lines_of moves) + moves_from 0 moves ≡ length moves
of_all [] = refl
of_all (m ∷ moves) = grind (arith, nat_tests, of_all moves, length-append, one_of_all)

pub as_many_as_lines : (scripts : List (List Line)) (input : List InputLine)
    → length (rounds scripts input) ≡ sum (map length scripts) + length input
as_many_as_lines scripts input = grind (arith, nat_tests, of_clients, client_lines, of_all, user_lines)

one_act : (d : ActorLine) → length (actions_of_line d) ≤ 1
one_act (ByClient s (line.Call c)) = omega arith
one_act (ByUser input.Phase) = omega arith
one_act other = omega arith

pub few_acts : (moves : List LineTurn) → length (actions_of_turns moves) ≤ length moves
few_acts [] = omega arith
few_acts (m ∷ moves) = grind (arith, nat_tests, few_acts moves, length-append, one_act)

-- ---- the numbers of the lines

client_numbers : (scripts : List (List Line)) (input : List InputLine) (s : ℕ)
    → flat_map (numbers (line_by s)) (rounds scripts input) ≡ range_with_len 0 (length (get_or scripts s []))
unfolding numbers
client_numbers scripts input s =
    client_part (numbers (line_by s)) s (λ ls. range_with_len 0 (length ls))
    (λ p n t l other. ap (map (λ _. n)) (other_line s t l other)) (λ p n l. refl) refl
    (made_numbers (ByClient s) (line_by s) (own_line s) 0 0) scripts input

user_numbers : (scripts : List (List Line)) (input : List InputLine)
    → flat_map (numbers input_by_user) (rounds scripts input) ≡ range_with_len 0 (length input)
unfolding numbers
user_numbers scripts input =
    user_part (numbers input_by_user) (λ ls. range_with_len 0 (length ls)) (λ p n t l. refl)
    (made_numbers ByUser input_by_user (λ l. refl) 0 0) scripts input

-- ---- the lines before a move

as_many_numbers : {L : Type 0} (of : ActorLine → List L) (moves : List LineTurn) → length (flat_map (numbers of) moves)
    ≡ length (flat_map (λ m. of m.doing) moves)
unfolding numbers
as_many_numbers of [] = refl
as_many_numbers of (m ∷ moves) = grind (arith, nat_tests, as_many_numbers of moves, length-append, numbers, length-map)

abbrev front_lines : {L : Type 0} → (ActorLine → List L) → List LineTurn → List L
front_lines of moves = flat_map (λ m. of m.doing) moves

middle : {L : Type 0} (front : List L) (l : L) (back : List L) → slice_get (front ++ l ∷ back) (length front) ≡ Some l
middle [] l back = refl
middle (x ∷ front) l back = middle front l back

-- the move's line, and the lines before it
abbrev IsDone : {L : Type 0} → (ActorLine → List L) → List L → List LineTurn → ℕ → L → Type 0
IsDone of script front number l = (slice_get script number ≡ Some l)
    × (flat_map (λ m. of m.doing) front ≡ take number script)

-- what is taken of a list of moves around one
around : {B : Type 0} (g : LineTurn → List B) (all front : List LineTurn) (m : LineTurn) (back : List LineTurn) (x : B)
    → all ≡ front ++ m ∷ back → g m ≡ x ∷ [] → flat_map g all ≡ flat_map g front ++ x ∷ flat_map g back
around {B = B} g all front m back x parts one = rw (parts, flat_map-append g front (m ∷ back), one)

number_is : (front : List ℕ) (number : ℕ) (back : List ℕ) (n : ℕ) → front ++ number ∷ back ≡ range_with_len 0 n
    → number ≡ length front
number_is front number back n e =
    let inside : length front < n =
    omega (arith, ap length e, length-append front (number ∷ back), length-range_with_len 0 n) in
    rw (← get_or_at front number back 0 (length front) refl, e) (get_or-range_with_len 0 n (length front) 0 inside
    ∙ zero-add (length front))

done_before : {L : Type 0} (of : ActorLine → List L) (script : List L) (all front : List LineTurn) (m : LineTurn)
    (back : List LineTurn) (l : L) →
    flat_map (λ x. of x.doing) all ≡ script → flat_map (numbers of) all ≡ range_with_len 0 (length script)
    → all ≡ front ++ m ∷ back → of m.doing ≡ l ∷ [] → IsDone of script front m.number l
unfolding numbers
done_before of script all front m back l lines counts parts one =
    let by : front_lines of front ++ l ∷ front_lines of back ≡ script =
    sym (around (λ x. of x.doing) all front m back l parts one) ∙ lines in
    let counted =
    sym (around (numbers of) all front m back m.number parts (ap (map (λ _. m.number)) one)) ∙ counts in
    let count : m.number ≡ length (front_lines of front) =
    number_is (flat_map (numbers of) front) m.number (flat_map (numbers of) back) (length script) counted
    ∙ as_many_numbers of front in
    rw (← by) (
      rw count (middle (front_lines of front) l (front_lines of back)),
      sym (take_at (front_lines of front) (l ∷ front_lines of back) m.number (sym count)),
    )

pub client_done : (scripts : List (List Line)) (input : List InputLine) (front back : List LineTurn) (m : LineTurn)
    (s : ℕ) (l : Line) → rounds scripts input ≡ front ++ m ∷ back → m.doing ≡ ByClient s l →
    (s < length scripts) × (slice_get (get_or scripts s []) m.number ≡ Some l)
    × (lines_of s front ≡ take m.number (get_or scripts s []))
client_done scripts input front back m s l parts by =
    let one : line_by s m.doing ≡ l ∷ [] = rw (by, own_line s l) in
    let found : IsDone (line_by s) (get_or scripts s []) front m.number l =
    done_before (line_by s) (get_or scripts s []) (rounds scripts input) front m back l
    (client_lines scripts input s) (client_numbers scripts input s) parts one in
    let within = slice_get_within (get_or scripts s []) m.number l found.0 in
    (grind (arith, get_or_past scripts s [], within), found.0, found.1)

pub user_done : (scripts : List (List Line)) (input : List InputLine) (front back : List LineTurn) (m : LineTurn)
    (l : InputLine) → rounds scripts input ≡ front ++ m ∷ back → m.doing ≡ ByUser l →
    (slice_get input m.number ≡ Some l) × (input_lines_of front ≡ take m.number input)
user_done scripts input front back m l parts by =
    done_before input_by_user input (rounds scripts input) front m back l (user_lines scripts input)
    (user_numbers scripts input) parts (ap input_by_user by)

-- A run of one client, whose user does nothing but end phases, is by rounds.

-- ---- the rounds

first_alone : (l : Line) (ms : List LineTurn)
    → ((t : ℕ) → line_by (suc t) (ByClient zero l) ++ lines_of (suc t) ms ≡ []) → (t : ℕ) → lines_of (suc t) ms ≡ []
first_alone l ms others t = rw (ne_eqb zero (suc t) (λ e. absurd (omega (arith, e)))) at (others t)

-- what these moves record, where no client but the first does a line in them, and the user's are no actions
abbrev IsAlone : List LineTurn → Type 0
IsAlone ms = (p q : ℕ) → ((t : ℕ) → lines_of (suc t) ms ≡ []) → user_actions_from q (input_lines_of ms) ≡ []
    → actions_of_turns ms ≡ map (Calls 0) (done (calls_from p (lines_of 0 ms)))

one_more : (d : ActorLine) (ms : List LineTurn) → IsAlone ms → (p q : ℕ)
    → ((t : ℕ) → line_by (suc t) d ++ lines_of (suc t) ms ≡ [])
    → user_actions_from q (input_by_user d ++ input_lines_of ms) ≡ []
    → actions_of_line d ++ actions_of_turns ms ≡ map (Calls 0) (done (calls_from p (line_by 0 d ++ lines_of 0 ms)))
one_more (ByClient zero (line.Call c)) ms rest p q others idle =
    rw (rest p q (first_alone (line.Call c) ms others) idle)
one_more (ByClient zero (line.Stroke s)) ms rest p q others idle = rest p q (first_alone (line.Stroke s) ms others) idle
one_more (ByClient zero line.Phase) ms rest p q others idle = rest (suc p) q (first_alone line.Phase ms others) idle
one_more (ByClient (suc s) l) ms rest p q others idle =
    absurd (let some = rw (eq-eqb (suc s) (suc s) refl) at (others s) in cc)
one_more (ByUser input.Phase) ms rest p q others idle = rest p (suc q) others idle
one_more other ms rest p q others idle = absurd cc

alone : (ms : List LineTurn) → IsAlone ms
alone [] p q others idle = refl
alone (m ∷ ms) p q others idle = one_more m.doing ms (alone ms) p q others idle

-- the rounds of one script record its calls, in order
rounds_alone : (script : List Line) (lines : List InputLine) → user_actions_to_do lines ≡ []
    → actions_of_turns (rounds (script ∷ []) lines) ≡ map (Calls 0) (done (calls_to_make script))
rounds_alone script lines idle =
    let moves = rounds (script ∷ []) lines in
    alone moves 0 0 (λ t. client_lines (script ∷ []) lines (suc t))
    (rw (← user_lines (script ∷ []) lines) at idle)
    ∙ ap (λ (ls : List Line). map (Calls 0) (done (calls_from 0 ls))) (client_lines (script ∷ []) lines 0)

-- ---- the journal

journal_alone : (s : State) (taken : ℕ) (front : List Entry) → length s.sessions ≡ 1
    → LegalFrom s taken (front ++ entry.Final ∷ []) → user_actions_of (front ++ entry.Final ∷ []) ≡ []
    → map action_of front ≡ map (Calls 0) (calls_of 0 (front ++ entry.Final ∷ []))
journal_alone s taken [] one legal none = refl
journal_alone s taken (entry.Call zero c r ∷ front) one (agrees, legal) none =
    rw (journal_alone (after s (entry.Call zero c r)) taken front (as_many s (entry.Call zero c r) ∙ one) legal none)
journal_alone s taken (entry.Call (suc sid) c r ∷ front) one (agrees, legal) none =
    absurd (let below = agrees.0 in omega (arith, one, below))
journal_alone s taken (entry.Final ∷ front) one legal none =
    absurd (omega (arith, ap length legal, length-append front (entry.Final ∷ [])))
journal_alone s taken other one legal none = absurd cc

pub by_rounds_alone : (config : Configuration) (script : List Line) (lines : List InputLine) (journal : List Entry)
    → length config.clients ≡ 1 → user_actions_to_do lines ≡ [] → IsLegal config journal
    → IsWhole (map calls_to_make (script ∷ [])) (user_actions_to_do lines) journal
    → (entries : List Entry) × AreRoundsOf entries (script ∷ []) lines × (journal ≡ entries ++ entry.Final ∷ [])
by_rounds_alone config script lines journal one idle legal whole =
    let (front, ends) = whole.ends in
    let own = journal_alone (first_state config) 0 front (as_many_as_clients config [] ∙ one)
    (rw ends at legal) (ap user_actions_of (sym ends) ∙ whole.actions
    ∙ ap done idle) in (
      front,
      own ∙ ap (map (Calls 0)) (rw (← ends, whole.calls 0 (omega arith)))
          ∙ sym (rounds_alone script lines idle),
      ends,
    )
