-- Journals that grow at their end, and fronts of journals.
use Rattle.nit_journal.proofs.Basics.{Agrees, AreSteps, Bare, Configuration, Entry, IsLegal, IsOpen}
use Rattle.nit_journal.proofs.Basics.{LegalFrom, Opens, Point, Restacks, Serves, Side, State, Step}
use Rattle.nit_journal.proofs.Basics.{action_of, after, after_steps, arith, first_state}
use Rattle.nit_journal.proofs.Basics.{fold-append, is_opening, list_any, nat_tests, opened, replay}
use Rattle.nit_journal.proofs.Basics.{replay_from, restacked, shots, since, source_of}
use Rattle.std.proofs.Common.{Bool, List, [], append-nil, append_assoc, false, if◌then◌else◌, map}
use Rattle.std.proofs.Common.{refl, subst, true, zero-add, ℕ, ◌++◌, ◌+◌, ◌==◌, ◌||◌, ◌∷◌, ◌≡◌}
use Rattle.nit_events.specs.declared.entry.Entry.TheVariants as entry

pub replay_more : (s : State) (journal : List Entry) (e : Entry) → replay_from s (journal ++ e ∷ [])
    ≡ after (replay_from s journal) e
replay_more s journal e = fold-append after s journal (e ∷ [])

-- the number of shots after one entry more
abbrev pub counted : ℕ → Entry → ℕ
counted taken (entry.Shot n) = taken + 1
counted taken other = taken

counted_more : (taken : ℕ) (e : Entry) (rest : List Entry) → counted taken e + shots rest ≡ taken + shots (e ∷ rest)
counted_more taken (entry.Shot n) rest = omega arith
counted_more taken other rest = refl

-- the first entry agrees, and what follows is legal after it
pub legal_first : (s : State) (taken : ℕ) (e : Entry) (rest : List Entry) → LegalFrom s taken (e ∷ rest)
    → Agrees s taken e × LegalFrom (after s e) (counted taken e) rest
legal_first s taken entry.Final rest legal = (tt, rw legal tt)
legal_first s taken other rest legal = legal

pub legal_more : (s : State) (taken : ℕ) (journal : List Entry) (e : Entry) → LegalFrom s taken journal → IsOpen journal
    → Agrees (replay_from s journal) (taken + shots journal) e → LegalFrom s taken (journal ++ e ∷ [])
legal_more s taken [] entry.Final legal open_yet agrees = refl
legal_more s taken [] (entry.Shot n) legal open_yet agrees = (omega arith, tt)
legal_more s taken [] e legal open_yet agrees = (agrees, tt)
legal_more s taken (entry.Final ∷ rest) e legal open_yet agrees = absurd open_yet
legal_more s taken (j ∷ rest) e legal open_yet agrees = (
  legal.0,
  legal_more (after s j) (counted taken j) rest e legal.1 open_yet (rw (counted_more taken j rest) agrees),
)

-- ---- fronts

pub front_legal : (s : State) (taken : ℕ) (front rest : List Entry) → LegalFrom s taken (front ++ rest)
    → LegalFrom s taken front
front_legal s taken [] rest legal = tt
front_legal s taken (entry.Final ∷ []) rest legal = refl
front_legal s taken (entry.Final ∷ j ∷ front) rest legal = cc
front_legal s taken (j ∷ front) rest legal =
    (legal.0, front_legal (after s j) (counted taken j) front rest legal.1)

pub front_open : (s : State) (taken : ℕ) (front : List Entry) (e : Entry) (rest : List Entry)
    → LegalFrom s taken (front ++ e ∷ rest) → IsOpen front
front_open s taken [] e rest legal = tt
front_open s taken (entry.Final ∷ []) e rest legal = cc
front_open s taken (entry.Final ∷ j ∷ front) e rest legal = cc
front_open s taken (j ∷ front) e rest legal = front_open (after s j) (counted taken j) front e rest legal.1

pub next_agrees : (s : State) (taken : ℕ) (front : List Entry) (e : Entry) (rest : List Entry)
    → LegalFrom s taken (front ++ e ∷ rest) → Agrees (replay_from s front) (taken + shots front) e
next_agrees s taken [] e rest legal = grind (arith, nat_tests, legal_first)
next_agrees s taken (j ∷ front) e rest legal =
    rw (← counted_more taken j front)
    (next_agrees (after s j) (counted taken j) front e rest (legal_first s taken j (front ++ e ∷ rest) legal).1)

pub agrees_behind : (config : Configuration) (front : List Entry) (e : Entry) (rest : List Entry)
    → IsLegal config (front ++ e ∷ rest) → Agrees (replay config front) (shots front) e
agrees_behind config front e rest legal = subst (λ (n : ℕ). Agrees (replay config front) n e) (zero-add (shots front))
    (next_agrees (first_state config) 0 front e rest legal)

-- one more entry leaves it so
abbrev pub IsKept : (State → List Entry → Type 0) → Type 0
IsKept P = (s : State) (taken : ℕ) (e : Entry) (done : List Entry) → Agrees s taken e → P s done
    → P (after s e) (done ++ e ∷ [])

pub behind : (P : State → List Entry → Type 0) → IsKept P → (s : State) (taken : ℕ) (journal done : List Entry)
    → LegalFrom s taken journal → P s done → P (replay_from s journal) (done ++ journal)
behind P kept s taken [] done legal h = rw append-nil h
behind P kept s taken (e ∷ rest) done legal h =
    let first = legal_first s taken e rest legal in
    subst (P (replay_from (after s e) rest)) (append_assoc done (e ∷ []) rest)
    (behind P kept (after s e) (counted taken e) rest (done ++ e ∷ []) first.1 (kept s taken e done first.0 h))

-- where the session x opens the first parameter becomes `fresh`, and what holds is of what was done since then
pub along : {A : Type 0} (x : ℕ) (P : A → State → List Entry → Type 0) (fresh : A) → ((a : A) → IsKept (P a))
    → ((a : A) (s : State) (sid : ℕ) (label : List ℕ) (done : List Entry) → AreSteps s (Opens sid label ∷ [])
    → P a s done
    → P (if sid == x then fresh else a) (opened sid label s) (if sid == x then [] else done))
    → ((a : A) (s : State) (side : Side) (sid v : ℕ) (done : List Entry) → P a s done
    → P a (restacked side sid v s) done)
    → (a : A) (s : State) (steps : List Step) (done : List Entry) → AreSteps s steps → P a s done
    → P (if list_any (is_opening x) steps then fresh else a) (after_steps s steps) (since x done steps)
along x P fresh kept opens restacks a s [] done are h = h
along x P fresh kept opens restacks a s (Serves e ∷ rest) done are h =
    along x P fresh kept opens restacks a (after s e) rest (done ++ e ∷ []) are.1 (kept a s are.0.0 e done are.0.1 h)
along x P fresh kept opens restacks a s (Restacks side sid v ∷ rest) done are h =
    along x P fresh kept opens restacks a (restacked side sid v s) rest done are.1 (restacks a s side sid v done h)
along x P fresh kept opens restacks a s (Opens sid label ∷ rest) done are h =
    whether_opened (sid == x) (list_any (is_opening x) rest)
    (along x P fresh kept opens restacks (if sid == x then fresh else a) (opened sid label s) rest
    (if sid == x then [] else done) are.1 (opens a s sid label done (are.0, tt) h))
  where
    whether_opened : (c d : Bool)
        → P (if d then fresh else if c then fresh else a) (after_steps (opened sid label s) rest)
        (since x (if c then [] else done) rest)
        → P (if c || d then fresh else a) (after_steps (opened sid label s) rest)
        (if c then since x [] rest else since x done rest)
    whether_opened false d h = h
    whether_opened true true h = h
    whether_opened true false h = h

-- one entry
same_entry : (s : State) (taken : ℕ) (e f : Entry) → Agrees s taken e → Agrees s taken f → action_of e ≡ action_of f
    → e ≡ f
same_entry s taken (entry.Call sid c r) (entry.Call t d q) here there same = grind (arith, nat_tests)
same_entry s taken (entry.Input dev routed) (entry.Input other sent) here there same = grind (arith, nat_tests)
same_entry s taken (entry.Shot m) (entry.Shot n) here there same = rw (here, there) refl
same_entry s taken entry.Final entry.Final here there same = refl
same_entry s taken e f here there same = absurd cc

-- a journal from any state on
pub same_journal : (s : State) (taken : ℕ) (es fs : List Entry) → LegalFrom s taken es → LegalFrom s taken fs
    → map action_of es ≡ map action_of fs → es ≡ fs
same_journal s taken [] [] here there same = refl
same_journal s taken (e ∷ es) (f ∷ fs) here there same =
    let mine = legal_first s taken e es here in
    let theirs = legal_first s taken f fs there in
    let first : f ≡ e = same_entry s taken f e theirs.0 mine.0 cc in
    let rest : es ≡ fs = same_journal (after s e) (counted taken e) es fs mine.1 (rw first at theirs.1) cc in
    cc
same_journal s taken es fs here there same = absurd cc

-- no view stands anywhere
pub bare_everywhere : (config : Configuration) (p : Point) → source_of (first_state config) p ≡ Bare
bare_everywhere config p = grind arith
