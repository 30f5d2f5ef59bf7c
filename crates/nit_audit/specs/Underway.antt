-- An audit under way: what the entries so far lead to, and which entry may come next.
use Rattle.std.specs.Prelude.{◌≡◌, ℕ, ◌+◌, ◌<◌, ◌≤◌, List, [], ◌∷◌, ◌++◌, length, slice_set, Option}
use Rattle.std.specs.Prelude.{Some, None}
use Rattle.nit_audit.specs.Below.{Agrees, AllByRecursion, Call, Configuration, Does, Entry}
use Rattle.nit_audit.specs.Below.{FitsInputLine, InputLine, IsNonDecreasing, LegalFrom, Line}
use Rattle.nit_audit.specs.Below.{Shoots, State, UserAction, after, calls_from, calls_of, done}
use Rattle.nit_audit.specs.Below.{first_state, left, most_lines, next_phase, phases_along, to_do}
use Rattle.nit_audit.specs.Below.{user_actions_from, user_actions_of}
use mathlib.Core.List.{IsPrefix}
use Rattle.nit_events.specs.declared.entry.Entry.TheVariants as entry
use Rattle.nit_script.specs.declared.line.Line.TheVariants as line
use Rattle.nit_script.specs.declared.line.InputLine.TheVariants as input
use Rattle.nit_audit.specs.GoodEntries.{IsAllDone}

-- the state; how many shots were taken; what the clients and the user are still to do; and the
-- phase of what was done last
pub record Audited : Type 0 where
  pub state : State
  pub taken : ℕ
  pub clients : List (List (ℕ × Call))
  pub user : List (ℕ × UserAction)
  pub phase : ℕ

-- before the first entry
abbrev pub first_audited : Configuration → List (List (ℕ × Call)) → List (ℕ × UserAction) → Audited
first_audited config clients user =
    record { state = first_state config; taken = 0; clients = clients; user = user; phase = 0 }

-- these entries are good after those so far
pub record IsGoodFrom (a : Audited) (entries : List Entry) : Type 0 where
  pub legal : LegalFrom a.state a.taken entries
  pub calls : (sid : ℕ) → sid < length a.clients
      → IsPrefix (calls_of sid entries) (done (to_do a.clients sid))
  pub actions : IsPrefix (user_actions_of entries) (done a.user)
  pub phases : IsNonDecreasing (a.phase ∷ phases_along a.clients a.user entries)
  pub final : (front rest : List Entry) → entries ≡ front ++ entry.Final ∷ rest
      → IsAllDone a.clients a.user front

-- this is done next, in this phase or a later one
abbrev pub IsNext : {A : Type 0} → ℕ → A → List (ℕ × A) → Type 0
IsNext phase x [] = ⊥
IsNext phase x (t ∷ ts) = (phase ≤ t.0) × (x ≡ t.1)

-- this was done next, in this phase or a later one, and what was left goes on
pub record IsDoneNext {A : Type 0} (from : ℕ) (x : A) (old new : List (ℕ × A)) (phase : ℕ)
    : Type 0 where
  pub next : IsNext from x old
  pub when : phase ≡ next_phase old
  pub rest : new ≡ left old

-- the phase in which this is done next; none where it is not done next
abbrev pub IsCourseAnswer : {A : Type 0} → ℕ → A → List (ℕ × A) → List (ℕ × A) → Option ℕ → Type 0
IsCourseAnswer from x old new (Some phase) = IsDoneNext from x old new phase
IsCourseAnswer from x old new None = IsNext from x old → ⊥

-- nothing is left to do
pub record IsNothingLeft (clients : List (List (ℕ × Call)))
    (user : List (ℕ × UserAction)) : Type 0 where
  pub calls : (sid : ℕ) → sid < length clients → to_do clients sid ≡ []
  pub actions : user ≡ []

-- the entry's actor does what it is to do next; the last picture comes when nothing is left
abbrev pub IsDue : Audited → Entry → Type 0
IsDue a (entry.Call sid call r) = IsNext a.phase call (to_do a.clients sid)
IsDue a (entry.Input dev routed) = IsNext a.phase (Does dev) a.user
IsDue a (entry.Shot number) = IsNext a.phase Shoots a.user
IsDue a entry.Final = IsNothingLeft a.clients a.user

-- the entry is good after those so far
pub record MayFollow (a : Audited) (e : Entry) : Type 0 where
  pub due : IsDue a e
  pub agrees : Agrees a.state a.taken e

-- what is left to do and the phase, after an entry
abbrev pub user_on : Audited → Audited
user_on a = record a { user = left a.user; phase = next_phase a.user }

-- with one more entry
abbrev pub followed : Audited → Entry → Audited
followed a (entry.Call sid call r) =
    record a {
      state = after a.state (entry.Call sid call r);
      clients = slice_set a.clients sid (left (to_do a.clients sid));
      phase = next_phase (to_do a.clients sid);
    }
followed a (entry.Input dev routed) =
    record (user_on a) { state = after a.state (entry.Input dev routed) }
followed a (entry.Shot number) = record (user_on a) { taken = a.taken + 1 }
followed a entry.Final = a

-- each client has a session
abbrev pub IsMatched : Audited → Type 0
IsMatched a = length a.clients ≡ length a.state.sessions

-- the next line of a client's script is a call, where there is one
abbrev pub BeginsWithCall : List Line → Type 0
BeginsWithCall [] = Unit {0}
BeginsWithCall (line.Call call ∷ rest) = Unit {0}
BeginsWithCall (other ∷ rest) = ⊥

-- the next line of the input script is a device event or a shot, where there is one
abbrev pub BeginsWithAction : List InputLine → Type 0
BeginsWithAction [] = Unit {0}
BeginsWithAction (input.Phase ∷ rest) = ⊥
BeginsWithAction (other ∷ rest) = Unit {0}

-- the rest of a client's lines, from its next call on, and the phase that it is in
pub record IsRestAtCall (phase : ℕ) (lines : List Line) (at : ℕ) (rest : List Line) : Type 0 where
  pub calls : calls_from at rest ≡ calls_from phase lines
  pub begins : BeginsWithCall rest
  pub few : at + length rest ≤ most_lines

-- lines of the input script, the first one in this phase
pub record AreInputLines (phase : ℕ) (lines : List InputLine) : Type 0 where
  pub few : phase + length lines ≤ most_lines
  pub fits : AllByRecursion FitsInputLine lines

-- the rest of the input script, from the next device event or shot on, and the phase that it is in
pub record IsAtAction (phase : ℕ) (lines : List InputLine) (at : ℕ) (rest : List InputLine)
    : Type 0 where
  pub actions : user_actions_from at rest ≡ user_actions_from phase lines
  pub begins : BeginsWithAction rest
  pub fits : AreInputLines at rest
