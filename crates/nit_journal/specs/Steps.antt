-- Steps of a server that goes on without a journal: what an entry tells, that a session opens
-- again, or that the user restacks a view.
use Rattle.std.specs.Prelude.{◌≢◌, ℕ, ◌==◌, ◌<◌, Bool, false, List, [], ◌∷◌, ◌++◌, fold, length}
use Rattle.std.specs.Prelude.{map, slice_set, if◌then◌else◌}
use Rattle.nit_journal.specs.Below.{Configuration, Entry, View, donation_of, is_view, list_any}
use Rattle.nit_journal.specs.Below.{member, moved, put_back, put_front}
use Rattle.nit_events.specs.declared.event.Status.TheVariants as status
use Rattle.nit_journal.specs.Session.{Session, ended, first_session}
use Rattle.nit_journal.specs.State.{State, after, first_state, layer, session}
use Rattle.nit_journal.specs.Replay.{Agrees}

-- the client of this session has this label; all else of the configuration stays
abbrev pub relabelled : ℕ → List ℕ → Configuration → Configuration
relabelled sid label config =
    record config {
      clients = slice_set config.clients sid (record (member config sid) { label = label });
    }

-- no other session has this label
abbrev pub IsFreeLabel : Configuration → ℕ → List ℕ → Type 0
IsFreeLabel config sid label =
    (t : ℕ) → t < length config.clients → t ≢ sid → (member config t).label ≢ label

-- the session is the first one of its donation again, under this label; all else stays
abbrev pub opened : ℕ → List ℕ → State → State
opened sid label s =
    record s {
      config = relabelled sid label s.config;
      sessions = slice_set s.sessions sid (first_session (donation_of s.config sid));
    }

-- before the first step, with no session open
abbrev pub vacant_state : Configuration → State
vacant_state config =
    record (first_state config) {
      sessions = map (λ m. ended status.Closed (first_session m.donation)) config.clients;
    }

-- where the user puts a view: in front of all others of its layer, or behind them
pub data Side : Type 0 where
  Foremost : Side
  Rearmost : Side

abbrev pub put_at : {A : Type 0} → Side → (A → ℕ) → ℕ → A → List A → List A
put_at Foremost = put_front
put_at Rearmost = put_back

-- a session's view is put there; nothing changes where it has no such view
abbrev pub restacked : Side → ℕ → ℕ → State → State
restacked side sid v s =
    record s {
      stack =
          moved (is_view sid v) (put_at side (λ view. layer s.config view.sid) (layer s.config sid))
          s.stack;
    }

-- what an entry tells was served, a session opened under a label, or the user put a session's view
-- in front of its layer or behind it
pub data Step : Type 0 where
  Serves : Entry → Step
  Opens : ℕ → List ℕ → Step
  Restacks : Side → ℕ → ℕ → Step

abbrev pub after_step : State → Step → State
after_step s (Serves e) = after s e
after_step s (Opens sid label) = opened sid label s
after_step s (Restacks side sid v) = restacked side sid v s

-- an entry agrees with the state before it, only a session that is over opens again, and the user
-- may restack whatever there is
abbrev pub IsStepOf : State → Step → Type 0
IsStepOf s (Serves e) = (taken : ℕ) × Agrees s taken e
IsStepOf s (Opens sid label) =
    (sid < length s.sessions) × ((session s sid).status ≢ status.Live)
IsStepOf s (Restacks side sid v) = Unit {0}

-- each step is one of the state that those before it lead to
abbrev pub AreSteps : State → List Step → Type 0
AreSteps s [] = Unit {0}
AreSteps s (t ∷ ts) = IsStepOf s t × AreSteps (after_step s t) ts

-- the state after all steps of a list
abbrev pub after_steps : State → List Step → State
after_steps s steps = fold after_step s steps

-- ---- one session along steps

-- the step opens this session
abbrev pub is_opening : ℕ → Step → Bool
is_opening x (Opens sid label) = sid == x
is_opening x other = false

-- what was done since the session last opened, after what was done before
abbrev pub since : ℕ → List Entry → List Step → List Entry
since x done [] = done
since x done (Serves e ∷ rest) = since x (done ++ e ∷ []) rest
since x done (Opens sid label ∷ rest) = if sid == x then since x [] rest else since x done rest
since x done (Restacks side sid v ∷ rest) = since x done rest

-- the entries since the session last opened, or all where it did not open
abbrev pub since_opening : ℕ → List Step → List Entry
since_opening x steps = since x [] steps

-- the machine that the session last opened with, or the one that it had where it did not open
abbrev pub opening_of : State → ℕ → List Step → Session
opening_of s x steps =
    if list_any (is_opening x) steps then first_session (donation_of s.config x) else session s x
