-- Journals that are whole for what the clients and the user are to do. What one of them is to do is
-- a list of pairs: the number of a phase, and what is done in it.
use Rattle.std.specs.Prelude.{◌≡◌, ℕ, ◌<◌, ◌==◌, List, [], ◌∷◌, ◌++◌, map, length, slice_index_or}
use Rattle.std.specs.Prelude.{slice_set, if◌then◌else◌}
use Rattle.nit_journal.specs.Below.{Call, Device, Entry, IsNonDecreasing}
use Rattle.nit_events.specs.declared.entry.Entry.TheVariants as entry

-- the user does something, or a picture is taken
pub data UserAction : Type 0 where
  Does : Device → UserAction
  Shoots : UserAction

-- what an entry is of: a session's call, the user's action, or the last picture
pub data Action : Type 0 where
  Calls : ℕ → Call → Action
  Acts : UserAction → Action
  Ends : Action

-- what an entry is of, without its reply, its deliveries and its number
abbrev pub action_of : Entry → Action
action_of (entry.Call sid call r) = Calls sid call
action_of (entry.Input dev routed) = Acts (Does dev)
action_of (entry.Shot number) = Acts Shoots
action_of entry.Final = Ends

-- the calls of a session, in order
abbrev pub calls_of : ℕ → List Entry → List Call
calls_of s [] = []
calls_of s (entry.Call sid call r ∷ rest) =
    if sid == s then call ∷ calls_of s rest else calls_of s rest
calls_of s (other ∷ rest) = calls_of s rest

-- the device events and shots, in order
abbrev pub user_actions_of : List Entry → List UserAction
user_actions_of [] = []
user_actions_of (entry.Input dev routed ∷ rest) = Does dev ∷ user_actions_of rest
user_actions_of (entry.Shot number ∷ rest) = Shoots ∷ user_actions_of rest
user_actions_of (other ∷ rest) = user_actions_of rest

-- without the numbers of the phases
abbrev pub done : {A : Type 0} → List (ℕ × A) → List A
done phased = map (λ t. t.1) phased

-- what a client is to do
abbrev pub to_do : List (List (ℕ × Call)) → ℕ → List (ℕ × Call)
to_do clients sid = slice_index_or clients sid []

-- the phase of what is done next, and what is left then
abbrev pub next_phase : {A : Type 0} → List (ℕ × A) → ℕ
next_phase [] = 0
next_phase (t ∷ ts) = t.0

abbrev pub left : {A : Type 0} → List (ℕ × A) → List (ℕ × A)
left [] = []
left (t ∷ ts) = ts

-- the phases of the entries of a journal, each entry being what its actor does next
abbrev pub phases_along : List (List (ℕ × Call)) → List (ℕ × UserAction) → List Entry → List ℕ
phases_along clients user [] = []
phases_along clients user (entry.Call sid call r ∷ rest) =
    next_phase (to_do clients sid)
    ∷ phases_along (slice_set clients sid (left (to_do clients sid))) user rest
phases_along clients user (entry.Input dev routed ∷ rest) =
    next_phase user ∷ phases_along clients (left user) rest
phases_along clients user (entry.Shot number ∷ rest) =
    next_phase user ∷ phases_along clients (left user) rest
phases_along clients user (entry.Final ∷ rest) = phases_along clients user rest

-- The calls of each client are those that it is to make, in order, each once; so are the user's
-- device events and shots; the phases never fall; and the last picture comes last.
pub record IsWhole (clients : List (List (ℕ × Call))) (user : List (ℕ × UserAction))
    (journal : List Entry) : Type 0 where
  pub calls : (sid : ℕ) → sid < length clients → calls_of sid journal ≡ done (to_do clients sid)
  pub actions : user_actions_of journal ≡ done user
  pub phases : IsNonDecreasing (phases_along clients user journal)
  pub ends : (front : List Entry) × (journal ≡ front ++ entry.Final ∷ [])
