-- What one session sees of a journal.
use Rattle.std.specs.Prelude.{ℕ, ◌==◌, List, [], ◌∷◌, ◌++◌, map, sum, length, if◌then◌else◌}
use Rattle.nit_journal.specs.Below.{Call, Configuration, Delivery, Entry, Item, Reply}
use Rattle.nit_journal.specs.Below.{deliveries_of, donation_of, view_slots}
use Rattle.nit_events.specs.declared.entry.Entry.TheVariants as entry
use Rattle.nit_journal.specs.Session.{Session, first_session, serve, after_calls, receive}
use Rattle.nit_journal.specs.State.{State}
use Rattle.nit_journal.specs.WholeJournals.{calls_of}

-- a session calls, or gets an item
pub data Observation : Type 0 where
  Calls : Call → Observation
  Gets : Item → Observation

-- the items of a list of deliveries that go to a session
abbrev pub items_to : ℕ → List Delivery → List Observation
items_to s [] = []
items_to s (d ∷ ds) = if d.sid == s then Gets d.item ∷ items_to s ds else items_to s ds

-- the calls of a session and the items that were routed to it, in order
abbrev pub projection : ℕ → List Entry → List Observation
projection s [] = []
projection s (entry.Call sid call r ∷ rest) =
    if sid == s then Calls call ∷ projection s rest else projection s rest
projection s (entry.Input dev routed ∷ rest) =
    items_to s (deliveries_of routed) ++ projection s rest
projection s (other ∷ rest) = projection s rest

-- the replies to a session, in order
abbrev pub replies_to : ℕ → List Entry → List Reply
replies_to s [] = []
replies_to s (entry.Call sid call r ∷ rest) =
    if sid == s then r ∷ replies_to s rest else replies_to s rest
replies_to s (other ∷ rest) = replies_to s rest

-- the replies of a machine that serves one session alone
abbrev pub replies_from : Session → List Observation → List Reply
replies_from s [] = []
replies_from s (Calls call ∷ rest) = (serve s call).reply ∷ replies_from (serve s call).session rest
replies_from s (Gets i ∷ rest) = replies_from (receive s i) rest

abbrev pub alone : ℕ → List Observation → List Reply
alone donation moments = replies_from (first_session donation) moments

-- what these moments leave of a machine
abbrev pub after_observations : Session → List Observation → Session
after_observations s [] = s
after_observations s (Calls call ∷ rest) = after_observations (serve s call).session rest
after_observations s (Gets i ∷ rest) = after_observations (receive s i) rest

-- the machine that serves one session alone, after these moments
abbrev pub alone_machine : ℕ → List Observation → Session
alone_machine donation moments = after_observations (first_session donation) moments

-- the machine that opens with a session's donation and gets the session's own calls of a journal,
-- and no item
abbrev pub own_machine : Configuration → ℕ → List Entry → Session
own_machine config sid journal =
    after_calls (first_session (donation_of config sid)) (calls_of sid journal)

-- how many slots of views the sessions have for their opening donations
abbrev pub reserved : Configuration → ℕ
reserved config = sum (map (λ m. view_slots m.donation) config.clients)

-- how many views there are
abbrev pub views_in_use : State → ℕ
views_in_use s = sum (map (λ session. length session.handles) s.sessions)
