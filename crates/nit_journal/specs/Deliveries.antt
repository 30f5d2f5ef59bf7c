-- What is delivered, and to whom.
use Rattle.std.specs.Prelude.{◌≡◌, ℕ, ◌<◌, Bool, true, false, List, length}
use Rattle.nit_journal.specs.Below.{Delivery, Item, list_any}
use Rattle.nit_events.specs.declared.event.Item.TheVariants as item
use Rattle.nit_events.specs.declared.event.Status.TheVariants as status
use Rattle.nit_journal.specs.State.{State, session}

-- the item locks its session out
abbrev pub is_kill : Item → Bool
is_kill item.Kill = true
is_kill (item.Event e) = false

-- a session is locked out
abbrev pub kills : List Delivery → Bool
kills ds = list_any (λ d. is_kill d.item) ds

-- where a session is locked out, nothing else is delivered
abbrev pub IsKillAlone : List Delivery → Type 0
IsKillAlone ds = kills ds ≡ true → length ds ≡ 1

-- a session of the state that is served
abbrev pub IsLive : State → ℕ → Type 0
IsLive s sid = (sid < length s.sessions) × ((session s sid).status ≡ status.Live)
