-- A host's whole life: what it is asked, one thing after the other.
use Rattle.std.specs.Prelude.{ℕ, ℤ, List, [], ◌∷◌, ◌++◌, fold, Option, Some, None}
use Rattle.nit_host.specs.Below.{Call, Client, Device, Opens, Restacks, Serves, Side, Step}
use Rattle.nit_events.specs.declared.call.Call.TheVariants as call
use Rattle.nit_events.specs.declared.entry.Entry.TheVariants as entry
use Rattle.nit_host.specs.Host.{HostModel, called, looked, put, refreshed, reply_to, routed_of}
use Rattle.nit_host.specs.Host.{told, unserved_call, unserved_input, unserved_refresh}
use Rattle.nit_host.specs.Host.{unserved_restack}
use Rattle.nit_host.specs.Seats.{seated, unseated}

-- a client calls, or hands in words of a part of its buffer; the user does something, or puts a
-- client's view in front of its layer or behind it; a client of this label comes to a seat; or the
-- host program looks at the screen
pub data Act : Type 0 where
  Calls : Client → Call → Act
  Refreshes : Client → ℤ → ℤ → ℕ → ℕ → List ℕ → Act
  Does : Device → Act
  Puts : Side → Client → ℕ → Act
  Comes : ℕ → List ℕ → Act
  Looks : Act

-- the host as it is served, and as it was where there is a reason not to
abbrev pub unless_for : {A : Type 0} → Option A → HostModel → HostModel → HostModel
unless_for None served old = served
unless_for (Some why) served old = old

-- the host behind an act
abbrev pub after_act : HostModel → Act → HostModel
after_act h (Calls client call) =
    unless_for (unserved_call h client call) (called client.seat call h) h
after_act h (Refreshes client x y w height words) =
    unless_for (unserved_refresh h client words) (refreshed client.seat x y w height words h) h
after_act h (Does dev) = unless_for (unserved_input h dev) (told dev h) h
after_act h (Puts side client view) =
    unless_for (unserved_restack h client view) (put side client.seat view h) h
after_act h (Comes seat label) = unless_for (unseated h seat label) (seated seat label h) h
after_act h Looks = looked h

-- the host behind all of them
abbrev pub after_acts : HostModel → List Act → HostModel
after_acts h acts = fold after_act h acts

-- this step, and none where there is a reason not to serve it
abbrev pub step_unless : {A : Type 0} → Option A → Step → List Step
step_unless None step = step ∷ []
step_unless (Some why) step = []

-- the step that an act is, if it is served; a look is none
abbrev pub step_of_act : HostModel → Act → List Step
step_of_act h (Calls client call) =
    step_unless (unserved_call h client call)
    (Serves (entry.Call client.seat call (reply_to h client.seat call)))
step_of_act h (Refreshes client x y w height words) =
    let refresh = call.Refresh x y w height in
    step_unless (unserved_refresh h client words)
    (Serves (entry.Call client.seat refresh (reply_to h client.seat refresh)))
step_of_act h (Does dev) =
    step_unless (unserved_input h dev) (Serves (entry.Input dev (routed_of h dev)))
step_of_act h (Puts side client view) =
    step_unless (unserved_restack h client view) (Restacks side client.seat view)
step_of_act h (Comes seat label) = step_unless (unseated h seat label) (Opens seat label)
step_of_act h Looks = []

-- the steps of all acts
abbrev pub steps_of : HostModel → List Act → List Step
steps_of h [] = []
steps_of h (act ∷ rest) = step_of_act h act ++ steps_of (after_act h act) rest
