-- The text of the events that a session has taken.
use Rattle.std.specs.Prelude.{ℕ, ◌==◌, List, [], ◌∷◌, ◌++◌, codes, if◌then◌else◌}
use Rattle.nit_report.specs.Below.{Ending, Entry, Event, Status, flat_map, nat, spelled}
use Rattle.nit_events.specs.declared.event.Status.TheVariants as status
use Rattle.nit_events.specs.declared.call.Call.TheVariants as call
use Rattle.nit_events.specs.declared.call.Reply.TheVariants as reply
use Rattle.nit_events.specs.declared.entry.Entry.TheVariants as entry
use Rattle.nit_report.specs.EntrySpelling.{event_spelling}

-- the event that a session takes in this entry, where it takes one
abbrev pub taken : ℕ → Entry → List Event
taken s (entry.Call sid call.Take (reply.Event e)) = if sid == s then e ∷ [] else []
taken s other = []

-- whether a session is served
abbrev pub status_spelling : Status → List ℕ
status_spelling status.Live = codes "live"
status_spelling status.Closed = codes "closed"
status_spelling status.Killed = codes "killed"

-- how many events were lost, how many are left, and whether the session is served, a line each
abbrev pub ending_text : Ending → List ℕ
ending_text end =
    codes "lost" ++ (nat end.lost ++ (10 ∷ (codes "left" ++ (nat end.left
    ++ (10 ∷ (codes "state " ++ (status_spelling end.status ++ 10 ∷ [])))))))

-- a line for each event that the session took, in order, and then how it ended
abbrev pub events_text : List Entry → ℕ → Ending → List ℕ
events_text entries s end =
    flat_map (spelled event_spelling) (flat_map (taken s) entries) ++ ending_text end
