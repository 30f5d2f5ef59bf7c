-- How the entries of a journal are spelled, and what they hold: events, items, deliveries and
-- replies.
use Rattle.std.specs.Prelude.{ℕ, List, ◌∷◌, ◌++◌, codes}
use Rattle.nit_report.specs.Below.{Delivery, Entry, Event, Item, Reply, call_spelling}
use Rattle.nit_report.specs.Below.{deliveries_of, device_spelling, flat_map, int, nat}
use Rattle.nit_events.specs.declared.event.Event.TheVariants as event
use Rattle.nit_events.specs.declared.event.Item.TheVariants as item
use Rattle.nit_events.specs.declared.call.Reply.TheVariants as reply
use Rattle.nit_events.specs.declared.entry.Entry.TheVariants as entry

-- an event: what a device does as in a script of the user's input, and three words of their own
abbrev pub event_spelling : Event → List ℕ
event_spelling (event.Press k) = codes "press" ++ nat k
event_spelling (event.Release k) = codes "release" ++ nat k
event_spelling (event.Motion x y) = codes "motion" ++ (nat x ++ nat y)
event_spelling (event.Wheel n) = codes "wheel" ++ int n
event_spelling event.Leave = codes "leave"
event_spelling event.FocusEnter = codes "focus-enter"
event_spelling event.FocusLeave = codes "focus-leave"

-- an item: an event, or that the session is locked out
abbrev pub item_spelling : Item → List ℕ
item_spelling (item.Event e) = event_spelling e
item_spelling item.Kill = codes "kill"

-- a delivery, with what parts it from what stands before it
abbrev pub delivery_spelling : Delivery → List ℕ
delivery_spelling d = codes " >" ++ (nat d.sid ++ (32 ∷ item_spelling d.item))

-- a reply's word, and its numbers or its event
abbrev pub reply_spelling : Reply → List ℕ
reply_spelling reply.Done = codes "done"
reply_spelling (reply.Handle h) = codes "handle" ++ nat h
reply_spelling (reply.Event e) = codes "event" ++ (32 ∷ event_spelling e)
reply_spelling reply.NoEvent = codes "no-event"
reply_spelling (reply.NoSuchView h) = codes "no-such-view" ++ nat h
reply_spelling reply.BadRect = codes "bad-rect"
reply_spelling reply.BadSize = codes "bad-size"
reply_spelling reply.BadTitle = codes "bad-title"
reply_spelling reply.TooManyViews = codes "too-many-views"
reply_spelling (reply.OutOfQuota need left) = codes "out-of-quota" ++ (nat need ++ nat left)
reply_spelling (reply.NoReserve need left) = codes "no-reserve" ++ (nat need ++ nat left)
reply_spelling reply.Closed = codes "closed"
reply_spelling reply.Killed = codes "killed"

-- an entry's line, without its line feed: a call's reply stands before the call
abbrev pub entry_spelling : Entry → List ℕ
entry_spelling (entry.Call sid call r) =
    codes "call" ++ (nat sid ++ (32 ∷ (reply_spelling r ++ (codes " < " ++ call_spelling call))))
entry_spelling (entry.Input dev routed) =
    codes "input " ++ (device_spelling dev ++ flat_map delivery_spelling (deliveries_of routed))
entry_spelling (entry.Shot number) = codes "shot" ++ nat number
entry_spelling entry.Final = codes "final"
