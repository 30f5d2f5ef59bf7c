-- Worked rows of the texts, computed from the definitions.
use Rattle.std.proofs.Common.{List, None, Some, [], negsuc, pos, refl, ◌++◌, ◌∷◌, ◌≡◌}
use Rattle.nit_report.proofs.Basics.{Closed, Entry, Killed, Live, codes, entry_spelling}
use Rattle.nit_report.proofs.Basics.{events_text, journal_text, reply_spelling}
use Rattle.nit_report.specs.EntryReaders.{answered_at, behind_reply_at, done_at, entry_at}
use Rattle.nit_report.specs.EntryReaders.{entry_front_at, reply_at}
use Rattle.nit_script.specs.CallReaders.{buffer_at, call_at, session_call_at, view_at}
use Rattle.nit_script.specs.FieldReaders.{nat_at}
use Rattle.std.specs.Fmt.{digits}
use Rattle.nit_events.specs.declared.call.Call.TheVariants as call
use Rattle.nit_events.specs.declared.call.Reply.TheVariants as reply
use Rattle.nit_events.specs.declared.device.Device.TheVariants as device
use Rattle.nit_events.specs.declared.event.Event.TheVariants as event
use Rattle.nit_events.specs.declared.event.Item.TheVariants as item
use Rattle.nit_events.specs.declared.entry.Entry.TheVariants as entry

-- two clients whose windows meet, a shot between
abbrev journal : List Entry
journal =
    entry.Call 0 (call.Buffer 4 2) reply.Done
    ∷ entry.Call 0 call.View (reply.Handle 1)
    ∷ entry.Call 0 (call.Place 1 (pos 0) (pos 0) 4 2) reply.Done
    ∷ entry.Call 1 (call.Buffer 4 2) reply.Done
    ∷ entry.Call 1 call.View (reply.Handle 1)
    ∷ entry.Call 1 (call.Place 1 (pos 0) (pos 0) 4 2) reply.Done
    ∷ entry.Shot 1
    ∷ entry.Call 1 (call.Place 1 (pos 4) (pos 2) 4 2) reply.Done
    ∷ entry.Final
    ∷ []

told : journal_text journal
    ≡ codes "call 0 done < buffer 4 2\n"
    ++ codes "call 0 handle 1 < view\n"
    ++ codes "call 0 done < place 1 0 0 4 2\n"
    ++ codes "call 1 done < buffer 4 2\n"
    ++ codes "call 1 handle 1 < view\n"
    ++ codes "call 1 done < place 1 0 0 4 2\n"
    ++ codes "shot 1\n"
    ++ codes "call 1 done < place 1 4 2 4 2\n"
    ++ codes "final\n"
unfolding digits
told = refl

-- nobody took an event there
untold : events_text journal 1 (record { lost = 0; left = 0; status = Live }) ≡ codes "lost 0\nleft 0\nstate live\n"
unfolding digits
untold = refl

-- the user: a click, a drag that ends over another session, and a kill
clicked : entry_spelling (entry.Input (device.Press 272)
    (record {
      a = Some (record { sid = 0; item = item.Event event.FocusEnter });
      b = Some (record { sid = 0; item = item.Event (event.Press 272) });
      c = None;
    }))
    ≡ codes "input press 272 > 0 focus-enter > 0 press 272"
unfolding digits
clicked = refl

dragged : entry_spelling (entry.Input (device.Motion 6 1)
    (record {
      a = Some (record { sid = 0; item = item.Event event.Leave });
      b = Some (record { sid = 1; item = item.Event (event.Motion 6 1) });
      c = None;
    }))
    ≡ codes "input motion 6 1 > 0 leave > 1 motion 6 1"
unfolding digits
dragged = refl

killed : entry_spelling (entry.Input (device.Press 272)
    (record { a = Some (record { sid = 0; item = item.Kill }); b = None; c = None })) ≡ codes "input press 272 > 0 kill"
unfolding digits
killed = refl

undelivered : entry_spelling (entry.Input (device.Wheel (negsuc 0)) (record { a = None; b = None; c = None }))
    ≡ codes "input wheel -1"
unfolding digits
undelivered = refl

-- refusals
refused : entry_spelling (entry.Call 15 (call.Title 1 (codes "a < b")) (reply.OutOfQuota 512 256))
    ≡ codes "call 15 out-of-quota 512 256 < title 1 =a < b"
unfolding digits
refused = refl

reserve : reply_spelling (reply.NoReserve 9 0) ≡ codes "no-reserve 9 0"
unfolding digits
reserve = refl

-- a session takes two events; another one takes one, and one more finds none
abbrev taking : List Entry
taking =
    entry.Call 0 call.Take (reply.Event (event.Motion 1 1))
    ∷ entry.Call 1 call.Take (reply.Event event.FocusLeave)
    ∷ entry.Call 0 call.Take (reply.Event (event.Wheel (negsuc 126)))
    ∷ entry.Call 0 call.Take reply.NoEvent
    ∷ []

took : events_text taking 0 (record { lost = 1; left = 0; status = Killed })
    ≡ codes "motion 1 1\nwheel -127\nlost 1\nleft 0\nstate killed\n"
unfolding digits
took = refl

other_took : events_text taking 1 (record { lost = 0; left = 64; status = Closed })
    ≡ codes "focus-leave\nlost 0\nleft 64\nstate closed\n"
unfolding digits
other_took = refl

-- a word more than `view` has
unread : entry_at (codes "call 0 done < view 1\n") ≡ None
unfolding entry_at entry_front_at answered_at behind_reply_at reply_at done_at call_at session_call_at buffer_at view_at
    nat_at
unread = refl
