-- The events that a client takes are those among its replies.
use Rattle.std.proofs.Common.{◌≡◌, ℕ, ◌+◌, ◌==◌, Bool, true, false, cond, List, [], ◌∷◌, ◌++◌}
use Rattle.std.proofs.Common.{Option, Some, None, arith, refl, rules}
use Rattle.nit_run.proofs.Basics.{Call, Entry, Event, LegalFrom, Reply, Session, State, Status}
use Rattle.nit_run.proofs.Basics.{Take, accepted, after, by_call, by_refusal, by_status}
use Rattle.nit_run.proofs.Basics.{events_among, flat_map, nat_tests, refusal, replies_to, taken}
use Rattle.nit_run.proofs.Basics.{unless, ◌orelse◌}
use Rattle.nit_journal.specs.Session.{serve}
use Rattle.nit_events.specs.declared.event.Status.TheVariants as status
use Rattle.nit_events.specs.declared.call.Reply.TheVariants as reply
use Rattle.nit_events.specs.declared.entry.Entry.TheVariants as entry

-- ---- which replies are events

-- it is no event
abbrev no_event : Option Reply → Bool
no_event (Some (reply.Event e)) = false
no_event other = true

by_unless : (b : Bool) (r : Reply) → no_event (Some r) ≡ true → no_event (unless b r) ≡ true
by_unless true r is = refl
by_unless false r is = is

by_first : (p q : Option Reply) → no_event p ≡ true → no_event q ≡ true → no_event (p orelse q) ≡ true
by_first (Some r) q first second = first
by_first None q first second = second

-- no refusal is an event
call_refused : (t : Session) (call : Call) → no_event (by_call t call) ≡ true
call_refused t Take = refl
call_refused t other = search (rules, by_first, by_unless)

status_refused : (s : Status) → no_event (by_status s) ≡ true
status_refused status.Live = refl
status_refused other = refl

-- a call may be answered so: only `Take` may be answered by an event
abbrev MayAnswer : Call → Reply → Type 0
MayAnswer Take r = Unit {0}
MayAnswer other r = no_event (Some r) ≡ true

refused_so : (call : Call) (r : Reply) → no_event (Some r) ≡ true → MayAnswer call r
refused_so Take r is = tt
refused_so other r is = is

accepted_so : (t : Session) (call : Call) → MayAnswer call (accepted t call).reply
accepted_so t Take = tt
accepted_so t other = refl

answered_so : (t : Session) (call : Call) → MayAnswer call (serve t call).reply
unfolding serve
answered_so t call = unless_refused (refusal t call)
    (by_first (by_status t.status) (by_call t call) (status_refused t.status) (call_refused t call))
  where
    unless_refused : (o : Option Reply) → no_event o ≡ true → MayAnswer call (by_refusal t call o).reply
    unless_refused (Some r) is = refused_so call r is
    unless_refused None is = accepted_so t call

-- ---- along a journal

-- the event that a reply is
among_one : (r : Reply) (rest : List Reply) → no_event (Some r) ≡ true → events_among (r ∷ rest) ≡ events_among rest
among_one (reply.Event e) rest is = absurd cc
among_one other rest is = refl

not_taken : (b : Bool) (r : Reply) (rest : List Reply) → no_event (Some r) ≡ true
    → events_among rest ≡ events_among (cond b (r ∷ rest) rest)
not_taken b r rest is = grind (arith, nat_tests, among_one r rest is)

-- the event that the session takes in a call, in front of those among its further replies
taken_here : (s sid : ℕ) (call : Call) (r : Reply) (rest : List Reply) → MayAnswer call r
    → taken s (entry.Call sid call r) ++ events_among rest ≡ events_among (cond (sid == s) (r ∷ rest) rest)
taken_here s sid Take (reply.Event e) rest may = grind (arith, nat_tests)
taken_here s sid Take other rest may = not_taken (sid == s) other rest refl
taken_here s sid other r rest may = not_taken (sid == s) r rest may

pub events_taken : (s : ℕ) (t : State) (n : ℕ) (journal : List Entry) → LegalFrom t n journal
    → flat_map (taken s) journal ≡ events_among (replies_to s journal)
events_taken s t n [] legal = refl
events_taken s t n (entry.Call sid call r ∷ rest) legal =
    grind (arith, nat_tests, events_taken s (after t (entry.Call sid call r)) n rest legal.1, answered_so, taken_here)
events_taken s t n (entry.Input dev routed ∷ rest) legal =
    events_taken s (after t (entry.Input dev routed)) n rest legal.1
events_taken s t n (entry.Shot number ∷ rest) legal = events_taken s t (n + 1) rest legal.1
events_taken s t n (entry.Final ∷ rest) legal = rw legal refl
