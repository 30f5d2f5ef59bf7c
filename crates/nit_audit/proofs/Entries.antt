-- An entry, as the replay plays it.
use Rattle.nit_audit.proofs.Basics.{Answered, Call, Configuration, Delivery, Device, Entry, Err}
use Rattle.nit_audit.proofs.Basics.{Event, FocusModel, HasReplayed, IfOk, IfSome, InputState, IsDue}
use Rattle.nit_audit.proofs.Basics.{IsFollowing, IsReplay, IsReplayAnswer, IsTrue, Item, List}
use Rattle.nit_audit.proofs.Basics.{Member, None, Ok, Option, ReplayModel, Reply, Result, Routed}
use Rattle.nit_audit.proofs.Basics.{Session, Some, Status, Take, UnderwayModel, View, [], accepted}
use Rattle.nit_audit.proofs.Basics.{after_accepted, after_deliveries, arith, audited, bar_rows}
use Rattle.nit_audit.proofs.Basics.{by_life, clicks_on, clicks_on_list, cond, delivered}
use Rattle.nit_audit.proofs.Basics.{delivered_length, deliveries_of, delivery, first_session}
use Rattle.nit_audit.proofs.Basics.{followed, get_or, given, input_after_call, input_closing}
use Rattle.nit_audit.proofs.Basics.{is_accepted, layer, left, length, length-set, map, member}
use Rattle.nit_audit.proofs.Basics.{most_sessions, nat_lt, next_phase, option_map, owner, pointer}
use Rattle.nit_audit.proofs.Basics.{pointer_after, receive, refl, refusal, refused_reply}
use Rattle.nit_audit.proofs.Basics.{replay_routing, routed_as, routing, serve, serve_refused}
use Rattle.nit_audit.proofs.Basics.{session_in, set-get_or, state_of_replay, taking, to_do}
use Rattle.nit_audit.proofs.Basics.{with_pointer}
use Rattle.std.proofs.Common.{Bool, ap, false, set, suc, sym, true, zero, ℕ, ◌++◌, ◌+◌, ◌-◌, ◌<◌}
use Rattle.std.proofs.Common.{◌∙◌, ◌∷◌, ◌≡◌, ◌≤◌}
use Rattle.nit_journal.specs.StackAfter.{stack_after_call}
use Rattle.nit_events.specs.declared.entry.Entry.TheVariants as entry
use Rattle.nit_stack.specs.declared.view.View.{View as ViewOf}
use Rattle.nit_journal.specs.State.{route}
use Rattle.nit_events.specs.declared.event.Item.TheVariants as item
use Rattle.nit_events.specs.declared.event.Status.TheVariants as status
use Rattle.nit_focus.specs.Focus as focusing

-- ---- what an accepted call answers and leaves

-- the next handle rises by one at most, and nothing is lost
pub record IsNear (old new : Session) : Type 0 where
  pub next : new.next ≤ old.next + 1
  pub lost : new.lost ≡ old.lost

near_same : (s : Session) → IsNear s s
near_same s = record { next = omega arith; lost = refl }

near_taken : (q : List Event) (s : Session) → IsNear s (taking q s).session
near_taken [] s = near_same s
near_taken (e ∷ es) s = record { next = omega arith; lost = refl }

pub near : (s : Session) (call : Call) → IsNear s (accepted s call).session
near s Take = near_taken s.queue s
near s other = record { next = omega arith; lost = refl }

-- ---- the state after a call

pub closing : (b : Bool) (sid : ℕ) (call : Call) (r : Reply) (i : InputState) → is_accepted r ≡ b
    → input_after_call sid call r i ≡ cond b (input_closing sid call i) i
closing b sid call r i e = grind arith

pub restacked : (b : Bool) (layers : ℕ → ℕ) (sid : ℕ) (call : Call) (r : Reply) (stack : List ViewOf)
    → is_accepted r ≡ b
    → stack_after_call layers sid call r stack ≡ cond b (after_accepted layers sid call r stack) stack
unfolding stack_after_call
restacked b layers sid call r stack e = rw e refl

-- what holds of a session, and of one that is put in its place
put_there : (P : Session → Type 0) (ss : List Session) (sid t : ℕ) (s : Session) → (sid ≡ t → sid < length ss → P s)
    → P (session_in ss t) → P (session_in (set ss sid s) t)
put_there P [] sid t s new old = old
put_there P (x ∷ ss) zero zero s new old = new refl (omega arith)
put_there P (x ∷ ss) zero (suc t) s new old = old
put_there P (x ∷ ss) (suc sid) zero s new old = old
put_there P (x ∷ ss) (suc sid) (suc t) s new old =
    put_there P ss sid t s (λ same lt. new (ap suc same) (omega (arith, lt))) old

-- a session is near what it was
near_in : (sessions : List Session) (sid : ℕ) (s : Session) (t : ℕ)
    → IsNear (session_in sessions sid) s → IsNear (session_in sessions t) (session_in (set sessions sid s) t)
near_in sessions sid s t h =
    put_there (IsNear (session_in sessions t)) sessions sid t s (λ same _. rw same at h) (near_same _)

-- the call has this answer
pub played : (config : Configuration) (sid : ℕ) (call : Call) (r : Reply) (old new : ReplayModel) (a : Answered)
    → IsReplay config old → sid < length old.sessions → serve (session_in old.sessions sid) call ≡ a → a.reply ≡ r
    → IsNear (session_in old.sessions sid) a.session → new ≡ record old {
      sessions = set old.sessions sid a.session;
      stack = stack_after_call (layer config) sid call r old.stack;
      focus = record old.focus { input = input_after_call sid call r old.focus.input };
      count = old.count + 1;
    }
    → HasReplayed config (entry.Call sid call r) old new
played config sid call r old new a h lt served is by same = rw same (record {
  agrees = (lt, rw (served, is) refl);
  state = λ i. record (state_of_replay config old) {
    sessions = set old.sessions sid (sym served i).session;
    stack = stack_after_call (layer config) sid call r old.stack;
    input = input_after_call sid call r old.focus.input;
  };
  shots = refl;
  kept = record {
    screen = h.screen;
    clicks = h.clicks;
    each = rw length-set h.each;
    few = h.few;
    next = λ u. omega (arith, (near_in old.sessions sid a.session u by).next, h.next u);
    lost = λ u. omega (arith, (near_in old.sessions sid a.session u by).lost, h.lost u);
    shots = omega (arith, h.shots);
  };
  count = refl;
})

-- a refused call, by whether its reply is the one that is told
pub by_answer : (config : Configuration) (sid : ℕ) (call : Call) (r q : Reply) (old new : ReplayModel) (b : Bool)
    → IsReplay config old → sid < length old.sessions → refusal (session_in old.sessions sid) call ≡ Some q
    → new ≡ record old { count = old.count + 1 } → (IsTrue b → q ≡ r) → (q ≡ r → IsTrue b)
    → IsReplayAnswer config (entry.Call sid call r) old new b
by_answer config sid call r q old new true h lt is same told back =
    let s : Session = session_in old.sessions sid in
    let refused : refusal s call ≡ Some r = rw (told refl) at is in
    let no_ = refused_reply s call r refused in
    let stack = restacked false (layer config) sid call r old.stack no_ in
    let input = closing false sid call r old.focus.input no_ in
    played config sid call r old new (record { session = s; reply = r }) h lt (serve_refused s call r refused) refl
    (near_same s) (rw (same, stack, input, set-get_or old.sessions sid (first_session 0)) refl)
by_answer config sid call r q old new false h lt is same told back =
    λ agrees. let wrong : false ≡ true = back (sym (rw (serve_refused (session_in old.sessions sid) call q is) at
    agrees.1)) in cc

-- ---- the route

pub same_route : (config : Configuration) (stack : List View) (f : FocusModel) (dev : Device) (pointed : Option ℕ)
    → (f.width ≡ config.width) × (f.height ≡ config.height)
    → ((t : ℕ) → t < most_sessions → get_or f.clicks t false ≡ (member config t).clicks)
    → pointed ≡ option_map (λ v. v.sid) (owner (bar_rows config) stack (pointer (with_pointer f dev)))
    → IfSome pointed (λ t. t < most_sessions) → focusing.routing_at f pointed dev ≡ route config f.input stack dev
unfolding route
same_route config stack f dev pointed screen clicks at known =
    λ i. routing ((by_setting pointed known ∙ ap (clicks_on config) (at ∙ here)) i) ((at ∙ here) i)
    (pointer_after (screen.0 i) (screen.1 i) f.input dev) dev
  where
    by_setting : (o : Option ℕ) → IfSome o (λ t. t < most_sessions) → clicks_on_list f.clicks o ≡ clicks_on config o
    by_setting None p = refl
    by_setting (Some t) p = clicks t p

    here : option_map (λ v. v.sid) (owner (bar_rows config) stack (pointer (with_pointer f dev)))
        ≡ option_map (λ v. v.sid) (owner (bar_rows config) stack
        (pointer (pointer_after config.width config.height f.input dev)))
    here = λ i. option_map (λ (v : View). v.sid)
        (owner (bar_rows config) stack (pointer (pointer_after (screen.0 i) (screen.1 i) f.input dev)))

-- ---- what is delivered

pub delivered_all : (r : Routed) (ss : List Session)
    → delivered (delivery r.c) (delivered (delivery r.b) (delivered (delivery r.a) ss)) ≡ delivered (deliveries_of r) ss
delivered_all r ss = grind arith

pub restacked_all : (r : Routed) (vs : List View)
    → after_deliveries (delivery r.c) (after_deliveries (delivery r.b) (after_deliveries (delivery r.a) vs))
    ≡ after_deliveries (deliveries_of r) vs
restacked_all r vs = grind arith

-- a session that heard so many items
pub record IsHeard (n : ℕ) (old new : Session) : Type 0 where
  pub next : new.next ≡ old.next
  pub lost : new.lost ≤ old.lost + n

heard_queued : (b : Bool) (e : Event) (s : Session)
    → IsHeard 1 s (cond b (record s { queue = s.queue ++ e ∷ [] }) (record s { lost = s.lost + 1 }))
heard_queued true e s = record { next = refl; lost = omega arith }
heard_queued false e s = record { next = refl; lost = omega arith }

heard_given : (i : Item) (s : Session) → IsHeard 1 s (given i s)
heard_given (item.Event e) s = heard_queued (nat_lt (length s.queue) 64) e s
heard_given item.Kill s = record { next = refl; lost = omega arith }

heard_none : (n : ℕ) (s : Session) → IsHeard n s s
heard_none n s = record { next = refl; lost = omega arith }

heard : (h : Status) (i : Item) (s : Session) → IsHeard 1 s (by_life h i s)
heard status.Live i s = heard_given i s
heard other i s = heard_none 1 s

heard_in : (ss : List Session) (d : Delivery) (t : ℕ)
    → IsHeard 1 (session_in ss t) (session_in (set ss d.sid (receive (session_in ss d.sid) d.item)) t)
heard_in ss d t =
    put_there (IsHeard 1 (session_in ss t)) ss d.sid t _
    (λ same _. rw (← same) (heard (session_in ss d.sid).status d.item (session_in ss d.sid))) (heard_none 1 _)

pub heard_one : (o : Option Delivery) (ss : List Session) (t : ℕ)
    → IsHeard 1 (session_in ss t) (session_in (delivered (delivery o) ss) t)
heard_one None ss t = heard_none 1 (session_in ss t)
heard_one (Some d) ss t = heard_in ss d t

pub heard_all : (r : Routed) (ss : List Session) (t : ℕ)
    → IsHeard 3 (session_in ss t) (session_in (delivered (deliveries_of r) ss) t)
heard_all r ss t =
    let one = heard_one r.a ss t in
    let two = heard_one r.b (delivered (delivery r.a) ss) t in
    let three = heard_one r.c (delivered (delivery r.b) (delivered (delivery r.a) ss)) t in
    rw (← delivered_all r ss) (record {
      next = omega (arith, one.next, two.next, three.next);
      lost = omega (arith, one.lost, two.lost, three.lost);
    })

abbrev pub heard_by : Option Delivery → ReplayModel → ReplayModel
heard_by o r = record r { sessions = delivered (delivery o) r.sessions; stack = after_deliveries (delivery o) r.stack }

pub input_played : (config : Configuration) (dev : Device) (told routed : Routed) (old r0 r1 r2 r3 new : ReplayModel)
    → IsReplay config old → told ≡ routed → told ≡ routed_as (replay_routing config old dev).deliveries
    → deliveries_of told ≡ (replay_routing config old dev).deliveries
    → r0 ≡ record old { focus = record old.focus { input = (replay_routing config old dev).state } }
    → r1 ≡ heard_by told.a r0 → r2 ≡ heard_by told.b r1 → r3 ≡ heard_by told.c r2
    → new ≡ record r3 { count = r3.count + 1 } → HasReplayed config (entry.Input dev routed) old new
input_played config dev told routed old r0 r1 r2 r3 new h same as_told all e0 e1 e2 e3 e4 =
    rw (e4, e3, e2, e1, e0, delivered_all told old.sessions, restacked_all told old.stack) (record {
      agrees = rw (← same) as_told;
      state = rw all refl;
      shots = refl;
      kept = record {
        screen = h.screen;
        clicks = h.clicks;
        each = rw delivered_length h.each;
        few = h.few;
        next = λ u. omega (arith, (heard_all told old.sessions u).next, h.next u);
        lost = λ u. omega (arith, (heard_all told old.sessions u).lost, h.lost u);
        shots = omega (arith, h.shots);
      };
      count = refl;
    })

-- what is left to do and the phase, after an entry
abbrev worked : UnderwayModel → Entry → UnderwayModel
worked old (entry.Call sid call r) =
    record old {
      clients = set old.clients sid (left (to_do old.clients sid));
      phase = next_phase (to_do old.clients sid);
    }
worked old entry.Final = old
worked old other = record old { user = left old.user; phase = next_phase old.user }

audit_on : (config : Configuration) (e : Entry) (old : UnderwayModel) (now : ReplayModel)
    → HasReplayed config e old.replay now
    → audited config (record (worked old e) { replay = now }) ≡ followed (audited config old) e
audit_on config entry.Final old now h = λ i. record (audited config old) { state = h.state i; taken = h.shots i }
audit_on config other old now h =
    λ i. record (followed (audited config old) other) { state = h.state i; taken = h.shots i }

pub follows : (config : Configuration) (e : Entry) (old mid : UnderwayModel) (now : ReplayModel) (b : Bool)
    → mid ≡ worked old e → IsDue (audited config old) e → IsReplayAnswer config e old.replay now b
    → IsFollowing config e old (record mid { replay = now }) b
follows config e old mid now true is due step = rw is (record {
  may = record { due = due; agrees = step.agrees };
  audit = audit_on config e old now step;
  kept = step.kept;
  count = step.count;
})
follows config e old mid now false is due step = λ may. step may.agrees

pub if_ok : {A B : Type 0} (P Q : A → Type 0) (r : Result A B) → ((a : A) → P a → Q a) → IfOk r P → IfOk r Q
if_ok P Q (Ok a) f h = f a h
if_ok P Q (Err e) f h = tt

pub record IsFresh (s : Session) : Type 0 where
  pub next : s.next ≡ 1
  pub lost : s.lost ≡ 0

pub fresh : (ms : List Member) (t : ℕ) → IsFresh (session_in (map (λ m. first_session m.donation) ms) t)
fresh [] t = record { next = refl; lost = refl }
fresh (m ∷ ms) zero = record { next = refl; lost = refl }
fresh (m ∷ ms) (suc t) = let f = fresh ms t in record { next = f.next; lost = f.lost }
