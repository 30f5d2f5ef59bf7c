-- What the entries of a journal do to the list of sessions.
use Rattle.nit_journal.proofs.Basics.{Answered, Call, Configuration, Delivery, Entry, Event, Member}
use Rattle.nit_journal.proofs.Basics.{Reply, Session, State, Status, Take, accepted, after}
use Rattle.nit_journal.proofs.Basics.{answered, by_call, by_handle, by_quota, by_refusal}
use Rattle.nit_journal.proofs.Basics.{by_reserve, by_status, delivered, donation_of, eq-eqb}
use Rattle.nit_journal.proofs.Basics.{first_session, first_state, get_or-map, has_view, is_accepted}
use Rattle.nit_journal.proofs.Basics.{leb-false, leb-true, length-map, nat_tests, ne_eqb, receive}
use Rattle.nit_journal.proofs.Basics.{refusal, replay, replay_from, route, session, session_in}
use Rattle.nit_journal.proofs.Basics.{taking, unless, ◌orelse◌}
use Rattle.std.proofs.Common.{Bool, IfSome, List, None, Option, Some, [], ap, arith, false, get_or}
use Rattle.std.proofs.Common.{get_or-set_other, get_or-set_same, length, length-set, nat_le, refl}
use Rattle.std.proofs.Common.{set, suc, true, zero, ℕ, ◌<◌, ◌==◌, ◌∙◌, ◌∷◌, ◌≡◌, ◌≤◌}
use Rattle.nit_events.specs.declared.entry.Entry.TheVariants as entry
use Rattle.nit_journal.specs.Session.{serve}
use Rattle.nit_events.specs.declared.call.Reply.TheVariants as reply
use Rattle.nit_events.specs.declared.event.Status.TheVariants as status

-- ---- before the first entry

pub opens : (config : Configuration) (s : ℕ) → s < length config.clients
    → session (first_state config) s ≡ first_session (donation_of config s)
opens config s lt = grind (arith, nat_tests, get_or-map)

pub there_at_first : (config : Configuration) (s : ℕ) → s < length config.clients
    → s < length (first_state config).sessions
there_at_first config s lt = omega (arith, length-map config.clients (λ (m : Member). first_session m.donation))

-- ---- one session changes

-- what holds of an element, and of what is put there
pub after_set : {A : Type 0} (P : A → Type 0) (xs : List A) (i j : ℕ) (y d : A) → (i ≡ j → P y) → P (get_or xs j d)
    → P (get_or (set xs i y) j d)
after_set P [] i j y d new old = old
after_set P (x ∷ xs) zero zero y d new old = new refl
after_set P (x ∷ xs) zero (suc j) y d new old = old
after_set P (x ∷ xs) (suc i) zero y d new old = old
after_set P (x ∷ xs) (suc i) (suc j) y d new old = after_set P xs i j y d (λ e. new (ap suc e)) old

-- the same where the test that it is the session is part of what holds
pub at_change : (P : Bool → Session → Type 0) (f : Session → Session) (sessions : List Session) (sid x : ℕ)
    → x < length sessions → (sid ≡ x → P true (f (session_in sessions x))) → P false (session_in sessions x)
    → P (sid == x) (session_in (set sessions sid (f (session_in sessions sid))) x)
at_change P f sessions sid x lt own other = grind (arith, nat_tests, eq-eqb, get_or-set_same, ne_eqb, get_or-set_other)

-- ---- any entry

-- the sessions after one delivery
abbrev pub handed : Delivery → List Session → List Session
handed d sessions = set sessions d.sid (receive (session_in sessions d.sid) d.item)

pub delivered_length : (ds : List Delivery) (sessions : List Session) → length (delivered ds sessions) ≡ length sessions
delivered_length [] sessions = refl
delivered_length (d ∷ ds) sessions = grind (arith, nat_tests, delivered_length ds (handed d sessions), length-set)

-- no entry adds a session or takes one away
pub as_many : (s : State) (e : Entry) → length (after s e).sessions ≡ length s.sessions
as_many s (entry.Call sid call r) = length-set s.sessions sid (serve (session s sid) call).session
as_many s (entry.Input dev routed) = delivered_length (route s.config s.input s.stack dev).deliveries s.sessions
as_many s other = refl

pub still_there : (s : State) (e : Entry) (x : ℕ) → x < length s.sessions → x < length (after s e).sessions
still_there s e x lt = rw (as_many s e) lt

-- ---- a whole journal

-- no entry changes the configuration
pub same_config : (s : State) (e : Entry) → (after s e).config ≡ s.config
same_config s (entry.Call sid call r) = refl
same_config s other = refl

pub kept_config : (s : State) (journal : List Entry) → (replay_from s journal).config ≡ s.config
kept_config s [] = refl
kept_config s (e ∷ journal) = kept_config (after s e) journal ∙ same_config s e

kept_many : (s : State) (journal : List Entry) → length (replay_from s journal).sessions ≡ length s.sessions
kept_many s [] = refl
kept_many s (e ∷ journal) = kept_many (after s e) journal ∙ as_many s e

pub same_throughout : (config : Configuration) (journal : List Entry) → (replay config journal).config ≡ config
same_throughout config journal = kept_config (first_state config) journal

pub as_many_as_clients : (config : Configuration) (journal : List Entry) → length (replay config journal).sessions
    ≡ length config.clients
as_many_as_clients config journal = grind (arith, nat_tests, kept_many, length-map)

-- ---- a call that is refused, and one that is not

pub serve_refused : (s : Session) (c : Call) (r : Reply) → refusal s c ≡ Some r → serve s c ≡ answered r s
unfolding serve
serve_refused s c r refused = rw refused refl

pub serve_accepted : (s : Session) (c : Call) → refusal s c ≡ None → serve s c ≡ accepted s c
unfolding serve
serve_accepted s c none = rw none refl

-- ---- what it means that there is no refusal

pub holds_of : (b : Bool) (r : Reply) → unless b r ≡ None → b ≡ true
holds_of true r none = refl
holds_of false r none = cc

pub first_none : (p q : Option Reply) → (p orelse q) ≡ None → p ≡ None
first_none None q none = refl
first_none (Some r) q none = cc

pub second_none : (p q : Option Reply) → (p orelse q) ≡ None → q ≡ None
second_none None q none = none
second_none (Some r) q none = cc

pub within_quota : (need left : ℕ) → by_quota need left ≡ None → need ≤ left
within_quota need left none = leb-true need left (holds_of (nat_le need left) (reply.OutOfQuota need left) none)

pub within_reserve : (need left : ℕ) → by_reserve need left ≡ None → need ≤ left
within_reserve need left none = leb-true need left (holds_of (nat_le need left) (reply.NoReserve need left) none)

-- ---- a session that is over refuses every call

-- so an answer of which this holds is that of a live session
pub live_if : (Q : Answered → Type 0) (t : Session) (call : Call)
    → (Q (answered reply.Closed t) → t.status ≡ status.Live) → (Q (answered reply.Killed t) → t.status ≡ status.Live)
    → Q (serve t call) → t.status ≡ status.Live
unfolding serve
live_if Q t call closed killed = in_status t.status refl
  where
    in_status : (was : Status) → t.status ≡ was → Q (by_refusal t call (by_status was orelse by_call t call))
        → t.status ≡ status.Live
    in_status status.Live is q = is
    in_status status.Closed is q = closed q
    in_status status.Killed is q = killed q

-- ---- no refusal is an acceptance, and where it says what is needed less is left

abbrev pub IsShort : Reply → Type 0
IsShort (reply.OutOfQuota need left) = left < need
IsShort (reply.NoReserve need left) = left < need
IsShort other = Unit {0}

IsRefusal : Option Reply → Type 0
IsRefusal o = IfSome o (λ r. (is_accepted r ≡ false) × IsShort r)

first_of : (p q : Option Reply) → IsRefusal p → IsRefusal q → IsRefusal (p orelse q)
unfolding IsRefusal
first_of None q hp hq = hq
first_of (Some r) q hp hq = hp

where_not : (b : Bool) (r : Reply) → is_accepted r ≡ false → (b ≡ false → IsShort r) → IsRefusal (unless b r)
unfolding IsRefusal
where_not true r refuses short = tt
where_not false r refuses short = (refuses, short refl)

of_status : (s : Status) → IsRefusal (by_status s)
unfolding IsRefusal
of_status status.Live = tt
of_status other = (refl, tt)

of_handle : (s : Session) (v : ℕ) → IsRefusal (by_handle s v)
of_handle s v = where_not (has_view s v) (reply.NoSuchView v) refl (λ e. tt)

of_shape : (b : Bool) (r : Reply) → is_accepted r ≡ false → IsShort r → IsRefusal (unless b r)
of_shape b r refuses short = where_not b r refuses (λ e. short)

of_quota : (need left : ℕ) → IsRefusal (by_quota need left)
of_quota need left = where_not (nat_le need left) (reply.OutOfQuota need left) refl (leb-false need left)

of_reserve : (need left : ℕ) → IsRefusal (by_reserve need left)
of_reserve need left = where_not (nat_le need left) (reply.NoReserve need left) refl (leb-false need left)

none : IsRefusal None
unfolding IsRefusal
none = tt

ruleset refusals = (none, first_of, of_handle, of_quota, of_reserve, of_shape)

of_call : (s : Session) (call : Call) → IsRefusal (by_call s call)
of_call s Take = none
of_call s call = search refusals

of_both : (s : Session) (call : Call) → IsRefusal (refusal s call)
of_both s call = first_of (by_status s.status) (by_call s call) (of_status s.status) (of_call s call)

pub refused_reply : (s : Session) (call : Call) (r : Reply) → refusal s call ≡ Some r → is_accepted r ≡ false
unfolding IsRefusal
refused_reply s call r is = (rw is at (of_both s call)).0

-- ---- what an accepted call answers

pub taken_reply : (q : List Event) (s : Session) → is_accepted (taking q s).reply ≡ true
taken_reply [] s = refl
taken_reply (e ∷ es) s = refl

pub accepted_reply : (s : Session) (call : Call) → is_accepted (accepted s call).reply ≡ true
accepted_reply s Take = taken_reply s.queue s
accepted_reply s other = refl

pub short_answer : (t : Session) (call : Call) → IsShort (serve t call).reply
unfolding serve IsRefusal
short_answer t call = unless_refused (refusal t call) (of_both t call)
  where
    taken : (queue : List Event) → IsShort (taking queue t).reply
    taken [] = tt
    taken (e ∷ es) = tt

    let_in : (call : Call) → IsShort (accepted t call).reply
    let_in Take = taken t.queue
    let_in other = tt

    unless_refused : (o : Option Reply) → IsRefusal o → IsShort (by_refusal t call o).reply
    unless_refused (Some r) h = h.1
    unless_refused None h = let_in call
