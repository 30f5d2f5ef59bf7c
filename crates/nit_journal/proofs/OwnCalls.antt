-- While a session is live, the user's input is seen in its queue and its losses alone. The rest of it is as its
-- calls alone would have it.
use Rattle.nit_journal.proofs.Basics.{Agrees, Answered, Call, Close, Configuration, Delivery, Entry}
use Rattle.nit_journal.proofs.Basics.{Event, IsLegal, Item, Reply, Session, State, Status, Take}
use Rattle.nit_journal.proofs.Basics.{accepted, after, after_calls, arith, by_life, by_refusal}
use Rattle.nit_journal.proofs.Basics.{by_status, calls_of, delivered, donation_of, first_session}
use Rattle.nit_journal.proofs.Basics.{first_state, nat_tests, own_machine, receive, refusal, replay}
use Rattle.nit_journal.proofs.Basics.{replay_from, route, session, session_in, shots, taking}
use Rattle.nit_journal.proofs.Basics.{◌orelse◌}
use Rattle.std.proofs.Common.{Bool, List, None, Option, Some, [], ap, append-nil, false}
use Rattle.std.proofs.Common.{if◌then◌else◌, length, refl, sym, true, ℕ, ◌++◌, ◌+◌, ◌<◌, ◌∙◌, ◌∷◌}
use Rattle.std.proofs.Common.{◌≡◌, ◌≢◌}
use Rattle.nit_journal.specs.Session.{serve}
use Rattle.nit_events.specs.declared.event.Item.TheVariants as item
use Rattle.nit_events.specs.declared.event.Status.TheVariants as status
use Rattle.nit_events.specs.declared.entry.Entry.TheVariants as entry
use Rattle.nit_journal.proofs.SessionLists.{IsShort, after_set, as_many_as_clients, at_change}
use Rattle.nit_journal.proofs.SessionLists.{handed, live_if, opens, short_answer, still_there}
use Rattle.nit_journal.proofs.SessionLists.{there_at_first}
use Rattle.nit_events.specs.declared.call.Reply.TheVariants as reply
use Rattle.nit_journal.proofs.JournalFronts.{agrees_behind}

-- without its queue and its losses
abbrev quiet : Session → Session
quiet t = record t { queue = []; lost = 0 }

-- if the first is live, the two differ in no more
abbrev Matches : Session → Session → Type 0
Matches t u = t.status ≡ status.Live → quiet t ≡ quiet u

-- ---- one call

-- what a call leaves does not come from queue and losses, nor does an answer that takes no event
abbrev AreAlike : Call → Answered → Answered → Type 0
AreAlike call a b = (quiet a.session ≡ quiet b.session) × (call ≢ Take → a.reply ≡ b.reply)

quiet_taking : (queue : List Event) (t : Session) → quiet (taking queue t).session ≡ quiet t
quiet_taking [] t = refl
quiet_taking (event ∷ events) t = refl

alike_accepted : (t : Session) (call : Call) → AreAlike call (accepted t call) (accepted (quiet t) call)
alike_accepted t Take = (quiet_taking t.queue t, λ other. absurd (other refl))
alike_accepted t call = (refl, λ other. refl)

-- no refusal looks at the queue
quiet_refusal : (t : Session) (call : Call) → refusal t call ≡ refusal (quiet t) call
quiet_refusal t Take = refl
quiet_refusal t other = refl

alike : (t : Session) (call : Call) → AreAlike call (serve t call) (serve (quiet t) call)
unfolding serve
alike t call = rw (quiet_refusal t call) (unless_refused (refusal (quiet t) call))
  where
    unless_refused : (o : Option Reply) → AreAlike call (by_refusal t call o) (by_refusal (quiet t) call o)
    unless_refused (Some r) = (refl, λ other. refl)
    unless_refused None = alike_accepted t call

matches_served : (t u : Session) (call : Call) → Matches t u → Matches (serve t call).session (serve u call).session
matches_served t u call h live =
    let before = live_if (λ a. a.session.status ≡ status.Live) t call (λ e. e) (λ e. e) live in
    (alike t call).0 ∙ ap (λ (v : Session). quiet (serve v call).session) (h before) ∙ sym (alike u call).0

-- ---- one item

received_by : (t u : Session) (i : Item) (was : Status) → t.status ≡ was → Matches t u → Matches (by_life was i t) u
received_by t u (item.Event e) status.Live was h live = grind (arith, h was)
received_by t u item.Kill status.Live was h live = cc
received_by t u i status.Closed was h live = h live
received_by t u i status.Killed was h live = h live

matches_received : (t u : Session) (i : Item) → Matches t u → Matches (receive t i) u
matches_received t u i h = received_by t u i t.status refl h

-- ---- all entries

matches_delivered : (ds : List Delivery) (sessions : List Session) (u : Session) (x : ℕ)
    → Matches (session_in sessions x) u → Matches (session_in (delivered ds sessions) x) u
matches_delivered [] sessions u x h = h
matches_delivered (d ∷ ds) sessions u x h =
    matches_delivered ds (handed d sessions) u x
    (after_set (λ t. Matches t u) sessions d.sid x (receive (session_in sessions d.sid) d.item) (first_session 0)
    (λ own. matches_received (session_in sessions d.sid) u d.item (rw own h)) h)

matches_replayed : (journal : List Entry) (s : State) (u : Session) (x : ℕ) → x < length s.sessions
    → Matches (session s x) u → Matches (session (replay_from s journal) x) (after_calls u (calls_of x journal))
matches_replayed [] s u x lt h = h
matches_replayed (entry.Call sid call r ∷ rest) s u x lt h =
    let e = entry.Call sid call r in
    let calls = calls_of x rest in
    let now = session (replay_from (after s e) rest) x in
    at_change (λ b t. ((v : Session) → Matches t v → Matches now (after_calls v calls))
    → Matches now (after_calls u (if b then call ∷ calls else calls)))
    (λ t. (serve t call).session) s.sessions sid x lt
    (λ own later. later (serve u call).session (matches_served (session s x) u call h)) (λ later. later u h)
    (λ v. matches_replayed rest (after s e) v x (still_there s e x lt))
matches_replayed (entry.Input dev routed ∷ rest) s u x lt h =
    let e = entry.Input dev routed in
    matches_replayed rest (after s e) u x (still_there s e x lt)
    (matches_delivered (route s.config s.input s.stack dev).deliveries s.sessions u x h)
matches_replayed (other ∷ rest) s u x lt h = matches_replayed rest s u x lt h

matches_calls : (config : Configuration) (journal : List Entry) (s : ℕ) → s < length config.clients
    → Matches (session (replay config journal) s) (own_machine config s journal)
matches_calls config journal s lt = matches_replayed journal (first_state config) (first_session (donation_of config s))
    s (there_at_first config s lt) (λ live. ap quiet (opens config s lt))

pub as_its_calls_have_it : (config : Configuration) (journal : List Entry) (s : ℕ) → s < length config.clients
    → (session (replay config journal) s).status ≡ status.Live
    → session (replay config journal) s
    ≡ record (own_machine config s journal) {
      queue = (session (replay config journal) s).queue;
      lost = (session (replay config journal) s).lost;
    }
as_its_calls_have_it config journal s lt live = grind (arith, nat_tests, matches_calls)

pub answered_alike : (config : Configuration) (journal : List Entry) (s : ℕ) → s < length config.clients
    → (session (replay config journal) s).status ≡ status.Live
    → (call : Call) → (call ≡ Take → ⊥) → (serve (session (replay config journal) s) call).reply
    ≡ (serve (own_machine config s journal) call).reply
answered_alike config journal s lt live call other = grind (arith, nat_tests, alike, matches_calls)

-- events are taken from the front of a queue, and none is put in
abbrev pub IsTaken : List Event → List Event → Type 0
IsTaken before now = (taken : List Event) × (before ≡ taken ++ now)

taken_by : (queue : List Event) (t : Session) → t.queue ≡ queue → IsTaken t.queue (taking queue t).session.queue
taken_by [] t e = ([], refl)
taken_by (event ∷ events) t e = (event ∷ [], e)

taken_accepted : (t : Session) (call : Call) → IsTaken t.queue (accepted t call).session.queue
taken_accepted t Take = taken_by t.queue t refl
taken_accepted t Close = (t.queue, sym (append-nil t.queue))
taken_accepted t other = ([], refl)

pub taken_served : (t : Session) (call : Call) → IsTaken t.queue (serve t call).session.queue
unfolding serve
taken_served t call = unless_refused (refusal t call)
  where
    unless_refused : (refused : Option Reply) → IsTaken t.queue (by_refusal t call refused).session.queue
    unless_refused (Some r) = ([], refl)
    unless_refused None = taken_accepted t call

-- the reply is a refusal for want of quota or reserve
abbrev pub is_lack : Reply → Bool
is_lack (reply.OutOfQuota need left) = true
is_lack (reply.NoReserve need left) = true
is_lack other = false

-- to take an event costs nothing
no_take : (t : Session) (call : Call) → is_lack (serve t call).reply ≡ true → call ≢ Take
unfolding serve
no_take t call lack take = by_status_and_queue t.status t.queue (rw take at lack)
  where
    by_status_and_queue : (was : Status) (queue : List Event)
        → is_lack (by_refusal (record t { queue = queue }) Take (by_status was orelse None)).reply ≡ true → ⊥
    by_status_and_queue status.Live [] lack = cc
    by_status_and_queue status.Live (e ∷ es) lack = cc
    by_status_and_queue status.Closed queue lack = cc
    by_status_and_queue status.Killed queue lack = cc

-- ---- in a legal journal

pub lacks_by_itself : (config : Configuration) (front rest : List Entry) (sid : ℕ) (call : Call) (r : Reply)
    → is_lack r ≡ true → IsLegal config (front ++ entry.Call sid call r ∷ rest)
    → IsShort r × ((serve (own_machine config sid front) call).reply ≡ r)
lacks_by_itself config front rest sid call r lack legal =
    let now = session (replay config front) sid in
    let agrees : Agrees (replay config front) (shots front) (entry.Call sid call r) =
    agrees_behind config front (entry.Call sid call r) rest legal in
    let inside : sid < length config.clients = rw (← as_many_as_clients config front) agrees.0 in
    let lacking : is_lack (serve now call).reply ≡ true = rw agrees.1 at lack in
    let live = live_if (λ a. is_lack a.reply ≡ true) now call (λ e. cc) (λ e. cc) lacking in
    let alike = answered_alike config front sid inside live call (no_take now call lacking) in
    (rw agrees.1 (short_answer now call), sym alike ∙ sym agrees.1)
