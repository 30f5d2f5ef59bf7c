-- Handles do not come to their end: a call makes one view at most, and none but `View` makes one.
use Rattle.std.proofs.Common.{List, None, Some, [], ap, arith, cond, false, get_or}
use Rattle.std.proofs.Common.{get_or-set_other, get_or-set_same, length, map, refl, replicate, set}
use Rattle.std.proofs.Common.{suc, sym, true, zero, ℕ, ◌*◌, ◌+◌, ◌-◌, ◌<◌, ◌^◌, ◌∙◌, ◌∷◌, ◌≡◌, ◌≢◌}
use Rattle.std.proofs.Common.{◌≤◌}
use Rattle.nit_desktop.proofs.Basics.{Agrees, All-nil, Answered, AreBelowNext, AreInked, AreLive}
use Rattle.nit_desktop.proofs.Basics.{AreRaw, Call, Close, Configuration, Device, Entry}
use Rattle.nit_desktop.proofs.Basics.{HaveOwnNames, IsDesktop, IsNewlyNamed, Member, Painted, Reply}
use Rattle.nit_desktop.proofs.Basics.{Routed, Session, Sight, State, Take, View, accepted, after}
use Rattle.nit_desktop.proofs.Basics.{asks_view, bare_everywhere, bare_word, by_refusal, cases_eq}
use Rattle.nit_desktop.proofs.Basics.{clean_seen, clean_words, delivered_keeps_next, dirty}
use Rattle.nit_desktop.proofs.Basics.{donation_of, ended, entry_loses, ext_get_or, first_input}
use Rattle.nit_desktop.proofs.Basics.{first_session, first_state, get_or-map, get_or-replicate}
use Rattle.nit_desktop.proofs.Basics.{get_or_default, input_after_call, layer, length-map}
use Rattle.nit_desktop.proofs.Basics.{length-set, opened, pixel, refusal, route}
use Rattle.nit_desktop.proofs.Basics.{serve_accepted, session, session_in, taking_keeps_next}
use Rattle.nit_desktop.proofs.Basics.{vacant_state}
use Rattle.nit_journal.specs.Session.{serve}
use Rattle.nit_journal.specs.StackAfter.{stack_after_call}
use Rattle.nit_events.specs.declared.entry.Entry.TheVariants as entry
use Rattle.nit_events.specs.declared.call.Call.TheVariants as call
use Rattle.nit_events.specs.declared.call.Reply.TheVariants as reply
use Rattle.nit_events.specs.declared.event.Status.TheVariants as status

-- how many views a call makes at most
abbrev made : Call → ℕ
made c = cond {A = ℕ} (asks_view c) 1 0

accepted_makes : (t : Session) (c : Call) → (accepted t c).session.next ≤ t.next + made c
accepted_makes t call.View = omega arith
accepted_makes t Take = omega (arith, taking_keeps_next t.queue t)
accepted_makes t other = omega arith

serve_makes : (t : Session) (c : Call) → (serve t c).session.next ≤ t.next + made c
unfolding serve
serve_makes t c = elim (refusal t c) as (λ refused. (by_refusal t c refused).session.next ≤ t.next + made c)
    [ Some r ↦ omega arith | None ↦ accepted_makes t c ]

still_below : (t : Session) (c : Call) → t.next < 2 ^ 32 - 1 → (asks_view c ≡ true → t.next < 2 ^ 32 - 2)
    → (serve t c).session.next < 2 ^ 32 - 1
still_below t c below room = grind (arith, serve_makes t c, room, below)

pub call_keeps_handles : (s : State) (sid : ℕ) (c : Call) (r : Reply) (t : ℕ) → sid < length s.sessions
    → ((u : ℕ) → (session s u).next < 2 ^ 32 - 1) → (asks_view c ≡ true → (session s sid).next < 2 ^ 32 - 2)
    → (session (after s (entry.Call sid c r)) t).next < 2 ^ 32 - 1
call_keeps_handles s sid c r t lt below room =
    let now = (serve (session s sid) c).session in
    let here = get_or-set_same s.sessions sid now (first_session 0) lt in
    let others = get_or-set_other s.sessions sid t now (first_session 0) in
    grind (arith, cases_eq t sid, here, others, below t, still_below (session s sid) c (below sid) room)

pub input_keeps_handles : (s : State) (dev : Device) (routed : Routed) (t : ℕ)
    → ((u : ℕ) → (session s u).next < 2 ^ 32 - 1) → (session (after s (entry.Input dev routed)) t).next < 2 ^ 32 - 1
input_keeps_handles s dev routed t below =
    omega (arith, below t, delivered_keeps_next (route s.config s.input s.stack dev).deliveries s.sessions t)

-- ==== A screen that keeps no journal, after one step more.

-- what the laws say
abbrev pub StaysLive : Type 0
StaysLive = (s : State) (taken : ℕ) (e : Entry) → AreLive s → Agrees s taken e → AreLive (after s e)

abbrev pub StaysRaw : Type 0
StaysRaw = (s : State) (taken : ℕ) (e : Entry) (glasses glasses_after : ℕ → Sight) (raw raw_after : List ℕ)
    → Agrees s taken e
    → Painted s e (after s e) glasses glasses_after raw raw_after → AreRaw s raw → AreRaw (after s e) raw_after

abbrev pub StaysInked : Type 0
StaysInked = (s : State) (taken : ℕ) (e : Entry) (glasses glasses_after : ℕ → Sight) (raw raw_after : List ℕ)
    → Agrees s taken e
    → Painted s e (after s e) glasses glasses_after raw raw_after → AreInked s glasses raw
    → AreInked (after s e) glasses_after raw_after

pub record StaysNamed : Type 0 where
  pub own : (s : State) (e : Entry) → HaveOwnNames s.stack → IsNewlyNamed e s.stack → HaveOwnNames (after s e).stack
  pub new : (s : State) (taken : ℕ) (e : Entry) → AreBelowNext s → Agrees s taken e → IsNewlyNamed e s.stack
  pub below : (s : State) (taken : ℕ) (e : Entry) → AreBelowNext s → Agrees s taken e → AreBelowNext (after s e)

module _ {s s' : State} {left : ℕ} {raw : List ℕ} (e : Entry) (raw' : List ℕ) (h : IsDesktop s raw left)
    (is : s' ≡ after s e)
    (agrees : Agrees s 0 e) (glasses glasses' : ℕ → Sight) (painted : Painted s e s' glasses glasses' raw raw') where
  pub raw_again : StaysRaw → AreRaw s' raw'
  raw_again law = rw is (law s 0 e glasses glasses' raw raw' agrees (rw is at painted) h.raw_words)

  pub inks_again : StaysInked → AreInked s glasses raw → AreInked s' glasses' raw'
  inks_again law inks = rw is (law s 0 e glasses glasses' raw raw' agrees (rw is at painted) inks)

  pub goes_on : StaysLive → StaysRaw → StaysNamed → ((t : ℕ) → (session (after s e) t).next < 2 ^ 32 - 1) → 1 ≤ left
      → IsDesktop s' raw' (left - 1)
  goes_on stays raws names handled one = rw is (record {
    handles = handled;
    live = stays s 0 e h.live agrees;
    raw_words = rw is at (raw_again raws);
    named = (names.own s e h.named.0 (names.new s 0 e h.named.1 agrees), names.below s 0 e h.named.1 agrees);
    lost = λ t. omega (arith, one, entry_loses s e t, h.lost t);
  })

-- ==== A desktop before its first step, and where a session opens again.

abbrev no_client : Member
no_client = record { label = []; donation = 0; script = []; layer = 0; clicks = false }

pub begins : (s : State) (config : Configuration) (raw : List ℕ) → ((c : Configuration) → AreLive (first_state c))
    → s ≡ first_state config → raw ≡ replicate (config.width * config.height) bare_word
    → IsDesktop s raw 4611686018427387904
begins s config raw first is words = rw (is, words) (record {
  live = first config;
  raw_words = λ k l. rw (bare_everywhere config (pixel config.width k))
      (get_or-replicate (config.width * config.height) k bare_word 0 l);
  named = (tt, All-nil (λ (v : View). v.handle < (session (first_state config) v.sid).next));
  lost = λ t.
      let opened = get_or-map (λ (m : Member). first_session m.donation) config.clients t no_client in
      omega (arith, ap (λ (u : Session). u.lost) opened);
  handles = λ t.
      let opened = get_or-map (λ (m : Member). first_session m.donation) config.clients t no_client in
      omega (arith, ap (λ (u : Session). u.next) opened);
})

-- what holds of the state holds again where a session opens
pub opens_on : (s : State) (sid : ℕ) (label : List ℕ) (raw : List ℕ) (left : ℕ) → sid < length s.sessions
    → AreLive (opened sid label s) → AreRaw (opened sid label s) raw → AreBelowNext (opened sid label s)
    → IsDesktop s raw left → IsDesktop (opened sid label s) raw left
opens_on s sid label raw left lt live words below d = record {
  live = live;
  raw_words = words;
  named = (d.named.0, below);
  handles = λ t. grind (arith, cases_eq t sid, here, others t, d.handles t);
  lost = λ t. grind (arith, cases_eq t sid, here, others t, d.lost t);
}
  where
    begun : Session
    begun = first_session (Rattle.nit_config.specs.Configuration.donation_of s.config sid)

    here : session (opened sid label s) sid ≡ begun
    here = get_or-set_same s.sessions sid begun (first_session 0) lt

    others : (t : ℕ) → t ≢ sid → session (opened sid label s) t ≡ session s t
    others t other = get_or-set_other s.sessions sid t begun (first_session 0) other

-- ==== A desktop on which nothing was done yet, whose sessions are closed one after the other.

-- a session that just opened closes
abbrev pub closed_first : ℕ → Session
closed_first d = ended status.Closed (first_session d)

bare_still : (layers : ℕ → ℕ) (sid : ℕ) (r : Reply) → stack_after_call layers sid call.Close r [] ≡ []
unfolding stack_after_call
bare_still layers sid r = grind arith

module _ (s : State) (sid d : ℕ) (r : Reply) (first : session s sid ≡ first_session d) (bare : s.stack ≡ [])
    (idle : s.input ≡ first_input) (answer : r ≡ (serve (session s sid) call.Close).reply) where
  served : serve (session s sid) call.Close ≡ record { reply = reply.Done; session = closed_first d }
  served = ap (λ (t : Session). serve t call.Close) first ∙ serve_accepted (first_session d) call.Close refl

  done : r ≡ reply.Done
  done = answer ∙ ap (λ (a : Answered). a.reply) served

  pub closes : after s (entry.Call sid call.Close r) ≡ record s { sessions = set s.sessions sid (closed_first d) }
  closes = λ i. record s {
    sessions = set s.sessions sid (ap (λ (a : Answered). a.session) served i);
    stack = ((λ j. stack_after_call (layer s.config) sid call.Close r (bare j)) ∙ bare_still (layer s.config) sid r
        ∙ sym bare) i;
    input = ((λ j. input_after_call sid call.Close (done j) (idle j)) ∙ sym idle) i;
  }

  -- no pixel is dirty
  clean : (s' : State) (k : ℕ) → dirty s (entry.Call sid call.Close r) s' (pixel s.config.width k) ≡ false
  clean s' k = rw (done, bare) (grind arith)

  pub closes_clean : (s' : State) {a b : ℕ → Sight} {raw raw' : List ℕ}
      → Painted s (entry.Call sid call.Close r) s' a b raw raw' → length raw' ≡ length raw → raw' ≡ raw
  closes_clean s' painted long = clean_words _ _ _ _ _ _ _ (clean s') long painted

  pub closes_unseen : (s' : State) {a b : ℕ → Sight} {raw raw' : List ℕ}
      → Painted s (entry.Call sid call.Close r) s' a b raw raw' → (t : ℕ) → b t ≡ a t
  closes_unseen s' painted = clean_seen _ _ _ _ _ _ _ (clean s') painted

-- ---- all of them

-- those before n are closed, and those from n on have just opened
pub record AreClosedTo (config : Configuration) (n : ℕ) (s : State) : Type 0 where
  pub configured : s.config ≡ config
  pub count : length s.sessions ≡ length config.clients
  pub closed : (t : ℕ) → t < n → t < length config.clients → session s t ≡ closed_first (donation_of config t)
  pub first : (t : ℕ) → n ≤ t → session s t ≡ first_session (donation_of config t)
  pub bare : s.stack ≡ []
  pub idle : s.input ≡ first_input

pub none_closed : (config : Configuration) (s : State) → s ≡ first_state config → AreClosedTo config 0 s
none_closed config s is = rw is (record {
  configured = refl;
  count = length-map config.clients (λ (m : Member). first_session m.donation);
  closed = λ t none. absurd (omega (arith, none));
  first = λ t l. get_or-map (λ (m : Member). first_session m.donation) config.clients t no_client;
  bare = refl;
  idle = refl;
})

pub one_closed : (config : Configuration) (n : ℕ) (s s' : State) → AreClosedTo config n s → n < length config.clients
    → s' ≡ record s { sessions = set s.sessions n (closed_first (donation_of s.config n)) }
    → AreClosedTo config (n + 1) s'
one_closed config n s s' h lt is =
    let d : ℕ = donation_of s.config n in
    let here = get_or-set_same s.sessions n (closed_first d) (first_session 0) (rw h.count lt) in
    let others = λ (t : ℕ). get_or-set_other s.sessions n t (closed_first d) (first_session 0) in
    rw is (record {
      configured = h.configured;
      count = length-set s.sessions n (closed_first d) ∙ h.count;
      closed = λ t below there. grind (arith, cases_eq t n, here, others t, h.closed t, below, there, h.configured);
      first = λ t l. others t (λ e. omega (arith, l, e)) ∙ h.first t (omega (arith, l));
      bare = h.bare;
      idle = h.idle;
    })

pub all_closed : (config : Configuration) (n : ℕ) (s : State) → AreClosedTo config n s → length config.clients ≤ n
    → s ≡ vacant_state config
all_closed config n s h far = λ i. record {
  config = h.configured i;
  sessions = same i;
  stack = h.bare i;
  input = h.idle i;
}
  where
    wanted : List Session
    wanted = map (λ m. closed_first m.donation) config.clients

    same : s.sessions ≡ wanted
    same = ext_get_or (first_session 0) s.sessions wanted (h.count
        ∙ sym (length-map config.clients (λ (m : Member). closed_first m.donation)))
        (λ t l.
        let there : t < length config.clients = rw h.count at l in
        h.closed t (omega (arith, there, far)) there ∙ sym (at t there))
      where
        at : (t : ℕ) → t < length config.clients → get_or wanted t (first_session 0)
            ≡ closed_first (donation_of config t)
        at t there = get_or_default wanted t (first_session 0) (closed_first 0)
            (rw length-map there)
            ∙ get_or-map (λ (m : Member). closed_first m.donation) config.clients t no_client

-- none of them lost an event or made a view
each : (f : Session → ℕ) (n : ℕ) → ((d : ℕ) → f (closed_first d) ≡ n) → f (first_session 0) ≡ n
    → (clients : List Member) (t : ℕ) → f (session_in (map (λ m. closed_first m.donation) clients) t) ≡ n
each f n same none [] t = none
each f n same none (m ∷ clients) zero = same m.donation
each f n same none (m ∷ clients) (suc t) = each f n same none clients t

pub none_lost : (config : Configuration) (t : ℕ) → (session (vacant_state config) t).lost ≡ 0
none_lost config t = each (λ (u : Session). u.lost) 0 (λ d. refl) refl config.clients t

pub none_made : (config : Configuration) (t : ℕ) → (session (vacant_state config) t).next ≡ 1
none_made config t = each (λ (u : Session). u.next) 1 (λ d. refl) refl config.clients t
