-- Whoever the input knows, and whoever has a view, is live in every state that a legal journal leads to. So whoever is
-- told anything is live.
use Rattle.nit_journal.proofs.Basics.{Above, Agrees, All, All-cons, All-filter, All-head}
use Rattle.nit_journal.proofs.Basics.{All-insert, All-map, All-nil, All-tail, All-weaker, All_found}
use Rattle.nit_journal.proofs.Basics.{AreLive, Back, Call, Close, Configuration, Delivery, Destroy}
use Rattle.nit_journal.proofs.Basics.{Device, Entry, Event, Foremost, Front, IfSome_then}
use Rattle.nit_journal.proofs.Basics.{InputState, IsLegal, IsLive, Item, Offset, Place, Put}
use Rattle.nit_journal.proofs.Basics.{Put-above, Put-back, Put-front, Rearmost, Reply, Routing}
use Rattle.nit_journal.proofs.Basics.{Session, Side, State, Status, Take, Title, View, accepted}
use Rattle.nit_journal.proofs.Basics.{after, after_accepted, after_deliveries, after_delivery}
use Rattle.nit_journal.proofs.Basics.{arith, by_life, by_refusal, changed, cond_both, delivered}
use Rattle.nit_journal.proofs.Basics.{either, eqb-false, filter_passes, first_input, first_session}
use Rattle.nit_journal.proofs.Basics.{first_state, forget, input_after_call, is_accepted, is_kill}
use Rattle.nit_journal.proofs.Basics.{is_view, layer, moved, nat_tests, new_view, not, not-true}
use Rattle.nit_journal.proofs.Basics.{opened, put_again, receive, refusal, replay, restacked, route}
use Rattle.nit_journal.proofs.Basics.{routed_to, session, session_in, taking, without}
use Rattle.std.proofs.Common.{Bool, IfSome, List, None, Option, Some, [], ap, cond, false, find}
use Rattle.std.proofs.Common.{inl, inr, length, length-set, refl, set, sym, true, ℕ, ◌<◌, ◌==◌, ◌∙◌}
use Rattle.std.proofs.Common.{◌∷◌, ◌≡◌, ◌≢◌, ◌⊎◌}
use Rattle.nit_journal.specs.Session.{serve}
use Rattle.nit_journal.specs.StackAfter.{stack_after_call}
use Rattle.nit_events.specs.declared.event.Item.TheVariants as item
use Rattle.nit_events.specs.declared.event.Status.TheVariants as status
use Rattle.nit_events.specs.declared.call.Reply.TheVariants as reply
use Rattle.nit_events.specs.declared.entry.Entry.TheVariants as entry
use Rattle.nit_stack.specs.declared.view.View.{View as ViewOf}
use Rattle.nit_journal.proofs.KnownSessions.{AreKnown, IsStep, IsTold, forgotten, route_step}
use Rattle.nit_events.specs.Input
use Rattle.nit_journal.proofs.SessionLists.{after_set, delivered_length, handed, live_if}
use Rattle.nit_journal.proofs.JournalFronts.{behind}

-- the views' sessions have this
abbrev pub HaveAll : (ℕ → Type 0) → List ViewOf → Type 0
HaveAll P stack = All (λ v. P v.sid) stack

-- the input and the stack know those alone of whom this holds, and such are live now
pub live_now : (Q : ℕ → Type 0) (now : State) → ((t : ℕ) → Q t → IsLive now t) → AreKnown Q now.input
    → HaveAll Q now.stack → AreLive now
live_now Q now live known all = grind (arith, nat_tests, IfSome_then, All-weaker)

-- as the input's walk has it
pub are_known : (s : State) → AreLive s → AreKnown (IsLive s) s.input
are_known s h = (h.known.receiver, h.known.hover, h.known.focus)

-- ---- the views

module _ (P : ℕ → Type 0) where
  abbrev Has : ViewOf → Type 0
  Has v = P v.sid

  without_has : (is : ViewOf → Bool) (xs : List ViewOf) → HaveAll P xs → HaveAll P (without is xs)
  without_has is xs all = All-filter (λ v. not (is v)) Has xs all

  -- all views of a session are gone
  others_have : (sid : ℕ) (xs : List ViewOf) → HaveAll P xs
      → HaveAll (λ t. P t × (t ≢ sid)) (without (λ v. v.sid == sid) xs)
  others_have sid xs h k d lt = (
    All-filter (λ v. not (v.sid == sid)) Has xs h k d lt,
    eqb-false _ sid (not-true _ (filter_passes (λ (v : ViewOf). not (v.sid == sid)) xs k d lt)),
  )

  changed_has : (is : ViewOf → Bool) (change : ViewOf → ViewOf) → ((v : ViewOf) → (change v).sid ≡ v.sid)
      → (xs : List ViewOf) → HaveAll P xs → HaveAll P (changed is change xs)
  changed_has is change same xs all =
      All-map Has (λ v. cond (is v) (change v) v) xs
      (All-weaker Has (λ v. Has (cond (is v) (change v) v))
      (λ v h. either Has (is v) (change v) v (rw (same v) h) h) xs all)

  moved_has : (is : ViewOf → Bool) (put : ViewOf → List ViewOf → List ViewOf)
      → ((v : ViewOf) (xs : List ViewOf) → Put v xs (put v xs)) → (xs : List ViewOf) → HaveAll P xs
      → HaveAll P (moved is put xs)
  moved_has is put puts xs all = where_found (find is xs) refl
    where
      where_found : (o : Option ViewOf) → find is xs ≡ o → HaveAll P (put_again put (without is xs) xs o)
      where_found None e = all
      where_found (Some a) e =
          let there = puts a (without is xs) in
          rw there.is (All-insert Has (without is xs) there.at a (All_found Has is xs a all e) (without_has is xs all))

  accepted_has : (layers : ℕ → ℕ) (sid : ℕ) (call : Call) (r : Reply) (stack : List ViewOf) → P sid
      → HaveAll P stack → HaveAll P (after_accepted layers sid call r stack)
  accepted_has layers sid View (reply.Handle h) stack p all =
      let there = Put-front (λ (v : ViewOf). layers v.sid) (layers sid) (new_view sid h) stack in
      rw there.is (All-insert Has stack there.at (new_view sid h) p all)
  accepted_has layers sid View other stack p all = all
  accepted_has layers sid (Place v x y w h) r stack p all = changed_has (is_view sid v) _ (λ view. refl) stack all
  accepted_has layers sid (Offset v ox oy) r stack p all = changed_has (is_view sid v) _ (λ view. refl) stack all
  accepted_has layers sid (Title v text) r stack p all = changed_has (is_view sid v) _ (λ view. refl) stack all
  accepted_has layers sid (Front v) r stack p all =
      moved_has (is_view sid v) _ (Put-front (λ view. layers view.sid) (layers sid)) stack all
  accepted_has layers sid (Back v) r stack p all =
      moved_has (is_view sid v) _ (Put-back (λ view. layers view.sid) (layers sid)) stack all
  accepted_has layers sid (Above v n) r stack p all =
      either (HaveAll P) (v == n) stack _ all (moved_has (is_view sid v) _ (Put-above (is_view sid n)) stack all)
  accepted_has layers sid (Destroy v) r stack p all = without_has (is_view sid v) stack all
  accepted_has layers sid Close r stack p all = without_has (λ v. v.sid == sid) stack all
  accepted_has layers sid other r stack p all = all

  call_has : (layers : ℕ → ℕ) (sid : ℕ) (call : Call) (r : Reply) (stack : List ViewOf)
      → (is_accepted r ≡ true → P sid) → HaveAll P stack → HaveAll P (stack_after_call layers sid call r stack)
  unfolding stack_after_call
  call_has layers sid call r stack p all = grind (arith, nat_tests, cond_both, accepted_has)

  deliveries_have : (ds : List Delivery) (stack : List ViewOf) → HaveAll P stack
      → HaveAll P (after_deliveries ds stack)
  deliveries_have [] stack all = all
  deliveries_have (d ∷ ds) stack all = deliveries_have ds (after_delivery d stack) (one d.sid d.item)
    where
      one : (sid : ℕ) (i : Item) → HaveAll P (after_delivery (record { sid = sid; item = i }) stack)
      one sid (item.Event e) = all
      one sid item.Kill = without_has (λ v. v.sid == sid) stack all

  -- whoever the input knows after a call it knew before
  call_known : (sid : ℕ) (call : Call) (r : Reply) (i : InputState) → AreKnown P i
      → AreKnown P (input_after_call sid call r i)
  call_known sid Close r i h =
      either (AreKnown P) (is_accepted r) (forget i sid) i (one i.receiver h.0, one i.hover h.1, one i.focus h.2) h
    where
      one : (o : Option ℕ) → IfSome o P → IfSome (Input.unless_it_is sid o) P
      one o p = either (λ (q : Option ℕ). IfSome q P) (Input.is_same (Some sid) o) None o tt p
  call_known sid other r i h = h

-- ---- a call

-- a call leaves the status of its session, but for a Close that is accepted
serve_status : (u : Session) (call : Call) → ((serve u call).session.status ≡ u.status)
    ⊎ ((call ≡ Close) × (is_accepted (serve u call).reply ≡ true))
unfolding serve
serve_status u call = unless_refused (refusal u call)
  where
    taken : (queue : List Event) → (taking queue u).session.status ≡ u.status
    taken [] = refl
    taken (e ∷ es) = refl

    let_in : (call : Call) → ((accepted u call).session.status ≡ u.status)
        ⊎ ((call ≡ Close) × (is_accepted (accepted u call).reply ≡ true))
    let_in Take = inl (taken u.queue)
    let_in Close = inr (refl, refl)
    let_in other = inl refl

    unless_refused : (o : Option Reply) → ((by_refusal u call o).session.status ≡ u.status)
        ⊎ ((call ≡ Close) × (is_accepted (by_refusal u call o).reply ≡ true))
    unless_refused (Some r) = inl refl
    unless_refused None = let_in call

-- a session of a list that is changed is live still, if it is not the one that changes or that one stays live
still_live : (s now : State) (sid : ℕ) (u : Session) → now.sessions ≡ set s.sessions sid u → (t : ℕ)
    → (sid ≡ t → u.status ≡ status.Live) → IsLive s t → IsLive now t
still_live s now sid u is t own live = (
  rw (is, length-set) live.0,
  rw is (after_set (λ (u : Session). u.status ≡ status.Live) s.sessions sid t u (first_session 0) own live.1),
)

pub live_after_call : (s : State) (sid : ℕ) (call : Call) (r : Reply) → AreLive s → sid < length s.sessions
    → r ≡ (serve (session s sid) call).reply → AreLive (after s (entry.Call sid call r))
unfolding stack_after_call
live_after_call s sid call r h there replied =
    let now = after s (entry.Call sid call r) in
    let left = (serve (session s sid) call).session in
    elim (serve_status (session s sid) call) [
      | inl same ↦ live_now (IsLive s) now
          (λ t live. still_live s now sid left refl t (λ own. same ∙ rw own live.1) live)
          (call_known (IsLive s) sid call r s.input (are_known s h))
          (call_has (IsLive s) (layer s.config) sid call r s.stack (λ e. (
            there,
            live_if (λ a. is_accepted a.reply ≡ true) (session s sid) call (λ e. cc) (λ e. cc) (rw replied at e),
          )) h.views)
      | inr (closes, let_in) ↦ live_now (λ t. IsLive s t × (t ≢ sid)) now
          (λ t live. still_live s now sid left refl t (λ own. absurd (live.1 (sym own))) live.0)
          (rw (closes, ap is_accepted replied ∙ let_in) (forgotten (IsLive s) sid s.input (are_known s h)))
          (rw (closes, ap is_accepted replied ∙ let_in) (others_have (IsLive s) sid s.stack h.views))
    ]

-- ---- a device event

told_status : (st : Status) (i : Item) (u : Session) → is_kill i ≡ false → (by_life st i u).status ≡ u.status
told_status status.Live (item.Event e) u not_ = grind arith
told_status status.Live item.Kill u not_ = cc
told_status other i u not_ = refl

-- where nobody is killed every status stays
delivered_status : (P : ℕ → Type 0) (ds : List Delivery) (sessions : List Session) → All (IsTold P) ds → (t : ℕ)
    → (session_in (delivered ds sessions) t).status ≡ (session_in sessions t).status
delivered_status P [] sessions told t = refl
delivered_status P (d ∷ ds) sessions told t =
    delivered_status P ds (handed d sessions) (All-tail (IsTold P) d ds told) t
    ∙ after_set (λ (u : Session). u.status ≡ (session_in sessions t).status) sessions d.sid t
    (receive (session_in sessions d.sid) d.item) (first_session 0)
    (λ own. rw (← own) (told_status (session_in sessions d.sid).status d.item (session_in sessions d.sid)
    (All-head (IsTold P) d ds told).1)) refl

pub live_after_routing : (s : State) (r : Routing) → AreLive s → IsStep (IsLive s) r → AreLive (routed_to r s)
live_after_routing s r h (inl step) =
    live_now (IsLive s) (routed_to r s) (λ t live. (
      rw (delivered_length r.deliveries s.sessions) live.0,
      delivered_status (IsLive s) r.deliveries s.sessions step.1 t ∙ live.1,
    )) step.0 (deliveries_have (IsLive s) r.deliveries s.stack h.views)
live_after_routing s r h (inr step) =
    live_now (λ t. IsLive s t × (t ≢ step.killed)) (routed_to r s)
    (λ t live. still_live s (routed_to r s) step.killed (receive (session s step.killed) item.Kill)
    (rw step.alone refl) t (λ own. absurd (live.1 (sym own))) live.0)
    step.known (rw step.alone (others_have (IsLive s) step.killed s.stack h.views))

-- ---- a whole journal

pub live_after : (s : State) (taken : ℕ) (e : Entry) → AreLive s → Agrees s taken e → AreLive (after s e)
live_after s taken (entry.Call sid call r) h agrees = live_after_call s sid call r h agrees.0 agrees.1
live_after s taken (entry.Input dev routed) h agrees =
    live_after_routing s (route s.config s.input s.stack dev) h
    (route_step (IsLive s) s.config s.input s.stack dev (are_known s h) h.views)
live_after s taken other h agrees = h

-- where nobody has had any input, and there is no view
pub begun : (s : State) → s.input ≡ first_input → s.stack ≡ [] → AreLive s
begun s first none = grind (arith, nat_tests, live_now, All-nil)

pub live_first : (config : Configuration) → AreLive (first_state config)
live_first config = begun (first_state config) refl refl

pub live_throughout : (config : Configuration) (journal : List Entry) → IsLegal config journal
    → AreLive (replay config journal)
live_throughout config journal legal =
    behind (λ s done. AreLive s) (λ s taken e done agrees h. live_after s taken e h agrees) (first_state config) 0
    journal [] legal (live_first config)

-- whom a device event tells
told_live : (s : State) (r : Routing) → IsStep (IsLive s) r → All (λ d. IsLive s d.sid) r.deliveries
told_live s r (inl step) = All-weaker (IsTold (IsLive s)) (λ d. IsLive s d.sid) (λ d t. t.0) r.deliveries step.1
told_live s r (inr step) = grind (arith, nat_tests, All-cons, All-nil)

pub told_next : (s : State) (dev : Device) → AreLive s
    → All (λ d. IsLive s d.sid) (route s.config s.input s.stack dev).deliveries
told_next s dev h = told_live s (route s.config s.input s.stack dev)
    (route_step (IsLive s) s.config s.input s.stack dev (are_known s h) h.views)

pub told_are_live : (config : Configuration) (journal : List Entry) (dev : Device) → IsLegal config journal
    → let s = replay config journal in All (λ d. IsLive s d.sid) (route s.config s.input s.stack dev).deliveries
told_are_live config journal dev legal = told_next (replay config journal) dev (live_throughout config journal legal)

-- ---- any steps

-- a session that opens is live, and the others stay so
pub live_opened : (s : State) (sid : ℕ) (label : List ℕ) → AreLive s → AreLive (opened sid label s)
live_opened s sid label h =
    live_now (IsLive s) (opened sid label s) (λ t live. (
      rw length-set live.0,
      after_set (λ (u : Session). u.status ≡ status.Live) s.sessions sid t _ (first_session 0) (λ own. refl) live.1,
    )) (are_known s h) h.views

-- the user's restacking of a view takes none away and adds none
pub live_restacked : (s : State) (side : Side) (sid v : ℕ) → AreLive s → AreLive (restacked side sid v s)
live_restacked s Foremost sid v h =
    live_now (IsLive s) (restacked Foremost sid v s) (λ t live. live) (are_known s h)
    (moved_has (IsLive s) (is_view sid v) _ (Put-front (λ view. layer s.config view.sid) (layer s.config sid)) s.stack
    h.views)
live_restacked s Rearmost sid v h =
    live_now (IsLive s) (restacked Rearmost sid v s) (λ t live. live) (are_known s h)
    (moved_has (IsLive s) (is_view sid v) _ (Put-back (λ view. layer s.config view.sid) (layer s.config sid)) s.stack
    h.views)
