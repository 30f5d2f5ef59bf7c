-- A server's focus is that of its state.
use Rattle.nit_server.proofs.Basics.{All-head, All-tail, AreServerParts, Call, Configuration}
use Rattle.nit_server.proofs.Basics.{Delivery, Device, Entry, Event, FocusModel, HasForgotten}
use Rattle.nit_server.proofs.Basics.{InputState, IsServerInput, Item, KeptSessionModel, MayLose}
use Rattle.nit_server.proofs.Basics.{Point, Routed, ServerModel, Session, SlotView, SlotsModel}
use Rattle.nit_server.proofs.Basics.{StackModel, State, Status, Take, View, accepted, after}
use Rattle.nit_server.proofs.Basics.{all_kept, at_most_one, bar_rows, by_life, clicks_on}
use Rattle.nit_server.proofs.Basics.{clicks_on_list, delivered, deliveries_of, delivery}
use Rattle.nit_server.proofs.Basics.{first_session, forget, known_after, length-map, most_sessions}
use Rattle.nit_server.proofs.Basics.{nat_tests, owner, owner_in, owner_of_views, pointed_by}
use Rattle.nit_server.proofs.Basics.{pointer, pointer_after, receive, routed_as, routing}
use Rattle.nit_server.proofs.Basics.{routing_of, server_of, session, session_in, size_of_buffer}
use Rattle.nit_server.proofs.Basics.{unless_it_is, view_ref, views_of, with_delivered, with_pointer}
use Rattle.std.proofs.Common.{All, IfSome, List, None, Option, Some, [], ap, arith, length}
use Rattle.std.proofs.Common.{length-append, option_map, refl, set, sym, ℕ, ◌++◌, ◌+◌, ◌<◌, ◌∙◌}
use Rattle.std.proofs.Common.{◌∷◌, ◌≡◌, ◌≢◌, ◌≤◌}
use Rattle.nit_journal.specs.State.{route}
use Rattle.nit_journal.specs.Session.{serve}
use Rattle.nit_server.proofs.Lists.{adds_at}
use Rattle.nit_focus.specs.Focus as focusing
use Rattle.nit_events.specs.declared.event.Item.TheVariants as item
use Rattle.nit_events.specs.declared.event.Status.TheVariants as status
use Rattle.nit_events.specs.declared.entry.Entry.TheVariants as entry

-- a session is forgotten
pub attends_less : {config : Configuration} {old new : FocusModel} (sid : ℕ) → IsServerInput config old
    → new ≡ record old { input = forget old.input sid } → IsServerInput config new
attends_less {config} {old} sid h is = rw is (record {
  screen = h.screen;
  clicks = h.clicks;
  known = known_after (λ t. t < length config.clients) old.input sid h.known;
})

-- the input's step at the focus is that of the state
pub same_route : (s : ServerModel) (f : FocusModel) (dev : Device) (pointed : Option ℕ) → IsServerInput s.config f
    → f.input ≡ s.input → pointed ≡ pointed_by s dev → IfSome pointed (λ t. t < length s.config.clients)
    → focusing.routing_at f pointed dev ≡ routing_of s dev
unfolding route
same_route s f dev pointed h input_ pointed_ known =
    λ i. routing ((by_setting pointed known ∙ ap (clicks_on s.config) pointed_) i) (pointed_ i)
    (pointer_after (h.screen.0 i) (h.screen.1 i) (input_ i) dev) dev
  where
    by_setting : (o : Option ℕ) → IfSome o (λ t. t < length s.config.clients)
        → clicks_on_list f.clicks o ≡ clicks_on s.config o
    by_setting None p = refl
    by_setting (Some t) p = h.clicks t p

-- ---- the pointed session

owner_session : (rows : ℕ) (views : List SlotView) (p : Point) (a : Option SlotView)
    → owner_in (λ s. s.view) rows views p ≡ a
    → option_map (λ v. v.sid) (owner rows (views_of views) p) ≡ option_map (λ s. s.view.sid) a
owner_session rows views p a e = grind (arith, nat_tests, owner_of_views)

pub no_owner : (o : Option SlotView) → None ≡ option_map view_ref o → o ≡ None
no_owner None e = refl
no_owner (Some a) e = cc

-- the view that owns a pixel, by its slot
pub owned_at : {config : Configuration} {stack : StackModel} {members : List KeptSessionModel} {slots : SlotsModel}
    {input : InputState} {now : ServerModel} → AreServerParts config stack members slots
    → server_of config stack members input ≡ now → (p : Point) (a : Option SlotView)
    → owner_in (λ s. s.view) stack.bar stack.views p ≡ a
    → option_map (λ s. s.view) a ≡ owner (bar_rows now.config) (views_of now.stack.views) p
owned_at {stack = stack} h is p a owned =
    ap (option_map (λ (s : SlotView). s.view)) (sym owned) ∙ sym (owner_of_views stack.bar stack.views p)
    ∙ ap (λ b. owner b (views_of stack.views) p) h.screen.2
    ∙ ap (λ (z : ServerModel). owner (bar_rows z.config) (views_of z.stack.views) p) is

module _ {config : Configuration} {stack : StackModel} {members : List KeptSessionModel} {slots : SlotsModel}
    {focus : FocusModel} {now : ServerModel} (h : AreServerParts config stack members slots)
    (attending : IsServerInput config focus) (dev : Device) (is : server_of config stack members focus.input ≡ now)
  where
    -- the session of the owner of the pixel under the pointer
    pub pointed_is : {p : Point} {a : Option SlotView} → p ≡ pointer (with_pointer focus dev)
        → owner_in (λ s. s.view) stack.bar stack.views p ≡ a → option_map (λ s. s.view.sid) a ≡ pointed_by now dev
    pointed_is {p} {a} at owned =
        let here : p ≡ pointer (pointer_after config.width config.height focus.input dev) = at
        ∙ (λ i. pointer (pointer_after (attending.screen.0 i) (attending.screen.1 i) focus.input dev)) in
        sym (owner_session stack.bar stack.views p a owned)
        ∙ (λ i. option_map (λ (v : View). v.sid) (owner (h.screen.2 i) (views_of stack.views) (here i)))
        ∙ ap (λ (z : ServerModel). pointed_by z dev) is

    -- the step of the input
    pub routed_is : {pointed : Option ℕ} → pointed ≡ pointed_by now dev
        → IfSome pointed (λ t. t < length now.config.clients)
        → focusing.routing_at focus pointed dev ≡ routing_of now dev
    routed_is {pointed} e k = rw (← is) (same_route (server_of config stack members focus.input) focus dev pointed
        attending refl (rw (← is) at e) (rw (← is) at k))

module _ {config : Configuration} {stack : StackModel} {members : List KeptSessionModel} {slots : SlotsModel}
    {user : InputState} {now : ServerModel} {t : ℕ} (h : AreServerParts config stack members slots)
    (is : server_of config stack members user ≡ now) (lt : t < length stack.sizes) where
  -- a view's session is a client's
  client : t < length config.clients
  client = rw (← h.each, ← length-map members (λ (m : KeptSessionModel). size_of_buffer m.session), ← h.sizes) lt

  pub is_client : t < length now.config.clients
  is_client = rw (← is) client

  pub is_few : t < most_sessions
  is_few = omega (arith, client, h.configured.count.1)

-- ---- who is forgotten is forgotten again

again : (s : ℕ) (o : Option ℕ) → o ≢ Some s → unless_it_is s o ≡ o
again s None apart = refl
again s (Some t) apart = grind (arith, nat_tests, apart)

pub forgotten_again : (i : InputState) (s : ℕ) → HasForgotten i s → forget i s ≡ i
forgotten_again i s h = grind (arith, nat_tests, again)

-- ==== How many events a session loses at most.

-- ---- deliveries

life_loses : (was : Status) (i : Item) (u : Session) → (by_life was i u).lost ≤ u.lost + 1
life_loses status.Live (item.Event e) u = grind arith
life_loses status.Live item.Kill u = omega arith
life_loses other i u = omega arith

delivered_loses : (ds : List Delivery) (sessions : List Session) (t : ℕ)
    → (session_in (delivered ds sessions) t).lost ≤ (session_in sessions t).lost + length ds
delivered_loses [] sessions t = omega arith
delivered_loses (d ∷ ds) sessions t =
    let now : Session = receive (session_in sessions d.sid) d.item in
    let one = adds_at (λ (u : Session). u.lost) sessions d.sid now (first_session 0)
    (life_loses (session_in sessions d.sid).status d.item (session_in sessions d.sid)) t in
    let rest = delivered_loses ds (set sessions d.sid now) t in
    omega (arith, one, rest)

-- what one delivery takes of what may be lost
pub may_lose : (n : ℕ) (told : Option Delivery) (s : ServerModel) → MayLose (n + 1) s
    → MayLose n (with_delivered (delivery told) s)
may_lose n told s h t = grind (arith, nat_tests, at_most_one, delivered_loses)

-- each of the deliveries of an entry
last_one : (P : Delivery → Type 0) (told : Option Delivery) → All P (delivery told) → IfSome told P
last_one P None h = tt
last_one P (Some d) h = All-head P d [] h

pub each_one : (P : Delivery → Type 0) (a b c : Option Delivery) → All P ((delivery a ++ delivery b) ++ delivery c)
    → IfSome a P × IfSome b P × IfSome c P
each_one P None None c h = (tt, tt, last_one P c h)
each_one P None (Some b) c h = (tt, All-head P b (delivery c) h, last_one P c (All-tail P b (delivery c) h))
each_one P (Some a) None c h = (All-head P a (delivery c) h, tt, last_one P c (All-tail P a (delivery c) h))
each_one P (Some a) (Some b) c h =
    let rest = All-tail P a (b ∷ delivery c) h in
    (All-head P a (b ∷ delivery c) h, All-head P b (delivery c) rest, last_one P c (All-tail P b (delivery c) rest))

-- ---- any entry

accepted_loses : (u : Session) (call : Call) → (accepted u call).session.lost ≤ u.lost + 1
accepted_loses u Take = grind arith
accepted_loses u other = omega arith

serve_loses : (u : Session) (call : Call) → (serve u call).session.lost ≤ u.lost + 1
unfolding serve
serve_loses u call = grind (arith, nat_tests, accepted_loses)

pub entry_loses : (s : State) (e : Entry) (t : ℕ) → (session (after s e) t).lost ≤ (session s t).lost + 3
entry_loses s (entry.Call sid call r) t =
    let one = adds_at (λ (u : Session). u.lost) s.sessions sid (serve (session s sid) call).session (first_session 0)
    (serve_loses (session s sid) call) t in omega (arith, one)
entry_loses s (entry.Input dev routed) t =
    let ds : List Delivery = (route s.config s.input s.stack dev).deliveries in
    let kept : Routed = routed_as ds in
    let few : length (deliveries_of kept) ≤ 3 =
    simp length-append (omega (arith, at_most_one kept.a, at_most_one kept.b, at_most_one kept.c)) in
    omega (arith, few, ap length (all_kept s.config s.input s.stack dev), delivered_loses ds s.sessions t)
entry_loses s (entry.Shot number) t = omega arith
entry_loses s entry.Final t = omega arith
