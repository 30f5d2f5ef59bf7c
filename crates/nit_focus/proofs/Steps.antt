-- What a device event keeps, whom it reaches, and with what; and who is killed is forgotten.
use Rattle.nit_focus.proofs.Basics.{All, All-append, All-cons, All-nil, All-weaker, AllOfInput}
use Rattle.nit_focus.proofs.Basics.{Delivery, Device, Event, Flat, FocusModel, HasForgotten, IfSome}
use Rattle.nit_focus.proofs.Basics.{InputState, IsDevice, IsFocus, IsForgottenIfKilled, IsItem}
use Rattle.nit_focus.proofs.Basics.{IsWithinReach, Item, Kill, Mode, Routing, Xray, clicks_on_list}
use Rattle.nit_focus.proofs.Basics.{either, most_sessions, nat_tests, pointer_after, routing_at}
use Rattle.nit_focus.proofs.Basics.{with_pointer}
use Rattle.std.proofs.Common.{Bool, List, None, Option, Some, [], arith, false, filter}
use Rattle.std.proofs.Common.{if◌then◌else◌, inl, inr, not, refl, true, ℕ, ◌&&◌, ◌++◌, ◌<◌, ◌==◌}
use Rattle.std.proofs.Common.{◌∷◌, ◌≡◌, ◌≢◌}
use Rattle.nit_events.specs.declared.event.Event.TheVariants as event
use Rattle.nit_events.specs.declared.event.Item.TheVariants as item
use Rattle.nit_events.specs.declared.device.Device.TheVariants as device
use Rattle.nit_events.specs.Input as input

-- a delivery is to such a session and is such an item, and a session that is killed is forgotten in this state
pub record IsDelivery (P : ℕ → Type 0) (Q : Item → Type 0) (i : InputState) (d : Delivery) : Type 0 where
  pub session : P d.sid
  pub item : Q d.item
  pub forgotten : IsForgottenIfKilled i d.sid d.item

-- what is delivered, and the sessions that are known afterwards; the pointer is at this place
pub record IsStep (P : ℕ → Type 0) (Q : Item → Type 0) (x y : ℕ) (r : Routing) : Type 0 where
  pub sessions : AllOfInput P r.state
  pub told : All (IsDelivery P Q r.state) r.deliveries
  pub column : r.state.x ≡ x
  pub row : r.state.y ≡ y

-- the same where nobody is killed
record IsHarmless (P : ℕ → Type 0) (Q : Item → Type 0) (x y : ℕ) (r : Routing) : Type 0 where
  sessions : AllOfInput P r.state
  told : (after : InputState) → All (IsDelivery P Q after) r.deliveries
  column : r.state.x ≡ x
  row : r.state.y ≡ y

-- this holds of the items that any device event may bring
pub record AllOfNotices (Q : Item → Type 0) : Type 0 where
  pub leave : Q (item.Event event.Leave)
  pub focus_enter : Q (item.Event event.FocusEnter)
  pub focus_leave : Q (item.Event event.FocusLeave)
  pub kill : Q item.Kill

-- what a device event brings to whom it reaches
abbrev pub brought : InputState → Device → Item
brought i (device.Motion x y) = item.Event (event.Motion i.x i.y)
brought i (device.Wheel n) = item.Event (event.Wheel n)
brought i (device.Press k) = item.Event (event.Press k)
brought i (device.Release k) = item.Event (event.Release k)

-- ---- who is forgotten

not_again : (s : ℕ) (other : Option ℕ) → input.unless_it_is s other ≢ Some s
not_again s None e = cc
not_again s (Some t) e = grind (arith, nat_tests)

still_known : (P : ℕ → Type 0) (s : ℕ) (other : Option ℕ) → IfSome other P → IfSome (input.unless_it_is s other) P
still_known P s None p = tt
still_known P s (Some t) p = elim (s == t) as (λ v. IfSome (if v then None else Some t) P) [ true ↦ tt | false ↦ p ]

forgotten : (i : InputState) (s : ℕ) → HasForgotten (input.forget i s) s
forgotten i s = record { receiver = not_again s i.receiver; hover = not_again s i.hover; focus = not_again s i.focus }

pub known_after : (P : ℕ → Type 0) (i : InputState) (s : ℕ) → AllOfInput P i → AllOfInput P (input.forget i s)
known_after P i s known = record {
  receiver = still_known P s i.receiver known.receiver;
  hover = still_known P s i.hover known.hover;
  focus = still_known P s i.focus known.focus;
}

without_receiver : (i : InputState) (s : ℕ) (it : Item) → IsForgottenIfKilled i s it
    → IsForgottenIfKilled (record i { receiver = None }) s it
without_receiver i s item.Kill h = record { receiver = (λ e. cc); hover = h.hover; focus = h.focus }
without_receiver i s (item.Event e) h = tt

-- ---- the words of a device event

module _ (P : ℕ → Type 0) (Q : Item → Type 0) (notices : AllOfNotices Q) where
  harmless : {x y : ℕ} {r : Routing} → IsHarmless P Q x y r → IsStep P Q x y r
  harmless {r = r} h = assumption (h.told r.state, h)

  -- an event to a session
  told_to : (s : Option ℕ) (e : Event) → IfSome s P → Q (item.Event e) → (after : InputState)
      → All (IsDelivery P Q after) (input.to s e)
  told_to None e p q after = All-nil (IsDelivery P Q after)
  told_to (Some s) e p q after =
      All-cons (IsDelivery P Q after) (record { sid = s; item = item.Event e }) []
      (record { session = p; item = q; forgotten = tt }) (All-nil (IsDelivery P Q after))

  told_both : (ds es : List Delivery) → ((after : InputState) → All (IsDelivery P Q after) ds)
      → ((after : InputState) → All (IsDelivery P Q after) es)
      → (after : InputState) → All (IsDelivery P Q after) (ds ++ es)
  told_both ds es h g after = All-append (IsDelivery P Q after) ds es (h after) (g after)

  -- nothing happens
  ignored : (i : InputState) → AllOfInput P i → IsHarmless P Q i.x i.y (input.ignored i)
  ignored i known = assumption (λ (after : InputState). All-nil (IsDelivery P Q after))

  hovering : (m : Mode) (pointed : Option ℕ) (i : InputState) (e : Event) → AllOfInput P i → IfSome pointed P
      → Q (item.Event e) → IsHarmless P Q i.x i.y (input.hovering m pointed i e)
  hovering Flat pointed i e known p q =
      let left = λ (after : InputState). either (All (IsDelivery P Q after)) (input.is_same i.hover pointed) []
      (input.to i.hover event.Leave) (All-nil (IsDelivery P Q after))
      (told_to i.hover event.Leave known.hover notices.leave after) in
      assumption (told_both (if input.is_same i.hover pointed then [] else input.to i.hover event.Leave)
      (input.to pointed e) left (told_to pointed e p q))
  hovering other pointed i e known p q = ignored i known

  moving : (held : List ℕ) (pointed : Option ℕ) (i : InputState) (e : Event) → AllOfInput P i → IfSome pointed P
      → Q (item.Event e) → IsHarmless P Q i.x i.y (input.moving held pointed i e)
  moving [] pointed i e known p q = hovering i.mode pointed i e known p q
  moving (k ∷ ks) pointed i e known p q = assumption (told_to i.receiver e known.receiver q)

  leaving : (m : Mode) (i : InputState) (new : Mode) → AllOfInput P i → IsHarmless P Q i.x i.y (input.leaving m i new)
  leaving Flat i new known = assumption (told_to i.hover event.Leave known.hover notices.leave)
  leaving other i new known = assumption (ignored i known)

  switching : (held : List ℕ) (i : InputState) (new : Mode) → AllOfInput P i
      → IsHarmless P Q i.x i.y (input.switching held i new)
  switching [] i new known = leaving i.mode i new known
  switching (k ∷ ks) i new known = ignored i known

  focusing : (clicks : Bool) (pointed : Option ℕ) (i : InputState) → AllOfInput P i → IfSome pointed P
      → IsHarmless P Q i.x i.y (input.focusing clicks pointed i)
  focusing clicks pointed i known p =
      either (IsHarmless P Q i.x i.y) (input.takes_focus clicks pointed && not (input.is_same pointed i.focus)) _ _
      (assumption (told_both (input.to i.focus event.FocusLeave) (input.to pointed event.FocusEnter)
      (told_to i.focus event.FocusLeave known.focus notices.focus_leave)
      (told_to pointed event.FocusEnter p notices.focus_enter))) (ignored i known)

  received : (s : Option ℕ) (e : Event) {x y : ℕ} {r : Routing} → IfSome s P → Q (item.Event e)
      → IsHarmless P Q x y r → IsHarmless P Q x y (input.received s e r)
  received s e {r = r} p q h = assumption (told_both r.deliveries (input.to s e) h.told (told_to s e p q))

  unreceived : {x y : ℕ} {r : Routing} → IsStep P Q x y r → IsStep P Q x y (input.unreceived r)
  unreceived {r = r} h =
      assumption (
        All-weaker (IsDelivery P Q r.state) (IsDelivery P Q (record r.state { receiver = None }))
            (λ d t. assumption (without_receiver r.state d.sid d.item t.forgotten, t)) r.deliveries h.told,
        h,
      )

  killing : (pointed : Option ℕ) (i : InputState) → AllOfInput P i → IfSome pointed P
      → IsStep P Q i.x i.y (input.killing pointed i)
  killing None i known p = assumption (All-nil (IsDelivery P Q (record i { mode = Flat })))
  killing (Some s) i known p =
      let flat : InputState = record i { mode = Flat } in
      let after : Delivery → Type 0 = IsDelivery P Q (input.forget flat s) in
      assumption (
        known_after P i s known,
        All-cons after (record { sid = s; item = item.Kill }) []
            (record { session = p; item = notices.kill; forgotten = forgotten flat s }) (All-nil after),
      )

  first_press : (m : Mode) (clicks : Bool) (pointed : Option ℕ) (i : InputState) (k : ℕ) → AllOfInput P i
      → IfSome pointed P → Q (item.Event (event.Press k))
      → IsStep P Q i.x i.y (input.first_press m clicks pointed i k)
  first_press Flat clicks pointed i k known p q =
      either (IsStep P Q i.x i.y) (input.is_button k) _ _
      (harmless (received pointed (event.Press k) p q (focusing clicks pointed i known p)))
      (harmless (received i.focus (event.Press k) known.focus q (ignored i known)))
  first_press Xray clicks pointed i k known p q =
      unreceived (either (IsStep P Q i.x i.y) (input.is_button k) _ _ (harmless (focusing clicks pointed i known p))
      (harmless (ignored i known)))
  first_press Kill clicks pointed i k known p q =
      unreceived (either (IsStep P Q i.x i.y) (k == input.kill_button) _ _ (killing pointed i known p)
      (harmless (ignored i known)))

  pressing : (held : List ℕ) (clicks : Bool) (pointed : Option ℕ) (i : InputState) (k : ℕ) → AllOfInput P i
      → IfSome pointed P → Q (item.Event (event.Press k))
      → IsStep P Q i.x i.y (input.pressing held clicks pointed i k)
  pressing [] clicks pointed i k known p q =
      first_press i.mode clicks pointed (input.with_held i k) k (assumption known) p q
  pressing (j ∷ js) clicks pointed i k known p q =
      assumption (told_to i.receiver (event.Press k) known.receiver q (input.with_held i k))

  press : (clicks : Bool) (pointed : Option ℕ) (i : InputState) (k : ℕ) → AllOfInput P i → IfSome pointed P
      → Q (item.Event (event.Press k)) → IsStep P Q i.x i.y (input.press clicks pointed i k)
  press clicks pointed i k known p q =
      let Steps : Routing → Type 0 = IsStep P Q i.x i.y in
      either Steps (k == input.xray_key) _ _ (harmless (switching i.held i (input.xray_mode i.mode) known))
      (either Steps (k == input.kill_key) _ _ (harmless (switching i.held i (input.kill_mode i.mode) known))
      (either Steps (input.is_held i k) _ _ (harmless (ignored i known))
      (pressing i.held clicks pointed i k known p q)))

  letting_go : (held : List ℕ) (i : InputState) (ds : List Delivery) → AllOfInput P i
      → ((after : InputState) → All (IsDelivery P Q after) ds)
      → IsStep P Q i.x i.y (record { state = input.letting_go held i; deliveries = ds })
  letting_go [] i ds known told = assumption (told (record i { held = []; receiver = None }))
  letting_go (k ∷ ks) i ds known told = assumption (told (record i { held = k ∷ ks }))

  release : (i : InputState) (k : ℕ) → AllOfInput P i → Q (item.Event (event.Release k))
      → IsStep P Q i.x i.y (input.release i k)
  release i k known q =
      either (IsStep P Q i.x i.y) (input.is_held i k) _ _
      (letting_go (filter (λ j. not (j == k)) i.held) i (input.to i.receiver (event.Release k)) known
      (told_to i.receiver (event.Release k) known.receiver q)) (harmless (ignored i known))

  -- where the item that the device event brings is such an item too
  pub routing : (clicks : Bool) (pointed : Option ℕ) (i : InputState) (dev : Device) → AllOfInput P i → IfSome pointed P
      → Q (brought i dev) → IsStep P Q i.x i.y (input.routing clicks pointed i dev)
  routing clicks pointed i (device.Motion x y) known p q =
      harmless (moving i.held pointed i (event.Motion i.x i.y) known p q)
  routing clicks pointed i (device.Wheel n) known p q =
      harmless (moving i.held pointed i (event.Wheel n) known p q)
  routing clicks pointed i (device.Press k) known p q = press clicks pointed i k known p q
  routing clicks pointed i (device.Release k) known p q = release i k known q

-- ---- what every device event keeps, whom it reaches, and with what

-- all that a device event that led from this value to such a routing promises
pub record IsRouted (f : FocusModel) (pointed : Option ℕ) (r : Routing) : Type 0 where
  pub focusing : IsFocus (record f { input = r.state })
  pub reached : All (λ d. IsWithinReach f.input pointed d.sid) r.deliveries
  pub sessions : All (λ d. d.sid < most_sessions) r.deliveries
  pub ranges : All (λ d. IsItem f.width f.height d.item) r.deliveries
  pub kept : AllOfInput (IsWithinReach f.input pointed) r.state
  pub forgotten : All (λ d. IsForgottenIfKilled r.state d.sid d.item) r.deliveries

-- a move of the pointer leaves the sessions
moved_known : (P : ℕ → Type 0) (width height : ℕ) (i : InputState) (dev : Device) → AllOfInput P i
    → AllOfInput P (pointer_after width height i dev)
moved_known P width height i (device.Motion x y) known = assumption known
moved_known P width height i other known = known

-- and is within the screen
within : (f : FocusModel) (dev : Device) → IsFocus f → ((with_pointer f dev).x < f.width)
    × ((with_pointer f dev).y < f.height)
within f (device.Motion x y) h = (omega (arith, h.narrowest), omega (arith, h.lowest))
within f other h = (h.column, h.row)

-- what a device event brings is in range
in_range : (width height : ℕ) (i : InputState) (dev : Device) → IsDevice dev → i.x < width → i.y < height
    → IsItem width height (brought i dev)
in_range width height i (device.Motion x y) h column row = (column, row)
in_range width height i other h column row = h

-- what is known of each value that an option may have holds of the one that it has
of_itself : (P : ℕ → Type 0) (o : Option ℕ) → ((s : ℕ) → o ≡ Some s → P s) → IfSome o P
of_itself P None h = tt
of_itself P (Some s) h = h s refl

within_reach : (i : InputState) (pointed : Option ℕ) → AllOfInput (IsWithinReach i pointed) i
within_reach i pointed = record {
  receiver = of_itself (IsWithinReach i pointed) i.receiver (λ s e. inl e);
  hover = of_itself (IsWithinReach i pointed) i.hover (λ s e. inr (inl e));
  focus = of_itself (IsWithinReach i pointed) i.focus (λ s e. inr (inr (inl e)));
}

-- one device event, whole
pub routed : (f : FocusModel) (pointed : Option ℕ) (dev : Device) → IsFocus f → IfSome pointed (λ s. s < most_sessions)
    → IsDevice dev → IsRouted f pointed (routing_at f pointed dev)
routed f pointed dev h known device =
    let i : InputState = with_pointer f dev in
    let r : Routing = routing_at f pointed dev in
    let place : (i.x < f.width) × (i.y < f.height) = within f dev h in
    let in_screen : Item → Type 0 = IsItem f.width f.height in
    let below : ℕ → Type 0 = (λ s. s < most_sessions) in
    let reach : ℕ → Type 0 = IsWithinReach f.input pointed in
    let any : Item → Type 0 = (λ _. Unit {0}) in
    let all : AllOfNotices any = record { leave = tt; focus_enter = tt; focus_leave = tt; kill = tt } in
    let step : IsStep below in_screen i.x i.y r =
    routing below in_screen (assumption all) (clicks_on_list f.clicks pointed) pointed i dev
    (moved_known below f.width f.height f.input dev h.sessions) known
    (in_range f.width f.height i dev device place.0 place.1) in
    let reaching : IsStep reach any i.x i.y r =
    routing reach any all (clicks_on_list f.clicks pointed) pointed i dev
    (moved_known reach f.width f.height f.input dev (within_reach f.input pointed))
    (of_itself reach pointed (λ s e. inr (inr (inr e)))) tt in
    let column : r.state.x < f.width = rw step.column place.0 in
    let row : r.state.y < f.height = rw step.row place.1 in
    let Told : Delivery → Type 0 = IsDelivery below in_screen r.state in
    record {
      focusing = assumption (column, row, step.sessions, h);
      reached = All-weaker (IsDelivery reach any r.state) (λ d. reach d.sid) (λ d t. t.session) _ reaching.told;
      sessions = All-weaker Told (λ d. d.sid < most_sessions) (λ d t. t.session) r.deliveries step.told;
      ranges = All-weaker Told (λ d. in_screen d.item) (λ d t. t.item) r.deliveries step.told;
      kept = reaching.sessions;
      forgotten = All-weaker Told _ (λ d t. t.forgotten) r.deliveries step.told;
    }
