-- The ways in which a device event is routed. So each walk over them is one function by cases.
use Rattle.std.proofs.Common.{Bool, List, None, Option, Some, [], ap, false, filter, if◌then◌else◌}
use Rattle.std.proofs.Common.{inl, inr, length, refl, true, ℕ, ◌++◌, ◌+◌, ◌==◌, ◌∙◌, ◌∷◌, ◌≡◌, ◌≤◌}
use Rattle.std.proofs.Common.{◌⊎◌}
use Rattle.nit_journal.proofs.Basics.{Agrees, All, All-cons, All-nil, Call, Close, Configuration}
use Rattle.nit_journal.proofs.Basics.{Delivery, Device, Event, Flat, InputState, Item, Kill, Mode}
use Rattle.nit_journal.proofs.Basics.{Reply, Routed, Routing, State, Xray, after, and_parts, arith}
use Rattle.nit_journal.proofs.Basics.{bar_rows, clicks_on, cond_both, either, is_accepted}
use Rattle.nit_journal.proofs.Basics.{length-append, nat_tests, not, option_map, owner, point}
use Rattle.nit_stack.specs.declared.view.View.{View}
use Rattle.nit_journal.specs.State.{route}
use Rattle.nit_events.specs.declared.event.Event.TheVariants as event
use Rattle.nit_events.specs.declared.event.Item.TheVariants as item
use Rattle.nit_events.specs.declared.device.Device.TheVariants as device
use Rattle.nit_events.specs.Input
use Rattle.nit_events.specs.declared.entry.Entry.TheVariants as entry

-- a press or a release
abbrev pub is_stroke : Item → Bool
is_stroke (item.Event (event.Press j)) = true
is_stroke (item.Event (event.Release j)) = true
is_stroke other = false

-- one event, to whom it goes
pub one_to : (P : Delivery → Type 0) (s : Option ℕ) (e : Event)
    → ((t : ℕ) → s ≡ Some t → P (record { sid = t; item = item.Event e })) → All P (Input.to s e)
one_to P None e h = All-nil P
one_to P (Some t) e h = All-cons P (record { sid = t; item = item.Event e }) [] (h t refl) (All-nil P)

-- while nothing is held: a motion or a turn of the wheel; a mode key; a press, by the mode
pub data FreeWay (clicks : Bool) (pointed : Option ℕ) (i : InputState) (dev : Device) : Routing → Type 0 where
  Hovers : (e : Event) → is_stroke (item.Event e) ≡ false → i.mode ≡ Flat
      → FreeWay clicks pointed i dev (Input.hovering Flat pointed i e)
  Leaves : (new : Mode) → i.mode ≡ Flat → FreeWay clicks pointed i dev (Input.leaving Flat i new)
  Switches : (new : Mode) → FreeWay clicks pointed i dev (record { state = record i { mode = new }; deliveries = [] })
  Clicks : (k : ℕ) → dev ≡ device.Press k → Input.is_button k ≡ true → i.mode ≡ Flat
      → FreeWay clicks pointed i dev
      (Input.received pointed (event.Press k) (Input.focusing clicks pointed (Input.with_held i k)))
  Types : (k : ℕ) → i.mode ≡ Flat
      → FreeWay clicks pointed i dev (Input.received i.focus (event.Press k) (Input.ignored (Input.with_held i k)))
  Points : (k : ℕ) → dev ≡ device.Press k → Input.is_button k ≡ true → i.mode ≡ Xray
      → FreeWay clicks pointed i dev (Input.unreceived (Input.focusing clicks pointed (Input.with_held i k)))
  Kills : (k : ℕ) → dev ≡ device.Press k → i.mode ≡ Kill
      → FreeWay clicks pointed i dev (Input.unreceived (Input.killing pointed (Input.with_held i k)))
  Unseen : (k : ℕ) → FreeWay clicks pointed i dev (Input.unreceived (Input.ignored (Input.with_held i k)))

-- nothing happens, or something is held: a motion or a turn of the wheel, a press and a release
pub data Way (clicks : Bool) (pointed : Option ℕ) (i : InputState) (dev : Device) : Routing → Type 0 where
  Nothing : Way clicks pointed i dev (Input.ignored i)
  Moves : (e : Event) → is_stroke (item.Event e) ≡ false
      → Way clicks pointed i dev (record { state = i; deliveries = Input.to i.receiver e })
  More : (k : ℕ) → Way clicks pointed i dev (record {
    state = Input.with_held i k;
    deliveries = Input.to i.receiver (event.Press k);
  })
  Lifts : (k : ℕ) → Input.is_held i k ≡ true → Way clicks pointed i dev (record {
    state = Input.letting_go (filter (λ j. not (j == k)) i.held) i;
    deliveries = Input.to i.receiver (event.Release k);
  })
  Free : {r : Routing} → i.held ≡ [] → FreeWay clicks pointed i dev r → Way clicks pointed i dev r

module _ (clicks : Bool) (pointed : Option ℕ) (i : InputState) where
  moving : (dev : Device) (held : List ℕ) (m : Mode) (e : Event) → is_stroke (item.Event e) ≡ false → i.held ≡ held
      → Way clicks pointed (record i { mode = m }) dev (Input.moving held pointed (record i { mode = m }) e)
  moving dev (k ∷ ks) m e calm is = Moves e calm
  moving dev [] Flat e calm is = Free is (Hovers e calm refl)
  moving dev [] m e calm is = Nothing

  switching : (dev : Device) (held : List ℕ) (m new : Mode) → i.held ≡ held
      → Way clicks pointed (record i { mode = m }) dev (Input.switching held (record i { mode = m }) new)
  switching dev (k ∷ ks) m new is = Nothing
  switching dev [] Flat new is = Free is (Leaves new refl)
  switching dev [] m new is = Free is (Switches new)

  first_press : (m : Mode) (k : ℕ) → i.mode ≡ m → FreeWay clicks pointed i (device.Press k)
      (Input.first_press m clicks pointed (Input.with_held i k) k)
  first_press Flat k is = grind (arith, nat_tests, cond_both, Clicks, Types)
  first_press Xray k is = grind (arith, nat_tests, cond_both, Points, Unseen)
  first_press Kill k is = grind (arith, nat_tests, cond_both, Kills, Unseen)

  pressing : (held : List ℕ) (k : ℕ) → i.held ≡ held
      → Way clicks pointed i (device.Press k) (Input.pressing held clicks pointed i k)
  pressing [] k is = Free is (first_press i.mode k refl)
  pressing (j ∷ js) k is = More k

  way : (dev : Device) → Way clicks pointed i dev (Input.routing clicks pointed i dev)
  way (device.Motion x y) = moving (device.Motion x y) i.held i.mode (event.Motion i.x i.y) refl refl
  way (device.Wheel n) = moving (device.Wheel n) i.held i.mode (event.Wheel n) refl refl
  way (device.Press k) =
      either (Way clicks pointed i (device.Press k)) (k == Input.xray_key) _ _
      (switching (device.Press k) i.held i.mode (Input.xray_mode i.mode) refl)
      (either (Way clicks pointed i (device.Press k)) (k == Input.kill_key) _ _
      (switching (device.Press k) i.held i.mode (Input.kill_mode i.mode) refl)
      (either (Way clicks pointed i (device.Press k)) (Input.is_held i k) _ _ Nothing (pressing i.held k refl)))
  way (device.Release k) =
      cond_both (Input.is_held i k) _ _ (Way clicks pointed i (device.Release k)) (Lifts k) (λ apart. Nothing)

-- the session at a place
abbrev pub pointed_at : Configuration → List View → ℕ → ℕ → Option ℕ
pointed_at config stack x y = option_map (λ v. v.sid) (owner (bar_rows config) stack (point x y))

-- in a whole state: where the pointer is then, which is where it was at a press
pub record IsRouted (config : Configuration) (i : InputState) (stack : List View) (dev : Device) : Type 0 where
  pub x : ℕ
  pub y : ℕ
  pub stays : (k : ℕ) → dev ≡ device.Press k → (x ≡ i.x) × (y ≡ i.y)
  pub way : Way (clicks_on config (pointed_at config stack x y)) (pointed_at config stack x y)
      (record i { x = x; y = y }) dev (route config i stack dev)

pub routed : (config : Configuration) (i : InputState) (stack : List View) (dev : Device) → IsRouted config i stack dev
unfolding route
routed config i stack (device.Motion h v) =
    let now = Input.pointer_after config.width config.height i (device.Motion h v) in
    record {
      x = now.x;
      y = now.y;
      stays = λ k e. cc;
      way = way (clicks_on config (pointed_at config stack now.x now.y)) (pointed_at config stack now.x now.y) now
          (device.Motion h v);
    }
routed config i stack dev = record {
  x = i.x;
  y = i.y;
  stays = λ k e. (refl, refl);
  way = way (clicks_on config (pointed_at config stack i.x i.y)) (pointed_at config stack i.x i.y) i dev;
}

-- three deliveries are all kept
kept : (ds : List Delivery) → length ds ≤ 3 → Input.deliveries_of (Input.routed_as ds) ≡ ds
kept [] few = refl
kept (a ∷ []) few = refl
kept (a ∷ b ∷ []) few = refl
kept (a ∷ b ∷ c ∷ []) few = refl
kept (a ∷ b ∷ c ∷ d ∷ ds) few = absurd (omega arith)

one : (s : Option ℕ) (e : Event) → length (Input.to s e) ≤ 1
one None e = omega arith
one (Some s) e = omega arith

one_more : (n : ℕ) (ds : List Delivery) (s : Option ℕ) (e : Event) → length ds ≤ n → length (ds ++ Input.to s e) ≤ n + 1
one_more n ds s e few = omega (arith, length-append ds (Input.to s e), one s e)

two : (clicks : Bool) (pointed : Option ℕ) (i : InputState) → length (Input.focusing clicks pointed i).deliveries ≤ 2
two clicks pointed i = grind (arith, nat_tests, either)

killed : (pointed : Option ℕ) (i : InputState) → length (Input.killing pointed i).deliveries ≤ 1
killed None i = omega arith
killed (Some s) i = omega arith

module _ (clicks : Bool) (pointed : Option ℕ) (i : InputState) (dev : Device) where
  few : {r : Routing} → Way clicks pointed i dev r → length r.deliveries ≤ 3
  few Nothing = omega arith
  few (Moves e calm) = omega (arith, one i.receiver e)
  few (More k) = omega (arith, one i.receiver (event.Press k))
  few (Lifts k held) = omega (arith, one i.receiver (event.Release k))
  few (Free none (Hovers e calm flat)) = grind (arith, nat_tests, either)
  few (Free none (Leaves new flat)) = omega (arith, one i.hover event.Leave)
  few (Free none (Clicks k is button flat)) = grind (arith, nat_tests)
  few (Free none (Types k flat)) = omega (arith, one i.focus (event.Press k))
  few (Free none (Points k is button xray)) = omega (arith, two clicks pointed (Input.with_held i k))
  few (Free none (Kills k is kill)) = omega (arith, killed pointed (Input.with_held i k))
  few (Free none other) = omega arith

-- an entry that keeps what was routed keeps all of it
pub all_kept : (config : Configuration) (i : InputState) (stack : List View) (dev : Device)
    → Input.deliveries_of (Input.routed_as (route config i stack dev).deliveries)
    ≡ (route config i stack dev).deliveries
all_kept config i stack dev = kept (route config i stack dev).deliveries (few _ _ _ _ (routed config i stack dev).way)

-- an entry that agrees keeps all that was routed
pub entry_keeps_all : (s : State) (taken : ℕ) (dev : Device) (routed : Routed) → Agrees s taken (entry.Input dev routed)
    → Input.deliveries_of routed ≡ (route s.config s.input s.stack dev).deliveries
entry_keeps_all s taken dev routed agrees = ap Input.deliveries_of agrees ∙ all_kept s.config s.input s.stack dev

-- ---- calls

-- forgetting a session leaves the focus of every other
unforgotten : (sid : ℕ) (focus : Option ℕ) → (Input.unless_it_is sid focus ≡ focus) ⊎ (focus ≡ Some sid)
unforgotten sid None = inl refl
unforgotten sid (Some t) = grind (arith, nat_tests, cond_both)

abbrev pub IsKeptOrClosed : State → ℕ → Call → Reply → Type 0
IsKeptOrClosed s sid call r = ((after s (entry.Call sid call r)).input.focus ≡ s.input.focus)
    ⊎ ((call ≡ Close) × (is_accepted r ≡ true) × (s.input.focus ≡ Some sid))

close_keeps : (accepted : Bool) (sid : ℕ) (i : Input.InputState)
    → ((if accepted then Input.forget i sid else i).focus ≡ i.focus) ⊎ ((accepted ≡ true) × (i.focus ≡ Some sid))
close_keeps false sid i = inl refl
close_keeps true sid i = elim (unforgotten sid i.focus) [ inl kept ↦ inl kept | inr focused ↦ inr (refl, focused) ]

pub calls_keep : (s : State) (sid : ℕ) (call : Call) (r : Reply) → IsKeptOrClosed s sid call r
calls_keep s sid Close r = grind (arith, nat_tests, close_keeps)
calls_keep s sid call r = inl refl

-- ---- device events

module _ (clicks : Bool) (pointed : Option ℕ) (i : Input.InputState) (dev : Device) (x : ℕ) where
  -- a button is pressed, pointing at the session, which takes the focus by clicks
  abbrev pub IsClick : Type 0
  IsClick = (k : ℕ) × (dev ≡ device.Press k) × (Input.is_button k ≡ true) × ((i.mode ≡ Flat) ⊎ (i.mode ≡ Xray))
      × (pointed ≡ Some x) × (clicks ≡ true)

  by_focusing : (k : ℕ) → dev ≡ device.Press k → Input.is_button k ≡ true → ((i.mode ≡ Flat) ⊎ (i.mode ≡ Xray))
      → (Input.focusing clicks pointed (Input.with_held i k)).state.focus ≡ Some x → (i.focus ≡ Some x) ⊎ IsClick
  by_focusing k is button plain = grind (arith, nat_tests, cond_both, and_parts)

  pub by_way : {r : Input.Routing} → Way clicks pointed i dev r → r.state.focus ≡ Some x → (i.focus ≡ Some x) ⊎ IsClick
  by_way (Lifts k held) e = by_left (filter (λ j. not (j == k)) i.held) e
    where
      by_left : (left : List ℕ) → (Input.letting_go left i).focus ≡ Some x → (i.focus ≡ Some x) ⊎ IsClick
      by_left [] e = inl e
      by_left (j ∷ js) e = inl e
  by_way (Free none (Clicks k is button flat)) e = by_focusing k is button (inl flat) e
  by_way (Free none (Points k is button xray)) e = by_focusing k is button (inr xray) e
  by_way (Free none (Kills k is kill)) e = by_pointed pointed e
    where
      by_pointed : (o : Option ℕ) → (Input.killing o (Input.with_held i k)).state.focus ≡ Some x
          → (i.focus ≡ Some x) ⊎ IsClick
      by_pointed None e = inl e
      by_pointed (Some s) e = inl (grind arith)
  by_way (Free none other) e = inl e
  by_way other e = inl e
