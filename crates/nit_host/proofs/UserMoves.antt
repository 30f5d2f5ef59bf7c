-- What a device event does to the focus, to the mode and to the codes that are held.
use Rattle.std.proofs.Common.{Bool, IfSome, List, None, Option, Some, [], ap, arith, eq-eqb}
use Rattle.std.proofs.Common.{eqb-true, false, filter, inl, inr, not, refl, sym, true, ℕ, ◌&&◌}
use Rattle.std.proofs.Common.{◌++◌, ◌==◌, ◌||◌, ◌∷◌, ◌≡◌, ◌≢◌, ◌⊎◌}
use Rattle.nit_host.proofs.Basics.{Configuration, Device, Does, Event, IsClickBy, IsTakenByClicks}
use Rattle.nit_host.proofs.Basics.{Mode, State, SwitchesMode, TakesFocus, and_parts, clicks_on}
use Rattle.nit_host.proofs.Basics.{cond_both, is_held_after, list_any, member, nat_tests}
use Rattle.nit_events.specs.declared.device.Device.TheVariants as device
use Rattle.nit_events.specs.declared.device.Mode.TheVariants as mode
use Rattle.nit_events.specs.declared.event.Event.TheVariants as event
use Rattle.nit_events.specs.Input
use Rattle.nit_journal.specs.Reach.{is_mode_key, under_pointer}
use Rattle.nit_journal.specs.State.{route}

-- ---- what a device event leaves of the input

-- neither a press nor a release
abbrev pub IsCalm : Device → Type 0
IsCalm dev = (k : ℕ) (was : Bool) → is_held_after dev k was ≡ was

-- a click there moves the focus
abbrev pub takes : State → Bool
takes s = Input.takes_focus (clicks_on s.config (under_pointer s)) (under_pointer s)

-- with a code more held, and this receiver
abbrev pub with_code : Input.InputState → ℕ → Option ℕ → Input.InputState
with_code i k r = record (Input.with_held i k) { receiver = r }

-- the pointer moves; nothing happens; a mode key goes down; another code does, and it moves nothing, is
-- a click that moves the focus, or one that locks out whoever is pointed at; a code goes up
pub data Moved (s : State) (dev : Device) : Input.InputState → Type 0 where
  Points : (x y : ℕ) (h : Option ℕ) → IsCalm dev → Moved s dev (record s.input { x = x; y = y; hover = h })
  Nothing : ((k : ℕ) → Input.is_held s.input k ≡ is_held_after dev k (Input.is_held s.input k)) → Moved s dev s.input
  Switches : (k : ℕ) → dev ≡ device.Press k → is_mode_key k ≡ true → s.input.held ≡ [] → (m : Mode) (h : Option ℕ)
      → Moved s dev (record s.input { mode = m; hover = h })
  Presses : (k : ℕ) → dev ≡ device.Press k → is_mode_key k ≡ false → (r : Option ℕ)
      → Moved s dev (with_code s.input k r)
  Clicks : (k : ℕ) → dev ≡ device.Press k → is_mode_key k ≡ false → Input.is_button k ≡ true → s.input.held ≡ []
      → ((s.input.mode ≡ mode.Flat) ⊎ (s.input.mode ≡ mode.Xray))
      → (takes s && not (Input.is_same (under_pointer s) s.input.focus)) ≡ true → (r : Option ℕ)
      → Moved s dev (record (with_code s.input k r) { focus = under_pointer s })
  Misses : dev ≡ device.Press Input.kill_button → s.input.held ≡ [] → s.input.mode ≡ mode.Kill
      → Moved s dev (record (with_code s.input Input.kill_button None) { mode = mode.Flat })
  Kills : (t : ℕ) → dev ≡ device.Press Input.kill_button → s.input.held ≡ [] → s.input.mode ≡ mode.Kill
      → under_pointer s ≡ Some t
      → Moved s dev (record (Input.forget (record (Input.with_held s.input Input.kill_button) { mode = mode.Flat }) t) {
        receiver = None;
      })
  Lifts : (k : ℕ) → dev ≡ device.Release k → (r : Option ℕ)
      → Moved s dev (record s.input { held = filter (λ j. not (j == k)) s.input.held; receiver = r })

-- a motion or a turn of the wheel moves the hover alone
calm : (held : List ℕ) (m : Mode) (pointed : Option ℕ) (i : Input.InputState) (e : Event)
    → (Input.moving held pointed (record i { mode = m }) e).state
    ≡ record i { mode = m; hover = (Input.moving held pointed (record i { mode = m }) e).state.hover }
calm (k ∷ ks) m pointed i e = refl
calm [] mode.Flat pointed i e = refl
calm [] m pointed i e = refl

-- letting go changes what is held, and the receiver
let_go : (left : List ℕ) (i : Input.InputState)
    → Input.letting_go left i ≡ record i { held = left; receiver = (Input.letting_go left i).receiver }
let_go [] i = refl
let_go (k ∷ ks) i = refl

module _ (s : State) (k : ℕ) where
  abbrev Leaves : Input.Routing → Type 0
  Leaves r = Moved s (device.Press k) r.state

  leaving : is_mode_key k ≡ true → s.input.held ≡ [] → (m new : Mode) → Leaves (Input.leaving m s.input new)
  leaving key free mode.Flat new = Switches k refl key free new None
  leaving key free m new = Switches k refl key free new s.input.hover

  switching : is_mode_key k ≡ true → (held : List ℕ) → s.input.held ≡ held → (new : Mode)
      → Leaves (Input.switching held s.input new)
  switching key [] is new = leaving key is s.input.mode new
  switching key (j ∷ js) is new = Nothing (λ t. grind (arith, nat_tests))

  focusing : is_mode_key k ≡ false → Input.is_button k ≡ true → s.input.held ≡ []
      → ((s.input.mode ≡ mode.Flat) ⊎ (s.input.mode ≡ mode.Xray)) → (r : Option ℕ)
      → Moved s (device.Press k) (record (Input.focusing (clicks_on s.config (under_pointer s)) (under_pointer s)
      (Input.with_held s.input k)).state { receiver = r })
  focusing other button free plain r =
      cond_both (takes s && not (Input.is_same (under_pointer s) s.input.focus)) _ _
      (λ (w : Input.Routing). Moved s (device.Press k) (record w.state { receiver = r }))
      (λ moves. Clicks k refl other button free plain moves r) (λ stays. Presses k refl other r)

  killing : k ≡ Input.kill_button → s.input.held ≡ [] → s.input.mode ≡ mode.Kill → (p : Option ℕ) → under_pointer s ≡ p
      → Leaves (Input.unreceived (Input.killing p (Input.with_held s.input k)))
  killing is free kill None at = rw is (Misses refl free kill)
  killing is free kill (Some t) at = rw is (Kills t refl free kill at)

  first_press : is_mode_key k ≡ false → s.input.held ≡ [] → (m : Mode) → s.input.mode ≡ m
      → Leaves (Input.first_press m (clicks_on s.config (under_pointer s)) (under_pointer s)
      (Input.with_held s.input k) k)
  first_press other free mode.Flat is =
      cond_both (Input.is_button k) _ _ Leaves (λ button. focusing other button free (inl is) (under_pointer s))
      (λ key. Presses k refl other s.input.focus)
  first_press other free mode.Xray is =
      cond_both (Input.is_button k) _ _ (λ w. Leaves (Input.unreceived w))
      (λ button. focusing other button free (inr is) None) (λ key. Presses k refl other None)
  first_press other free mode.Kill is =
      cond_both (k == Input.kill_button) _ _ (λ w. Leaves (Input.unreceived w))
      (λ kills. killing (eqb-true k Input.kill_button kills) free is (under_pointer s) refl)
      (λ apart. Presses k refl other None)

  pressing : is_mode_key k ≡ false → (held : List ℕ) → s.input.held ≡ held
      → Leaves (Input.pressing held (clicks_on s.config (under_pointer s)) (under_pointer s) s.input k)
  pressing other [] is = first_press other is s.input.mode refl
  pressing other (j ∷ js) is = Presses k refl other s.input.receiver

  press : Leaves (Input.press (clicks_on s.config (under_pointer s)) (under_pointer s) s.input k)
  press =
      cond_both (k == Input.xray_key) _ _ Leaves
      (λ xray. switching (grind (arith, nat_tests)) s.input.held refl (Input.xray_mode s.input.mode)) (λ no_xray.
      cond_both (k == Input.kill_key) _ _ Leaves
      (λ kill. switching (grind (arith, nat_tests)) s.input.held refl (Input.kill_mode s.input.mode)) (λ no_kill.
      cond_both (Input.is_held s.input k) _ _ Leaves
      (λ held. Nothing (λ t. grind (arith, nat_tests, eqb-true)))
      (λ free. pressing (grind (arith, nat_tests)) s.input.held refl)))

pub moved : (s : State) (dev : Device) → Moved s dev (route s.config s.input s.stack dev).state
unfolding route
moved s (device.Motion x y) =
    let now = Input.pointer_after s.config.width s.config.height s.input (device.Motion x y) in
    rw (calm s.input.held s.input.mode _ now (event.Motion now.x now.y))
    (Points now.x now.y _ (λ k was. refl))
moved s (device.Wheel n) =
    rw (calm s.input.held s.input.mode _ s.input (event.Wheel n))
    (Points s.input.x s.input.y _ (λ k was. refl))
moved s (device.Press k) = press s k
moved s (device.Release k) =
    cond_both (Input.is_held s.input k) _ _ (λ (r : Input.Routing). Moved s (device.Release k) r.state)
    (λ held. rw (let_go (filter (λ j. not (j == k)) s.input.held) s.input) (Lifts k refl _))
    (λ apart. Nothing (λ t. grind (arith, nat_tests, eqb-true)))

-- ---- the focus, the mode and what is held, by device events

same_focus : (a b : Option ℕ) → Input.is_same a b ≡ true → a ≡ b
same_focus None None is = refl
same_focus (Some x) (Some y) is = ap Some (eqb-true x y is)
same_focus None (Some y) is = cc
same_focus (Some x) None is = cc

-- whoever a click takes the focus for, in both words of it
by_clicks : (config : Configuration) (p : Option ℕ) → Input.takes_focus (clicks_on config p) p ≡ true
    → IfSome p (λ t. (member config t).clicks ≡ true)
by_clicks config None is = tt
by_clicks config (Some t) is = is

takes_by_clicks : (config : Configuration) (p : Option ℕ) → IfSome p (λ t. (member config t).clicks ≡ true)
    → Input.takes_focus (clicks_on config p) p ≡ true
takes_by_clicks config None is = refl
takes_by_clicks config (Some t) is = is

-- a session that is forgotten, and another one that has the focus
pub forgets : (t : ℕ) (o : Option ℕ) (x : ℕ) → o ≡ Some x → (Input.unless_it_is t o ≡ Some x) ⊎ (t ≡ x)
forgets t o x is = grind (arith, nat_tests, cond_both, eqb-true)

pub forgotten_gone : (t : ℕ) (o : Option ℕ) (x : ℕ) → Input.unless_it_is t o ≡ Some x → o ≡ Some x
forgotten_gone t o x is = grind (arith, nat_tests, cond_both)

-- a click that moves the focus points elsewhere than at who has it
apart : (p o : Option ℕ) (x : ℕ) → o ≡ Some x → not (Input.is_same p o) ≡ true → p ≢ Some x
apart p o x has other same = grind (arith, nat_tests, eq-eqb)

held_more : (held : List ℕ) (j k : ℕ) → list_any (λ i. i == k) (held ++ j ∷ []) ≡ (list_any (λ i. i == k) held || j == k)
held_more [] j k = grind (arith, nat_tests)
held_more (h ∷ hs) j k = grind (arith, nat_tests, held_more hs j k)

held_less : (held : List ℕ) (j k : ℕ)
    → list_any (λ i. i == k) (filter (λ i. not (i == j)) held) ≡ (list_any (λ i. i == k) held && not (j == k))
held_less [] j k = refl
held_less (h ∷ hs) j k = grind (arith, nat_tests, held_less hs j k)

module _ (s : State) (dev : Device) where
  pub mode_moves : {r : Input.InputState} → Moved s dev r → (r.mode ≡ s.input.mode) ⊎ SwitchesMode (Does dev) s
  mode_moves (Switches k is key free m h) = inr (k, is, free, inl key)
  mode_moves (Misses is free kill) = inr (Input.kill_button, is, free, inr (refl, kill))
  mode_moves (Kills t is free kill at) = inr (Input.kill_button, is, free, inr (refl, kill))
  mode_moves other = inl refl

  pub focus_comes : (x : ℕ) → {r : Input.InputState} → Moved s dev r → r.focus ≡ Some x
      → (s.input.focus ≡ Some x) ⊎ IsClickBy (Does dev) s x
  focus_comes x (Clicks k is other button free plain moves r) at =
      inr ((k, is, button, plain, at, rw at at (by_clicks s.config (under_pointer s) (and_parts _ _ moves).0)), free)
  focus_comes x (Kills t is free kill at) here = inl (forgotten_gone t s.input.focus x here)
  focus_comes x other at = inl at

  pub focus_goes : (x : ℕ) → s.input.focus ≡ Some x → {r : Input.InputState} → Moved s dev r
      → (r.focus ≡ Some x) ⊎ TakesFocus (Does dev) s x
  focus_goes x has (Clicks k is other button free plain moves r) = inr (inl (record {
    code = k;
    press = is;
    button = button;
    free = free;
    mode = plain;
    off = apart (under_pointer s) s.input.focus x has (and_parts _ _ moves).1;
    taken = by_clicks s.config (under_pointer s) (and_parts _ _ moves).0;
  }))
  focus_goes x has (Kills t is free kill at) =
      elim (forgets t s.input.focus x has) [
        | inl stays ↦ inl stays
        | inr own ↦ inr (inr (record { press = is; free = free; mode = kill; on = rw own at at }))
      ]
  focus_goes x has other = inl has

  held_pressed : (j k : ℕ) → dev ≡ device.Press j → is_mode_key j ≡ false
      → list_any (λ i. i == k) (s.input.held ++ j ∷ []) ≡ is_held_after dev k (Input.is_held s.input k)
  held_pressed j k is other = rw is (grind (arith, nat_tests, held_more s.input.held j k, eqb-true))

  pub held_moves : (k : ℕ) → {r : Input.InputState} → Moved s dev r
      → Input.is_held r k ≡ is_held_after dev k (Input.is_held s.input k)
  held_moves k (Points x y h calm) = sym (calm k (Input.is_held s.input k))
  held_moves k (Nothing same) = same k
  held_moves k (Switches j is key free m h) = rw (is, free) (grind (arith, nat_tests, eqb-true))
  held_moves k (Presses j is other r) = held_pressed j k is other
  held_moves k (Clicks j is other button free plain moves r) = held_pressed j k is other
  held_moves k (Misses is free kill) = held_pressed Input.kill_button k is refl
  held_moves k (Kills t is free kill at) = held_pressed Input.kill_button k is refl
  held_moves k (Lifts j is r) = rw is (held_less s.input.held j k)

-- ---- the keys and clicks that move the mode and the focus, while nothing is held

module _ (s : State) (free : s.input.held ≡ []) where
  left : (new m : Mode) → (Input.leaving m s.input new).state.mode ≡ new
  left new mode.Flat = refl
  left new m = refl

  switched : (new : Mode) (held : List ℕ) → held ≡ [] → (Input.switching held s.input new).state.mode ≡ new
  switched new [] is = left new s.input.mode
  switched new (k ∷ ks) is = cc

  pub by_xray_key : (route s.config s.input s.stack (device.Press Input.xray_key)).state.mode
      ≡ Input.xray_mode s.input.mode
  unfolding route
  by_xray_key = switched (Input.xray_mode s.input.mode) s.input.held free

  pub by_kill_key : (route s.config s.input s.stack (device.Press Input.kill_key)).state.mode
      ≡ Input.kill_mode s.input.mode
  unfolding route
  by_kill_key = switched (Input.kill_mode s.input.mode) s.input.held free

  abbrev first : ℕ → Mode → Input.Routing
  first k m =
      Input.first_press m (clicks_on s.config (under_pointer s)) (under_pointer s) (Input.with_held s.input k) k

  none_held : (k : ℕ) → Input.is_held s.input k ≡ false
  none_held k = rw free refl

  firstly : (k : ℕ) (held : List ℕ) → held ≡ []
      → Input.pressing held (clicks_on s.config (under_pointer s)) (under_pointer s) s.input k ≡ first k s.input.mode
  firstly k [] is = refl
  firstly k (j ∷ js) is = cc

  killed : (p : Option ℕ) (i : Input.InputState) → (Input.unreceived (Input.killing p i)).state.mode ≡ mode.Flat
  killed None i = refl
  killed (Some t) i = refl

  pub by_kill_click : s.input.mode ≡ mode.Kill
      → (route s.config s.input s.stack (device.Press Input.kill_button)).state.mode ≡ mode.Flat
  unfolding route
  by_kill_click kill =
      rw (none_held Input.kill_button, firstly Input.kill_button s.input.held free) (by_mode s.input.mode kill)
    where
      by_mode : (m : Mode) → m ≡ mode.Kill → (first Input.kill_button m).state.mode ≡ mode.Flat
      by_mode mode.Kill is = killed (under_pointer s) (Input.with_held s.input Input.kill_button)
      by_mode mode.Flat is = cc
      by_mode mode.Xray is = cc

  clicked : (p : Option ℕ) (i : Input.InputState) (clicks : Bool) → Input.takes_focus clicks p ≡ true
      → (Input.focusing clicks p i).state.focus ≡ p
  clicked p i clicks is =
      rw is (cond_both (not (Input.is_same p i.focus)) _ _ (λ (r : Input.Routing). r.state.focus ≡ p) (λ moves. refl)
      (λ stays. sym (same_focus p i.focus (grind (arith, nat_tests)))))

  pub by_click : (k : ℕ) → Input.is_button k ≡ true → s.input.mode ≢ mode.Kill → IsTakenByClicks s
      → (route s.config s.input s.stack (device.Press k)).state.focus ≡ under_pointer s
  unfolding route
  by_click k button plain taken =
      let no_xray : (k == Input.xray_key) ≡ false = grind (arith, nat_tests) in
      let no_kill : (k == Input.kill_key) ≡ false = grind (arith, nat_tests) in
      rw (no_xray, no_kill, none_held k, firstly k s.input.held free) (by_mode s.input.mode plain)
    where
      takes_it : Input.takes_focus (clicks_on s.config (under_pointer s)) (under_pointer s) ≡ true
      takes_it = takes_by_clicks s.config (under_pointer s) taken

      by_mode : (m : Mode) → m ≢ mode.Kill → (first k m).state.focus ≡ under_pointer s
      by_mode mode.Flat plain = rw button (clicked (under_pointer s) (Input.with_held s.input k) _ takes_it)
      by_mode mode.Xray plain = rw button (clicked (under_pointer s) (Input.with_held s.input k) _ takes_it)
      by_mode mode.Kill plain = absurd (plain refl)
