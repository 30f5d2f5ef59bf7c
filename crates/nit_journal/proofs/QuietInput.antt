-- Whom the user's input reaches.
use Rattle.std.proofs.Common.{Bool, List, None, Option, Some, [], arith, false, filter, refl, true}
use Rattle.std.proofs.Common.{ℕ, ◌++◌, ◌==◌, ◌∷◌, ◌≡◌, ◌≢◌}
use Rattle.nit_journal.proofs.Basics.{All, All-append, All-cons, All-nil, Call, Close, Delivery}
use Rattle.nit_journal.proofs.Basics.{Device, Entry, Event, Flat, InputState, Kill, KillsPointed}
use Rattle.nit_journal.proofs.Basics.{Mode, Opens, Reply, Restacks, Routing, Serves, State, Step}
use Rattle.nit_journal.proofs.Basics.{TellsFocus, TellsLeave, Xray, after, after_steps, and_parts}
use Rattle.nit_journal.proofs.Basics.{clicks_on, cond_both, either, first_input, input_after_call}
use Rattle.nit_journal.proofs.Basics.{is_key, is_mode_key, nat_tests, not, not-true, opened}
use Rattle.nit_journal.proofs.Basics.{or_parts, replay_from, restacked, under_pointer}
use Rattle.nit_events.specs.declared.event.Event.TheVariants as event
use Rattle.nit_events.specs.declared.device.Device.TheVariants as device
use Rattle.nit_events.specs.Input
use Rattle.nit_journal.specs.State.{route}
use Rattle.nit_journal.proofs.Ways.{Clicks, Free, Hovers, Kills, Leaves, Lifts, More, Moves}
use Rattle.nit_journal.proofs.Ways.{Nothing, Points, Switches, Types, Way, one_to, routed}
use Rattle.nit_events.specs.declared.entry.Entry.TheVariants as entry

module _ (s : State) (k : ℕ) where
  pub keys_go : s.input.mode ≡ Flat → s.input.held ≡ [] → is_key k ≡ true
      → (route s.config s.input s.stack (device.Press k)).deliveries ≡ Input.to s.input.focus (event.Press k)
  unfolding route
  keys_go flat none key = grind (arith, nat_tests, and_parts, or_parts, not-true)

  -- what is told of the focus by a click
  pub focus_told : All (TellsFocus s) (Input.focusing (clicks_on s.config (under_pointer s)) (under_pointer s)
      (Input.with_held s.input k)).deliveries
  focus_told = grind (arith, nat_tests, either, All-append, one_to, All-nil)

  pub buttons_go : s.input.mode ≡ Flat → s.input.held ≡ [] → Input.is_button k ≡ true
      → (told : List Delivery) × All (TellsFocus s) told
      × ((route s.config s.input s.stack (device.Press k)).deliveries
      ≡ told ++ Input.to (under_pointer s) (event.Press k))
  unfolding route
  buttons_go flat none button =
      let no_xray : (k == Input.xray_key) ≡ false = grind (arith, nat_tests) in
      let no_kill : (k == Input.kill_key) ≡ false = grind (arith, nat_tests) in
      (_, focus_told, rw (no_xray, no_kill, none, flat, button) refl)

  pub mode_keys_tell : is_mode_key k ≡ true
      → All (TellsLeave s) (route s.config s.input s.stack (device.Press k)).deliveries
  unfolding route
  mode_keys_tell is =
      cond_both (k == Input.xray_key) _ _ (λ (r : Routing). All (TellsLeave s) r.deliveries)
      (λ xray. switches s.input.held s.input.mode (Input.xray_mode s.input.mode)) (λ apart.
      cond_both (k == Input.kill_key) _ _ (λ (r : Routing). All (TellsLeave s) r.deliveries)
      (λ kill. switches s.input.held s.input.mode (Input.kill_mode s.input.mode))
      (λ other. let none = rw (apart, other) at is in cc))
    where
      switches : (held : List ℕ) (m new : Mode)
          → All (TellsLeave s) (Input.switching held (record s.input { mode = m }) new).deliveries
      switches (j ∷ js) m new = All-nil (TellsLeave s)
      switches [] Flat new = one_to (TellsLeave s) s.input.hover event.Leave (λ t e. (refl, e))
      switches [] m new = All-nil (TellsLeave s)

pub killed : (s : State) (pointed : Option ℕ) (i : InputState) → under_pointer s ≡ pointed
    → All (KillsPointed s) (Input.killing pointed i).deliveries
killed s None i is = All-nil (KillsPointed s)
killed s (Some t) i is = All-cons (KillsPointed s) _ [] (refl, is) (All-nil (KillsPointed s))

module _ (clicks : Bool) (pointed : Option ℕ) (i : InputState) (dev : Device) (P : Delivery → Type 0) where
  -- while something is held
  pub held_way : i.held ≢ [] → ((e : Event) → All P (Input.to i.receiver e)) → {r : Routing}
      → Way clicks pointed i dev r → All P r.deliveries
  held_way some to_it Nothing = All-nil P
  held_way some to_it (Moves e calm) = to_it e
  held_way some to_it (More k) = to_it (event.Press k)
  held_way some to_it (Lifts k held) = to_it (event.Release k)
  held_way some to_it (Free none way) = absurd (some none)

  -- in the modes Xray and Kill, where nobody receives what is held
  pub shut_way : i.mode ≢ Flat → i.receiver ≡ None
      → ((k : ℕ) → dev ≡ device.Press k → i.mode ≡ Xray
      → All P (Input.focusing clicks pointed (Input.with_held i k)).deliveries)
      → ((k : ℕ) → dev ≡ device.Press k → i.mode ≡ Kill
      → All P (Input.killing pointed (Input.with_held i k)).deliveries)
      → {r : Routing} → Way clicks pointed i dev r → All P r.deliveries
  shut_way shut nobody points kills (Moves e calm) = rw nobody (All-nil P)
  shut_way shut nobody points kills (More k) = rw nobody (All-nil P)
  shut_way shut nobody points kills (Lifts k held) = rw nobody (All-nil P)
  shut_way shut nobody points kills (Free none (Hovers e calm flat)) = absurd (shut flat)
  shut_way shut nobody points kills (Free none (Leaves new flat)) = absurd (shut flat)
  shut_way shut nobody points kills (Free none (Clicks k is button flat)) = absurd (shut flat)
  shut_way shut nobody points kills (Free none (Types k flat)) = absurd (shut flat)
  shut_way shut nobody points kills (Free none (Points k is button xray)) = points k is xray
  shut_way shut nobody points kills (Free none (Kills k is kill)) = kills k is kill
  shut_way shut nobody points kills (Free none other) = All-nil P
  shut_way shut nobody points kills other = All-nil P

abbrev pub IsQuiet : InputState → Type 0
IsQuiet i = (i.held ≡ [] → i.receiver ≡ None) × (i.mode ≢ Flat → i.receiver ≡ None)

some_more : (held : List ℕ) (k : ℕ) → held ++ k ∷ [] ≢ []
some_more [] k e = cc
some_more (j ∷ js) k e = cc

quiet_left : (held : List ℕ) (i : InputState) → IsQuiet i → IsQuiet (Input.letting_go held i)
quiet_left [] i q = (λ e. refl, λ e. refl)
quiet_left (k ∷ ks) i q = (λ none. cc, q.1)

module _ (clicks : Bool) (pointed : Option ℕ) (i : InputState) (dev : Device) (q : IsQuiet i) where
  -- what is pressed in mode Flat has a receiver, and is held
  pressed : (s : Option ℕ) (k : ℕ) → i.mode ≡ Flat → IsQuiet (record (Input.with_held i k) { receiver = s })
  pressed s k flat = (λ none. absurd (some_more i.held k none), λ shut. absurd (shut flat))

  quiet_way : {r : Routing} → Way clicks pointed i dev r → IsQuiet r.state
  quiet_way (More k) = (λ none. absurd (some_more i.held k none), q.1)
  quiet_way (Lifts k held) = quiet_left (filter (λ j. not (j == k)) i.held) i q
  quiet_way (Free none (Hovers e calm flat)) = q
  quiet_way (Free none (Leaves new flat)) = (λ e. q.0 none, λ e. q.0 none)
  quiet_way (Free none (Switches new)) = (λ e. q.0 none, λ e. q.0 none)
  quiet_way (Free none (Clicks k is button flat)) = grind (arith, nat_tests, either)
  quiet_way (Free none (Types k flat)) = pressed i.focus k flat
  quiet_way (Free none other) = (λ e. refl, λ e. refl)
  quiet_way other = q

quiet_call : (sid : ℕ) (call : Call) (r : Reply) (i : InputState) → IsQuiet i → IsQuiet (input_after_call sid call r i)
quiet_call sid Close r i q = grind (arith, nat_tests, either)
quiet_call sid other r i q = q

quiet_after : (s : State) (e : Entry) → IsQuiet s.input → IsQuiet (after s e).input
quiet_after s (entry.Call sid call r) q = quiet_call sid call r s.input q
quiet_after s (entry.Input dev routed_) q = quiet_way _ _ _ dev q (routed s.config s.input s.stack dev).way
quiet_after s other q = q

pub quiet_steps : (s : State) (steps : List Step) → IsQuiet s.input → IsQuiet (after_steps s steps).input
quiet_steps s [] q = q
quiet_steps s (Serves e ∷ rest) q = quiet_steps (after s e) rest (quiet_after s e q)
quiet_steps s (Opens sid label ∷ rest) q = quiet_steps (opened sid label s) rest q
quiet_steps s (Restacks side sid v ∷ rest) q = quiet_steps (restacked side sid v s) rest q

pub quiet_along : (s : State) (journal : List Entry) → IsQuiet s.input → IsQuiet (replay_from s journal).input
quiet_along s [] q = q
quiet_along s (e ∷ rest) q = quiet_along (after s e) rest (quiet_after s e q)

-- ---- in a whole state

pub quiet_first : IsQuiet first_input
quiet_first = (λ e. refl, λ e. refl)

pub held_goes : (s : State) (dev : Device) → s.input.held ≢ []
    → All (λ d. s.input.receiver ≡ Some d.sid) (route s.config s.input s.stack dev).deliveries
held_goes s dev some =
    held_way _ _ _ dev (λ d. s.input.receiver ≡ Some d.sid) some
    (λ e. one_to (λ d. s.input.receiver ≡ Some d.sid) s.input.receiver e (λ t is. is))
    (routed s.config s.input s.stack dev).way

pub in_xray : (s : State) (dev : Device) → IsQuiet s.input → s.input.mode ≡ Xray
    → All (TellsFocus s) (route s.config s.input s.stack dev).deliveries
in_xray s dev q xray =
    let w = routed s.config s.input s.stack dev in
    shut_way _ _ _ dev (TellsFocus s) (λ flat. cc) (q.1 (λ flat. cc))
    (λ k is mode. let at = w.stays k is in rw (at.0, at.1) (focus_told s k))
    (λ k is kill. cc) w.way

pub in_kill : (s : State) (dev : Device) → IsQuiet s.input → s.input.mode ≡ Kill
    → All (KillsPointed s) (route s.config s.input s.stack dev).deliveries
in_kill s dev q kill =
    let w = routed s.config s.input s.stack dev in
    shut_way _ _ _ dev (KillsPointed s) (λ flat. cc) (q.1 (λ flat. cc)) (λ k is xray. cc)
    (λ k is mode. let at = w.stays k is in
    rw (at.0, at.1) (killed s (under_pointer s) (Input.with_held s.input k) refl))
    w.way
