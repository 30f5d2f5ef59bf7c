-- What holds of the sessions that the input knows and points at holds of those that a device event tells, and of
-- those that are known afterwards. And who is killed is killed alone, and forgotten.
use Rattle.nit_journal.proofs.Basics.{All, All-append, All-head, All-nil, All-tail, All_found}
use Rattle.nit_journal.proofs.Basics.{Configuration, Delivery, Device, Event, InputState, Point}
use Rattle.nit_journal.proofs.Basics.{Routing, arith, bar_rows, cond_both, covers, either, in_bar}
use Rattle.nit_journal.proofs.Basics.{is_kill, kills, nat_tests, option_map, or_from, owner, point}
use Rattle.nit_journal.proofs.Basics.{route}
use Rattle.nit_stack.specs.declared.view.View.{View}
use Rattle.std.proofs.Common.{Bool, IfSome, List, None, Option, Some, [], false, find, inl, inr}
use Rattle.std.proofs.Common.{refl, ℕ, ◌∷◌, ◌≡◌, ◌≢◌, ◌⊎◌}
use Rattle.nit_events.specs.declared.event.Event.TheVariants as event
use Rattle.nit_events.specs.declared.event.Item.TheVariants as item
use Rattle.nit_events.specs.Input
use Rattle.nit_journal.proofs.Ways.{Clicks, Free, Hovers, Kills, Leaves, Lifts, More, Moves}
use Rattle.nit_journal.proofs.Ways.{Nothing, Points, Switches, Types, Unseen, Way, one_to, routed}

-- such a session is told, and not killed
abbrev pub IsTold : (ℕ → Type 0) → Delivery → Type 0
IsTold P d = P d.sid × (is_kill d.item ≡ false)

-- this holds of the receiver, the hovered session and the focused one
abbrev pub AreKnown : (ℕ → Type 0) → InputState → Type 0
AreKnown P i = IfSome i.receiver P × IfSome i.hover P × IfSome i.focus P

-- nobody is killed
abbrev pub IsHarmless : (ℕ → Type 0) → Routing → Type 0
IsHarmless P r = AreKnown P r.state × All (IsTold P) r.deliveries

-- one session is killed, nobody else is told anything, and it is not known afterwards
pub record IsKilling (P : ℕ → Type 0) (r : Routing) : Type 0 where
  pub killed : ℕ
  pub was : P killed
  pub alone : r.deliveries ≡ record { sid = killed; item = item.Kill } ∷ []
  pub known : AreKnown (λ t. P t × (t ≢ killed)) r.state

abbrev pub IsStep : (ℕ → Type 0) → Routing → Type 0
IsStep P r = IsHarmless P r ⊎ IsKilling P r

-- ---- who is forgotten

forgets : (P : ℕ → Type 0) (s : ℕ) (other : Option ℕ) → IfSome other P
    → IfSome (Input.unless_it_is s other) (λ t. P t × (t ≢ s))
forgets P s None p = tt
forgets P s (Some t) p = grind (arith, nat_tests, cond_both)

pub forgotten : (P : ℕ → Type 0) (s : ℕ) (i : InputState) → AreKnown P i
    → AreKnown (λ t. P t × (t ≢ s)) (Input.forget i s)
forgotten P s i known = (forgets P s i.receiver known.0, forgets P s i.hover known.1, forgets P s i.focus known.2)

-- ---- the ways of a device event

told_to : (P : ℕ → Type 0) (s : Option ℕ) (e : Event) → IfSome s P → All (IsTold P) (Input.to s e)
told_to P s e p = one_to (IsTold P) s e (λ t is. (rw is at p, refl))

left : (P : ℕ → Type 0) (held : List ℕ) (i : InputState) → AreKnown P i → AreKnown P (Input.letting_go held i)
left P [] i known = (tt, known.1, known.2)
left P (k ∷ ks) i known = known

focusing : (P : ℕ → Type 0) (clicks : Bool) (pointed : Option ℕ) (i : InputState) → AreKnown P i → IfSome pointed P
    → IsHarmless P (Input.focusing clicks pointed i)
focusing P clicks pointed i known p = grind (arith, nat_tests, either, All-append, told_to, All-nil)

killing : (P : ℕ → Type 0) (pointed : Option ℕ) (i : InputState) → AreKnown P i → IfSome pointed P
    → IsStep P (Input.unreceived (Input.killing pointed i))
killing P None i known p = inl ((tt, known.1, known.2), All-nil (IsTold P))
killing P (Some s) i known p = inr (record {
  killed = s;
  was = p;
  alone = refl;
  known = let gone = forgotten P s i known in (tt, gone.1, gone.2);
})

module _ (P : ℕ → Type 0) (clicks : Bool) (pointed : Option ℕ) (i : InputState) (dev : Device) where
  step : AreKnown P i → IfSome pointed P → {r : Routing} → Way clicks pointed i dev r → IsStep P r
  step known p Nothing = inl (known, All-nil (IsTold P))
  step known p (Moves e calm) = inl (known, told_to P i.receiver e known.0)
  step known p (More k) = inl (known, told_to P i.receiver (event.Press k) known.0)
  step known p (Lifts k held) = grind (arith, nat_tests, told_to)
  step known p (Free none (Hovers e calm flat)) = grind (arith, nat_tests, All-append, either, All-nil, told_to)
  step known p (Free none (Leaves new flat)) = inl ((known.0, tt, known.2), told_to P i.hover event.Leave known.1)
  step known p (Free none (Switches new)) = inl (known, All-nil (IsTold P))
  step known p (Free none (Clicks k is button flat)) = grind (arith, nat_tests, All-append, told_to)
  step known p (Free none (Types k flat)) = inl ((known.2, known.1, known.2), told_to P i.focus (event.Press k) known.2)
  step known p (Free none (Points k is button xray)) = grind (arith, nat_tests)
  step known p (Free none (Kills k is kill)) = killing P pointed (Input.with_held i k) known p
  step known p (Free none (Unseen k)) = inl ((tt, known.1, known.2), All-nil (IsTold P))

module _ (P : ℕ → Type 0) where
  -- the session of the view that owns a pixel
  pointed_known : (rows : ℕ) (p : Point) (stack : List View) → All (λ v. P v.sid) stack
      → IfSome (option_map (λ v. v.sid) (owner rows stack p)) P
  pointed_known rows p stack all =
      either (λ (o : Option View). IfSome (option_map (λ w. w.sid) o) P) (in_bar rows p) None
      (find (λ v. covers v.rect p) stack) tt (found (find (λ v. covers v.rect p) stack) refl)
    where
      found : (o : Option View) → find (λ v. covers v.rect p) stack ≡ o → IfSome (option_map (λ v. v.sid) o) P
      found None e = tt
      found (Some v) e = All_found (λ w. P w.sid) (λ w. covers w.rect p) stack v all e

  pub route_step : (config : Configuration) (i : InputState) (stack : List View) (dev : Device) → AreKnown P i
      → All (λ v. P v.sid) stack → IsStep P (route config i stack dev)
  route_step config i stack dev known all =
      let w = routed config i stack dev in
      step P _ _ _ dev known (pointed_known (bar_rows config) (point w.x w.y) stack all) w.way

-- ---- kills

pub none_kills : (P : ℕ → Type 0) (ds : List Delivery) → All (IsTold P) ds → kills ds ≡ false
none_kills P [] h = refl
none_kills P (d ∷ ds) h = or_from (is_kill d.item) (kills ds) (All-head (IsTold P) d ds h).1
    (none_kills P ds (All-tail (IsTold P) d ds h))

-- any session
abbrev pub Any : ℕ → Type 0
Any s = Unit {0}

pub any_of : (o : Option ℕ) → IfSome o Any
any_of None = tt
any_of (Some s) = tt
