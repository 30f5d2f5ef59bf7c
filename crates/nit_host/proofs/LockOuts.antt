-- A client is locked out only by a click that kills, while nothing is held.
use Rattle.std.proofs.Common.{Bool, List, None, Option, Some, [], ap, false, if◌then◌else◌, inl}
use Rattle.std.proofs.Common.{inr, not, true, ◌&&◌, get_or-set_other, length, refl, set, sym, ℕ}
use Rattle.std.proofs.Common.{◌++◌, ◌==◌, ◌∙◌, ◌∷◌, ◌≡◌, ◌⊎◌}
use Rattle.nit_host.proofs.Basics.{Act, Call, Calls, Comes, Delivery, Device, Does, Event}
use Rattle.nit_host.proofs.Basics.{HostModel, IsKillBy, IsKillClick, IsLockedOut, Item, Looks, Mode}
use Rattle.nit_host.proofs.Basics.{Puts, Refreshes, Reply, Session, State, Status, TakesClick}
use Rattle.nit_host.proofs.Basics.{accepted, after_act, arith, by_life, by_refusal, called}
use Rattle.nit_host.proofs.Basics.{cases_eq, cases_lt, cond_both, delivered, eqb-true}
use Rattle.nit_host.proofs.Basics.{first_session, get_or-set_same, is_kill, kills, nat_tests, put}
use Rattle.nit_host.proofs.Basics.{receive, refreshed, refusal, seated, session, session_in}
use Rattle.nit_host.proofs.Basics.{set_past, taking, told, unless_for, unseated, unserved_call}
use Rattle.nit_host.proofs.Basics.{unserved_input, unserved_refresh, unserved_restack}
use Rattle.nit_host.proofs.ActLemmas.{same_call}
use Rattle.nit_events.specs.Input
use Rattle.nit_events.specs.declared.call.Call.TheVariants as call
use Rattle.nit_events.specs.declared.device.Device.TheVariants as device
use Rattle.nit_events.specs.declared.device.Mode.TheVariants as mode
use Rattle.nit_events.specs.declared.event.Event.TheVariants as event
use Rattle.nit_events.specs.declared.event.Item.TheVariants as item
use Rattle.nit_events.specs.declared.event.Status.TheVariants as status
use Rattle.nit_journal.specs.Reach.{under_pointer}
use Rattle.nit_journal.specs.Session.{serve}
use Rattle.nit_journal.specs.State.{route}

-- ---- what a device event delivers

-- it locks nobody out, or it is the click that kills, and delivers that alone
data Tells (s : State) (dev : Device) : List Delivery → Type 0 where
  Quiet : {ds : List Delivery} → kills ds ≡ false → Tells s dev ds
  Kills : (t : ℕ) → IsKillClick s dev t → Tells s dev (record { sid = t; item = item.Kill } ∷ [])

quiet_both : (a b : List Delivery) → kills a ≡ false → kills b ≡ false → kills (a ++ b) ≡ false
quiet_both [] b none rest = rest
quiet_both (d ∷ a) b none rest = grind (arith, nat_tests, quiet_both a b)

to_quiet : (o : Option ℕ) (e : Event) → kills (Input.to o e) ≡ false
to_quiet None e = refl
to_quiet (Some t) e = refl

hovering_quiet : (m : Mode) (pointed : Option ℕ) (i : Input.InputState) (e : Event)
    → kills (Input.hovering m pointed i e).deliveries ≡ false
hovering_quiet mode.Flat pointed i e = by_same (Input.is_same i.hover pointed)
  where
    by_same : (b : Bool)
        → kills ((if b then [] else Input.to i.hover event.Leave) ++ Input.to pointed e) ≡ false
    by_same true = to_quiet pointed e
    by_same false =
        quiet_both (Input.to i.hover event.Leave) (Input.to pointed e) (to_quiet i.hover event.Leave)
        (to_quiet pointed e)
hovering_quiet other pointed i e = refl

moving_quiet : (held : List ℕ) (pointed : Option ℕ) (i : Input.InputState) (e : Event)
    → kills (Input.moving held pointed i e).deliveries ≡ false
moving_quiet [] pointed i e = hovering_quiet i.mode pointed i e
moving_quiet (k ∷ ks) pointed i e = to_quiet i.receiver e

leaving_quiet : (m : Mode) (i : Input.InputState) (new : Mode) → kills (Input.leaving m i new).deliveries ≡ false
leaving_quiet mode.Flat i new = to_quiet i.hover event.Leave
leaving_quiet other i new = refl

switching_quiet : (held : List ℕ) (i : Input.InputState) (new : Mode)
    → kills (Input.switching held i new).deliveries ≡ false
switching_quiet [] i new = leaving_quiet i.mode i new
switching_quiet (k ∷ ks) i new = refl

focusing_quiet : (clicks : Bool) (pointed : Option ℕ) (i : Input.InputState)
    → kills (Input.focusing clicks pointed i).deliveries ≡ false
focusing_quiet clicks pointed i = by_test (Input.takes_focus clicks pointed && not (Input.is_same pointed i.focus))
  where
    by_test : (b : Bool) → kills (if b then record {
      state = record i { focus = pointed };
      deliveries = Input.to i.focus event.FocusLeave ++ Input.to pointed event.FocusEnter;
    } else Input.ignored i).deliveries ≡ false
    by_test true =
        quiet_both (Input.to i.focus event.FocusLeave) (Input.to pointed event.FocusEnter)
        (to_quiet i.focus event.FocusLeave) (to_quiet pointed event.FocusEnter)
    by_test false = refl

module _ (s : State) (k : ℕ) where
  abbrev Are : Input.Routing → Type 0
  Are r = Tells s (device.Press k) r.deliveries

  killing : k ≡ Input.kill_button → s.input.held ≡ [] → s.input.mode ≡ mode.Kill → (p : Option ℕ) → under_pointer s ≡ p
      → (i : Input.InputState) → Are (Input.killing p i)
  killing is free kill None at i = Quiet refl
  killing is free kill (Some t) at i =
      Kills t (record { press = ap (λ n. device.Press n) is; free = free; mode = kill; on = at })

  first_press : s.input.held ≡ [] → (m : Mode) → s.input.mode ≡ m → (clicks : Bool) (i : Input.InputState)
      → Are (Input.first_press m clicks (under_pointer s) i k)
  first_press free mode.Flat is clicks i =
      cond_both (Input.is_button k) _ _ Are
      (λ button. Quiet (quiet_both (Input.focusing clicks (under_pointer s) i).deliveries
      (Input.to (under_pointer s) (event.Press k))
      (focusing_quiet clicks (under_pointer s) i) (to_quiet (under_pointer s) (event.Press k))))
      (λ key. Quiet (to_quiet i.focus (event.Press k)))
  first_press free mode.Xray is clicks i =
      cond_both (Input.is_button k) _ _ (λ w. Are (Input.unreceived w))
      (λ button. Quiet (focusing_quiet clicks (under_pointer s) i)) (λ key. Quiet refl)
  first_press free mode.Kill is clicks i =
      cond_both (k == Input.kill_button) _ _ (λ w. Are (Input.unreceived w))
      (λ kills. killing (eqb-true k Input.kill_button kills) free is (under_pointer s) refl i) (λ apart. Quiet refl)

  pressing : (held : List ℕ) → s.input.held ≡ held → (clicks : Bool)
      → Are (Input.pressing held clicks (under_pointer s) s.input k)
  pressing [] is clicks = first_press is s.input.mode refl clicks (Input.with_held s.input k)
  pressing (j ∷ js) is clicks = Quiet (to_quiet s.input.receiver (event.Press k))

  press : (clicks : Bool) → Are (Input.press clicks (under_pointer s) s.input k)
  press clicks =
      cond_both (k == Input.xray_key) _ _ Are
      (λ xray. Quiet (switching_quiet s.input.held s.input (Input.xray_mode s.input.mode))) (λ no_xray.
      cond_both (k == Input.kill_key) _ _ Are
      (λ kill. Quiet (switching_quiet s.input.held s.input (Input.kill_mode s.input.mode))) (λ no_kill.
      cond_both (Input.is_held s.input k) _ _ Are (λ held. Quiet refl)
      (λ free. pressing s.input.held refl clicks)))

tells : (s : State) (dev : Device) → Tells s dev (route s.config s.input s.stack dev).deliveries
unfolding route
tells s (device.Motion x y) = Quiet (moving_quiet s.input.held _ _ _)
tells s (device.Wheel n) = Quiet (moving_quiet s.input.held _ _ _)
tells s (device.Press k) = press s k _
tells s (device.Release k) =
    cond_both (Input.is_held s.input k) _ _ (λ (r : Input.Routing). Tells s (device.Release k) r.deliveries)
    (λ held. Quiet (to_quiet s.input.receiver (event.Release k))) (λ apart. Quiet refl)

-- ---- the sessions

abbrev AreOut : List Session → ℕ → Type 0
AreOut sessions t = (session_in sessions t).status ≡ status.Killed

-- one session is another one now, which is locked out only where it was
out_before : (sessions : List Session) (sid t : ℕ) (u : Session) → (u.status ≡ status.Killed → AreOut sessions sid)
    → AreOut (set sessions sid u) t → AreOut sessions t
out_before sessions sid t u own is =
    elim (cases_eq t sid) [
      | inr other ↦
          ap (λ (v : Session). v.status) (sym (get_or-set_other sessions sid t u (first_session 0) other)) ∙ is
      | inl e ↦ elim (cases_lt sid (length sessions)) [
        | inl inside ↦
            let here = ap (λ n. (session_in (set sessions sid u) n).status) e in
            let put = ap (λ (v : Session). v.status) (get_or-set_same sessions sid u (first_session 0) inside) in
            ap (λ n. (session_in sessions n).status) e ∙ own (sym put ∙ sym here ∙ is)
        | inr past ↦ ap (λ l. (session_in l t).status) (sym (set_past sessions sid u past)) ∙ is
      ]
    ]

-- an item that locks nobody out
told_out : (st : Status) (i : Item) (u : Session) → u.status ≡ st → is_kill i ≡ false
    → (by_life st i u).status ≡ status.Killed → u.status ≡ status.Killed
told_out status.Live (item.Event e) u was quiet is =
    cond_both _ _ _ (λ (v : Session). v.status ≡ status.Killed → u.status ≡ status.Killed) (λ few out. out)
    (λ full out. out) is
told_out status.Live item.Kill u was quiet is = cc
told_out other i u was quiet is = is

quiet_parts : (d : Delivery) (ds : List Delivery) → kills (d ∷ ds) ≡ false
    → (is_kill d.item ≡ false) × (kills ds ≡ false)
quiet_parts d ds none = (grind (arith, nat_tests), grind (arith, nat_tests))

quiet_out : (ds : List Delivery) (sessions : List Session) (t : ℕ) → kills ds ≡ false
    → AreOut (delivered ds sessions) t → AreOut sessions t
quiet_out [] sessions t none is = is
quiet_out (d ∷ ds) sessions t none is =
    let own = session_in sessions d.sid in
    let parts = quiet_parts d ds none in
    out_before sessions d.sid t (receive own d.item) (told_out own.status d.item own refl parts.0)
    (quiet_out ds (set sessions d.sid (receive own d.item)) t parts.1 is)

-- a call locks nobody out
served_out : (u : Session) (c : Call) → (serve u c).session.status ≡ status.Killed → u.status ≡ status.Killed
unfolding serve
served_out u c = unless_refused (refusal u c)
  where
    let_in : (c : Call) → (accepted u c).session.status ≡ status.Killed → u.status ≡ status.Killed
    let_in call.Take is = taken u.queue is
      where
        taken : (queue : List Event) → (taking queue u).session.status ≡ status.Killed → u.status ≡ status.Killed
        taken [] is = is
        taken (e ∷ es) is = is
    let_in call.Close is = cc
    let_in other is = is

    unless_refused : (o : Option Reply) → (by_refusal u c o).session.status ≡ status.Killed
        → u.status ≡ status.Killed
    unless_refused (Some r) is = is
    unless_refused None is = let_in c is

-- ---- the host

-- the act is the click that kills this seat's client, and the host serves it
abbrev LocksOut : HostModel → Act → ℕ → Type 0
LocksOut h act seat = IsKillBy act h.state seat × TakesClick h Input.kill_button

abbrev OutAfter : HostModel → Act → HostModel → ℕ → Type 0
OutAfter h act h' seat = IsLockedOut h'.state seat → IsLockedOut h.state seat ⊎ LocksOut h act seat

-- what is not served changes nothing
unless : {A : Type 0} (o : Option A) (h served : HostModel) (act : Act) (seat : ℕ)
    → (o ≡ None → OutAfter h act served seat) → OutAfter h act (unless_for o served h) seat
unless None h served act seat by_it is = by_it refl is
unless (Some why) h served act seat by_it is = inl is

by_device : (h : HostModel) (dev : Device) (seat : ℕ) → unserved_input h dev ≡ None
    → {ds : List Delivery} → Tells h.state dev ds → AreOut (delivered ds h.state.sessions) seat
    → IsLockedOut h.state seat ⊎ LocksOut h (Does dev) seat
by_device h dev seat served (Quiet {ds} none) is = inl (quiet_out ds h.state.sessions seat none is)
by_device h dev seat served (Kills t click) is =
    elim (cases_eq seat t) [
      | inl e ↦ inr (
        rw e click,
        record { button = refl; free = click.free; served = rw click.press at served },
      )
      | inr other ↦
          inl (ap (λ (v : Session). v.status) (sym (get_or-set_other h.state.sessions t seat
          (receive (session_in h.state.sessions t) item.Kill) (first_session 0) other)) ∙ is)
    ]

by_call : (h : HostModel) (act : Act) (asker : ℕ) (c : Call) (seat : ℕ) → OutAfter h act (called asker c h) seat
by_call h act asker c seat is =
    inl (out_before h.state.sessions asker seat (serve (session h.state asker) c).session
    (served_out (session h.state asker) c) is)

pub locked_by_act : (h : HostModel) (act : Act) (seat : ℕ) → OutAfter h act (after_act h act) seat
locked_by_act h (Calls client c) seat =
    unless (unserved_call h client c) h (called client.seat c h) (Calls client c) seat
    (λ none. by_call h (Calls client c) client.seat c seat)
locked_by_act h (Refreshes client x y w height words) seat =
    let act = Refreshes client x y w height words in
    unless (unserved_refresh h client words) h (refreshed client.seat x y w height words h) act seat
    (λ none is. by_call h act client.seat (call.Refresh x y w height) seat
    (rw (same_call h client.seat x y w height words) at is))
locked_by_act h (Puts side client view) seat =
    unless (unserved_restack h client view) h (put side client.seat view h) (Puts side client view) seat (λ none. inl)
locked_by_act h (Does dev) seat =
    unless (unserved_input h dev) h (told dev h) (Does dev) seat
    (λ none. by_device h dev seat none (tells h.state dev))
locked_by_act h (Comes asker label) seat =
    unless (unseated h asker label) h (seated asker label h) (Comes asker label) seat
    (λ none is. inl (out_before h.state.sessions asker seat (first_session _) (λ wrong. cc) is))
locked_by_act h Looks seat = inl
