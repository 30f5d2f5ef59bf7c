-- Which clicks are refused since another client is there than the last look showed.
use Rattle.std.proofs.Common.{Bool, List, None, Option, Some, [], ap, arith, false, get_or}
use Rattle.std.proofs.Common.{get_or-set_other, if◌then◌else◌, inl, inr, not, refl, sym, true, ℕ}
use Rattle.std.proofs.Common.{◌<◌, ◌==◌, ◌∙◌, ◌∷◌, ◌≡◌, ◌⊎◌}
use Rattle.nit_host.proofs.Basics.{Act, Calls, CameBy, CameSince, Comes, Device, Does, HasNoLook}
use Rattle.nit_host.proofs.Basics.{HostModel, IsNoLook, Looks, Puts, Refreshes, Unseated, after_act}
use Rattle.nit_host.proofs.Basics.{after_acts, after_look, and_parts, called, cases_eq, false≢true}
use Rattle.nit_host.proofs.Basics.{get_or-replicate, holds_nothing, is_accepted, is_as_shown}
use Rattle.nit_host.proofs.Basics.{is_button, is_input, is_moved, is_same_client, looked}
use Rattle.nit_host.proofs.Basics.{most_sessions, nat_tests, nobody_came, owner_then, put}
use Rattle.nit_host.proofs.Basics.{refreshed, reply_to, seated, told, under_pointer, unless_for}
use Rattle.nit_host.proofs.Basics.{unseated, unserved_call, unserved_input, unserved_refresh}
use Rattle.nit_host.proofs.Basics.{unserved_restack}
use Rattle.nit_host.proofs.Clicks.{behind, shown_there}
use Rattle.nit_events.specs.declared.call.Call.TheVariants as call
use Rattle.nit_events.specs.declared.device.Device.TheVariants as device
use Rattle.nit_host.specs.declared.refusal.Unserved.TheVariants as why

-- ---- what is refused

-- the button of a click that is refused, and that another client is there
record Refused (h : HostModel) (dev : Device) : Type 0 where
  code : ℕ
  press : dev ≡ device.Press code
  button : is_button code ≡ true
  free : h.state.input.held ≡ []
  other : is_as_shown h.seen h.state ≡ false

because : (b m : Bool) (left : ℕ)
    → (if not b then Some why.BadDevice else if m then Some why.Moved
    else if left == 0 then Some why.WornOut else None) ≡ Some why.Moved → m ≡ true
because true true left is = refl
because false m left is = cc
because true false left is = by_left (left == 0) is
  where
    by_left : (z : Bool) → (if z then Some why.WornOut else None) ≡ Some why.Moved → false ≡ true
    by_left true is = cc
    by_left false is = cc

held_none : (held : List ℕ) → holds_nothing held ≡ true → held ≡ []
held_none [] is = refl
held_none (k ∷ held) is = cc

refused : (h : HostModel) (dev : Device) → is_moved h.seen h.state dev ≡ true → Refused h dev
refused h (device.Press k) is =
    let parts = and_parts (is_button k) _ is in
    let more = and_parts (holds_nothing h.state.input.held) _ parts.1 in
    record {
      code = k;
      press = refl;
      button = parts.0;
      free = held_none h.state.input.held more.0;
      other = grind (arith, nat_tests);
    }
refused h (device.Release k) is = cc
refused h (device.Wheel n) is = cc
refused h (device.Motion x y) is = cc

why_refused : (h : HostModel) (dev : Device) → unserved_input h dev ≡ Some why.Moved → Refused h dev
why_refused h dev is = refused h dev (because (is_input dev) (is_moved h.seen h.state dev) h.left is)

pub clicks_refused : (h : HostModel) (dev : Device) → unserved_input h dev ≡ Some why.Moved
    → (k : ℕ) × (dev ≡ device.Press k) × (is_button k ≡ true) × (h.state.input.held ≡ [])
clicks_refused h dev is =
    let r = why_refused h dev is in
    (r.code, r.press, r.button, r.free)

-- ---- who has come

abbrev HasCome : HostModel → ℕ → Type 0
HasCome h seat = get_or h.seen.came seat true ≡ true

-- what leaves the marks, served or not
marks_stay : {A : Type 0} (o : Option A) (h served : HostModel) (seat : ℕ) → served.seen.came ≡ h.seen.came
    → HasCome (unless_for o served h) seat → HasCome h seat
marks_stay None h served seat same is = sym (ap (λ l. get_or l seat true) same) ∙ is
marks_stay (Some why) h served seat same is = is

refreshed_marks : (b : Bool) (h one other : HostModel) → one.seen.came ≡ h.seen.came → other.seen.came ≡ h.seen.came
    → (if b then one else other).seen.came ≡ h.seen.came
refreshed_marks true h one other a b = a
refreshed_marks false h one other a b = b

comes_to : (h : HostModel) (t seat : ℕ) (label : List ℕ) (o : Option Unseated) → unseated h t label ≡ o
    → HasCome (unless_for o (seated t label h) h) seat → HasCome h seat ⊎ ((t ≡ seat) × (unseated h t label ≡ None))
comes_to h t seat label (Some why) o_is is = inl is
comes_to h t seat label None o_is is =
    elim (cases_eq seat t) [
      | inl e ↦ inr (sym e, o_is)
      | inr other ↦ inl (sym (get_or-set_other h.seen.came t seat true true other) ∙ is)
    ]

come_by : (h : HostModel) (act : Act) (rest : List Act) (seat : ℕ) → IsNoLook act → HasCome (after_act h act) seat
    → HasCome h seat ⊎ CameBy h (act ∷ rest) seat
come_by h (Calls t c) rest seat quiet is =
    inl (marks_stay (unserved_call h t c) h (called t.seat c h) seat refl is)
come_by h (Refreshes t x y w height words) rest seat quiet is =
    inl (marks_stay (unserved_refresh h t words) h (refreshed t.seat x y w height words h) seat
    (refreshed_marks (is_accepted (reply_to h t.seat (call.Refresh x y w height))) h _ _ refl refl) is)
come_by h (Puts side t view) rest seat quiet is =
    inl (marks_stay (unserved_restack h t view) h (put side t.seat view h) seat refl is)
come_by h (Does dev) rest seat quiet is = inl (marks_stay (unserved_input h dev) h (told dev h) seat refl is)
come_by h (Comes t label) rest seat quiet is =
    elim (comes_to h t seat label (unseated h t label) refl is) [
      | inl before ↦ inl before
      | inr come ↦ inr (record {
        before = [];
        label = label;
        after = rest;
        act = rw (← come.0) refl;
        seated = rw (← come.0) come.1;
      })
    ]
come_by h Looks rest seat quiet is = absurd quiet

came_by : (h : HostModel) (acts : List Act) (seat : ℕ) → HasNoLook acts → HasCome (after_acts h acts) seat
    → HasCome h seat ⊎ CameBy h acts seat
came_by h [] seat none is = inl is
came_by h (act ∷ rest) seat none is =
    elim (came_by (after_act h act) rest seat none.1 is) [
      | inl there ↦ come_by h act rest seat none.0 there
      | inr by_rest ↦ inr (record {
        before = act ∷ by_rest.before;
        label = by_rest.label;
        after = by_rest.after;
        act = ap (λ l. act ∷ l) by_rest.act;
        seated = by_rest.seated;
      })
    ]

-- a click is refused at the seat that was shown only where a client has come to it
not_same : (came : List Bool) (o : Option ℕ) → is_same_client came o o ≡ false
    → (seat : ℕ) × (o ≡ Some seat) × (get_or came seat true ≡ true)
not_same came None is = cc
not_same came (Some seat) is = (seat, refl, grind (arith, nat_tests))

nobody_at : (seat : ℕ) → seat < most_sessions → get_or nobody_came seat true ≡ false
nobody_at seat few = get_or-replicate most_sessions seat false true few

since_look : (h : HostModel) (acts rest : List Act) (seat : ℕ) → HasNoLook rest
    → HasCome (after_acts (looked (after_acts h acts)) rest) seat → seat < most_sessions → CameSince h acts rest seat
since_look h acts rest seat none is few =
    elim (came_by (looked (after_acts h acts)) rest seat none is) [
      | inl there ↦ absurd (false≢true (sym (nobody_at seat few) ∙ there))
      | inr by_rest ↦ record {
        before = by_rest.before;
        label = by_rest.label;
        after = by_rest.after;
        act = by_rest.act;
        seated = ap (λ (n : HostModel). unseated n seat by_rest.label) (behind h acts by_rest.before) ∙ by_rest.seated;
      }
    ]

pub clicks_moved : (h : HostModel) (acts rest : List Act) (dev : Device) → HasNoLook rest
    → unserved_input (after_look h acts rest) dev ≡ Some why.Moved
    → owner_then (after_acts h acts).state (after_look h acts rest).state ≡ under_pointer (after_look h acts rest).state
    → (seat : ℕ) × (under_pointer (after_look h acts rest).state ≡ Some seat)
    × (seat < most_sessions → CameSince h acts rest seat)
clicks_moved h acts rest dev none is same =
    let now = after_acts (looked (after_acts h acts)) rest in
    let now_is = behind h acts rest in
    let r = why_refused now dev (rw now_is at is) in
    let shown = shown_there (after_acts h acts) rest none ∙ (rw now_is at same) in
    let off = not_same now.seen.came (under_pointer now.state)
    (sym (ap (λ o. is_same_client now.seen.came o (under_pointer now.state)) shown) ∙ r.other) in
    (off.0, rw now_is off.1, since_look h acts rest off.0 none off.2)
