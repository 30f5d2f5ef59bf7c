-- A client of before is never the one of its seat again.
use Rattle.std.proofs.Common.{Bool, List, None, Option, Some, [], ap, arith, false, get_or}
use Rattle.std.proofs.Common.{get_or-set_other, if◌then◌else◌, inl, inr, length, refl}
use Rattle.std.proofs.Common.{set, true, ℕ, ℤ, ◌+◌, ◌<◌, ◌∙◌, ◌∷◌, ◌≡◌}
use Rattle.std.proofs.Common.{◌≢◌, ◌≤◌, ◌⊎◌}
use Rattle.nit_host.proofs.Basics.{Act, Call, Calls, CameBy, Client, Comes, Does}
use Rattle.nit_host.proofs.Basics.{HostModel, IsFirst, Looks, Puts, Refreshes, Side, Turns}
use Rattle.nit_host.proofs.Basics.{Unseated, after_act, after_acts, called, cases_eq, cases_lt}
use Rattle.nit_host.proofs.Basics.{eq-eqb, fold-append, get_or-set_same, is_accepted}
use Rattle.nit_host.proofs.Basics.{is_client, length-set, most_sessions, nat_tests, ne_eqb}
use Rattle.nit_host.proofs.Basics.{next_client, put, refreshed, reply_to, seated, set_past}
use Rattle.nit_host.proofs.Basics.{since_coming, told, seat_turn, unless_for, unseated, unserved_call}
use Rattle.nit_host.proofs.Basics.{unserved_input, unserved_refresh, unserved_restack}
use Rattle.nit_host.proofs.Basics.{with_turn}
use Rattle.nit_events.specs.declared.call.Call.TheVariants as call

-- ---- what an act does to the turns

-- this act is a client that comes to this seat
record ComesNow (h : HostModel) (act : Act) : Type 0 where
  seat : ℕ
  label : List ℕ
  is : act ≡ Comes seat label
  takes : unseated h seat label ≡ None
  turns : (after_act h act).turns ≡ with_turn seat h.turns

abbrev Turns_by : HostModel → Act → Type 0
Turns_by h act = ((after_act h act).turns ≡ h.turns) ⊎ ComesNow h act

stays : {A : Type 0} (o : Option A) (h served : HostModel) → served.turns ≡ h.turns
    → (unless_for o served h).turns ≡ h.turns
stays None h served same = same
stays (Some why) h served same = refl

refresh_stays : (b : Bool) (h one other : HostModel) → one.turns ≡ h.turns → other.turns ≡ h.turns
    → (if b then one else other).turns ≡ h.turns
refresh_stays true h one other a b = a
refresh_stays false h one other a b = b

comes : (h : HostModel) (seat : ℕ) (label : List ℕ) (o : Option Unseated) → unseated h seat label ≡ o
    → Turns_by h (Comes seat label)
comes h seat label (Some why) o_is = inl (ap (λ o. (unless_for o (seated seat label h) h).turns) o_is)
comes h seat label None o_is = inr (record {
  seat = seat;
  label = label;
  is = refl;
  takes = o_is;
  turns = ap (λ o. (unless_for o (seated seat label h) h).turns) o_is;
})

by_act : (h : HostModel) (act : Act) → Turns_by h act
by_act h (Calls client c) = inl (stays (unserved_call h client c) h (called client.seat c h) refl)
by_act h (Refreshes client x y w height words) =
    inl (stays (unserved_refresh h client words) h (refreshed client.seat x y w height words h)
    (refresh_stays (is_accepted (reply_to h client.seat (call.Refresh x y w height))) h _ _ refl refl))
by_act h (Does dev) = inl (stays (unserved_input h dev) h (told dev h) refl)
by_act h (Puts side client view) = inl (stays (unserved_restack h client view) h (put side client.seat view h) refl)
by_act h (Comes seat label) = comes h seat label (unseated h seat label) refl
by_act h Looks = inl refl

-- ---- along acts

-- the turn that a seat is given, or the one that it had
set_either : (of : List ℕ) (seat t n : ℕ) → (get_or (set of seat n) t 0 ≡ n) ⊎ (get_or (set of seat n) t 0 ≡ get_or of t 0)
set_either of seat t n =
    elim (cases_eq t seat) [
      | inl own ↦ elim (cases_lt seat (length of)) [
        | inl inside ↦ inl (rw own (get_or-set_same of seat n 0 inside))
        | inr past ↦ inr (ap (λ l. get_or l t 0) (set_past of seat n past))
      ]
      | inr other ↦ inr (get_or-set_other of seat t n 0 other)
    ]

-- so many clients have come at least
pub came_on : (h : HostModel) (acts : List Act) (n : ℕ) → n ≤ h.turns.given → n ≤ (after_acts h acts).turns.given
came_on h [] n many = many
came_on h (act ∷ rest) n many =
    came_on (after_act h act) rest n
    (elim (by_act h act) [
      | inl same ↦ rw same many
      | inr now ↦ rw now.turns (omega (arith, many))
    ])

-- a seat whose turn is past n goes on so
pub past_on : (h : HostModel) (acts : List Act) (seat n : ℕ) → n ≤ h.turns.given → n < seat_turn h seat
    → n < seat_turn (after_acts h acts) seat
past_on h [] seat n many past = past
past_on h (act ∷ rest) seat n many past =
    elim (by_act h act) [
      | inl same ↦ past_on (after_act h act) rest seat n (rw same many) (rw same past)
      | inr now ↦ past_on (after_act h act) rest seat n (rw now.turns (omega (arith, many)))
          (rw now.turns (elim (set_either h.turns.of now.seat seat (h.turns.given + 1)) [
            | inl given ↦ omega (arith, given, many)
            | inr kept ↦ omega (arith, kept, past)
          ]))
    ]

pub many_on : (h : HostModel) (acts : List Act) → length (after_acts h acts).turns.of ≡ length h.turns.of
many_on h [] = refl
many_on h (act ∷ rest) =
    many_on (after_act h act) rest
    ∙ elim (by_act h act) [
      | inl same ↦ ap (λ (t : Turns). length t.of) same
      | inr now ↦ ap (λ (t : Turns). length t.of) now.turns ∙ length-set h.turns.of now.seat (h.turns.given + 1)
    ]

-- where nobody comes to the seat its turn stays
pub turn_stays : (h : HostModel) (acts : List Act) (seat : ℕ) → (CameBy h acts seat → ⊥)
    → seat_turn (after_acts h acts) seat ≡ seat_turn h seat
turn_stays h [] seat none = refl
turn_stays h (act ∷ rest) seat none =
    turn_stays (after_act h act) rest seat
    (λ c. none (record {
      before = act ∷ c.before;
      label = c.label;
      after = c.after;
      act = ap (λ l. act ∷ l) c.act;
      seated = c.seated;
    }))
    ∙ elim (by_act h act) [
      | inl same ↦ ap (λ (t : Turns). get_or t.of seat 0) same
      | inr now ↦ ap (λ (t : Turns). get_or t.of seat 0) now.turns ∙ by_seat now (cases_eq seat now.seat)
    ]
  where
    by_seat : (now : ComesNow h act) → (seat ≡ now.seat) ⊎ (seat ≢ now.seat)
        → get_or (set h.turns.of now.seat (h.turns.given + 1)) seat 0 ≡ get_or h.turns.of seat 0
    by_seat now (inl own) = absurd (none (record {
      before = [];
      label = now.label;
      after = rest;
      act = rw (now.is, own) refl;
      seated = rw own now.takes;
    }))
    by_seat now (inr other) = get_or-set_other h.turns.of now.seat seat (h.turns.given + 1) 0 other

-- ---- a client that has come

module _ (h : HostModel) (seat : ℕ) (label : List ℕ) (takes : unseated h seat label ≡ None)
    (known : seat < length h.turns.of) where
  abbrev now : HostModel
  now = after_act h (Comes seat label)

  turns_now : now.turns ≡ with_turn seat h.turns
  turns_now = ap (λ o. (unless_for o (seated seat label h) h).turns) takes

  turn_now : seat_turn now seat ≡ h.turns.given + 1
  turn_now = ap (λ (t : Turns). get_or t.of seat 0) turns_now
      ∙ get_or-set_same h.turns.of seat (h.turns.given + 1) 0 known

  given_now : now.turns.given ≡ h.turns.given + 1
  given_now = ap (λ (t : Turns). t.given) turns_now

  pub stays_present : (rest : List Act) → (CameBy now rest seat → ⊥)
      → is_client (since_coming h seat label rest) (next_client h seat) ≡ true
  stays_present rest none = eq-eqb _ _ (turn_stays now rest seat none ∙ turn_now)

  pub is_former : (rest : List Act) → CameBy now rest seat
      → is_client (since_coming h seat label rest) (next_client h seat) ≡ false
  is_former rest came =
      let there = after_acts now came.before in
      let next = after_act there (Comes seat came.label) in
      let split : after_acts now rest ≡ after_acts next came.after =
      ap (after_acts now) came.act ∙ fold-append after_act now came.before (Comes seat came.label ∷ came.after) in
      let many : h.turns.given + 1 ≤ there.turns.given =
      came_on now came.before (h.turns.given + 1) (omega (arith, given_now)) in
      let turns_next : next.turns ≡ with_turn seat there.turns =
      ap (λ o. (unless_for o (seated seat came.label there) there).turns) came.seated in
      let long : seat < length there.turns.of =
      omega (
        arith,
        known,
        many_on now came.before,
        ap (λ (t : Turns). length t.of) turns_now,
        length-set h.turns.of seat (h.turns.given + 1),
      ) in
      let turn_next : seat_turn next seat ≡ there.turns.given + 1 =
      ap (λ (t : Turns). get_or t.of seat 0) turns_next
      ∙ get_or-set_same there.turns.of seat (there.turns.given + 1) 0 long in
      let past = past_on next came.after seat (h.turns.given + 1)
      (omega (arith, many, ap (λ (t : Turns). t.given) turns_next)) (omega (arith, turn_next, many)) in
      ne_eqb _ _ (λ same. let wrong = ap (λ m. seat_turn m seat) split in omega (arith, same, wrong, past))

-- ---- since a host opened

pub first_turns : (first : HostModel) → IsFirst first → length first.turns.of ≡ most_sessions
first_turns first (config, inl is) = ap (λ (h : HostModel). length h.turns.of) is
first_turns first (config, inr is) = ap (λ (h : HostModel). length h.turns.of) is

pub known_turns : (first : HostModel) (acts : List Act) (seat : ℕ) → IsFirst first → seat < most_sessions
    → seat < length (after_acts first acts).turns.of
known_turns first acts seat is few = omega (arith, many_on first acts, first_turns first is, few)

-- ---- a call that names another client

module _ (h : HostModel) (client : Client) (none : is_client h client ≡ false) where
  pub no_call : (c : Call) → after_act h (Calls client c) ≡ h
  no_call c = grind (arith, nat_tests)

  pub no_refresh : (x y : ℤ) (width height : ℕ) (words : List ℕ) → after_act h (Refreshes client x y width height words) ≡ h
  no_refresh x y width height words = grind (arith, nat_tests)

  pub no_restack : (side : Side) (v : ℕ) → after_act h (Puts side client v) ≡ h
  no_restack side v = grind (arith, nat_tests)
