-- Clicks go where the user saw them go.
use Rattle.std.proofs.Common.{Bool, List, None, Option, Some, [], ap, arith, false, get_or}
use Rattle.std.proofs.Common.{get_or-set_other, if◌then◌else◌, inl, inr, length, nat_lt, not, refl}
use Rattle.std.proofs.Common.{set, slice_get, subst, sym, take, true, ℕ, ◌&&◌, ◌++◌, ◌+◌, ◌<◌, ◌==◌}
use Rattle.std.proofs.Common.{◌∙◌, ◌∷◌, ◌≡◌, ◌≢◌, ◌⊎◌}
use Rattle.nit_host.proofs.Basics.{Act, Calls, CameSince, Comes, Does, HasNoLook}
use Rattle.nit_host.proofs.Basics.{HostModel, IsClickBy, IsKillBy, IsLockedOut, IsNoLook, LastLook}
use Rattle.nit_host.proofs.Basics.{Looks, Point, Puts, Refreshes, State, TakesClick, Unserved, View}
use Rattle.nit_host.proofs.Basics.{WasShown, after_act, after_acts, after_look, bar_rows, cases_eq}
use Rattle.nit_host.proofs.Basics.{cases_lt, false≢true, fold-append, get_or-set_same}
use Rattle.nit_host.proofs.Basics.{get_or_from_slice_get, get_or_past, holds_nothing, in_bar}
use Rattle.nit_host.proofs.Basics.{is_accepted, is_as_shown, is_button, is_input, is_moved}
use Rattle.nit_host.proofs.Basics.{is_same_client, kill_button, length-set, looked}
use Rattle.nit_host.proofs.Basics.{nat_tests, no_look, option_map, owner, owner_on}
use Rattle.nit_host.proofs.Basics.{owner_shown, owner_then, point, reply_to, same_Some, seated}
use Rattle.nit_host.proofs.Basics.{shown_under_pointer, take_more, told, under_pointer, unless_for}
use Rattle.nit_host.proofs.Basics.{unseated, unserved_call, unserved_input, unserved_refresh}
use Rattle.nit_host.proofs.Basics.{unserved_restack, worn_out}
use Rattle.nit_host.proofs.ActMoves.{comes_by_act}
use Rattle.nit_host.proofs.LockOuts.{locked_by_act}
use Rattle.nit_events.specs.declared.call.Call.TheVariants as call
use Rattle.nit_events.specs.declared.device.Device.TheVariants as device
use Rattle.nit_host.specs.declared.refusal.Unserved.TheVariants as why

-- ---- what a look remembers

-- one more view
pub one_shown : (stack : List View) (i : ℕ) (v : View) (made : List View) → i < length stack
    → slice_get stack i ≡ Some v → made ≡ take i stack → made ++ v ∷ [] ≡ take (i + 1) stack
one_shown stack i v made inside at is =
    rw (is, take_more stack i v inside, get_or_from_slice_get stack i v v at) refl

-- whether nothing is held
pub nothing_held : (held : List ℕ) → (length held == 0) ≡ holds_nothing held
nothing_held [] = refl
nothing_held (k ∷ held) = grind (arith, nat_tests)

-- ---- what acts without a look leave of it

pub record Keeps (h h' : HostModel) : Type 0 where
  pub views : h'.seen.views ≡ h.seen.views
  pub bar : bar_rows h'.state.config ≡ bar_rows h.state.config
  pub width : h'.state.config.width ≡ h.state.config.width
  pub height : h'.state.config.height ≡ h.state.config.height
  pub came : (seat : ℕ) → get_or h'.seen.came seat true ≡ false → get_or h.seen.came seat true ≡ false

same : (h : HostModel) → Keeps h h
same h = record { views = refl; bar = refl; width = refl; height = refl; came = λ seat is. is }

both : {h h1 h2 : HostModel} → Keeps h h1 → Keeps h1 h2 → Keeps h h2
both a b = record {
  views = b.views ∙ a.views;
  bar = b.bar ∙ a.bar;
  width = b.width ∙ a.width;
  height = b.height ∙ a.height;
  came = λ seat is. a.came seat (b.came seat is);
}

unless : {A : Type 0} (o : Option A) {h served : HostModel} → Keeps h served → Keeps h (unless_for o served h)
unless None keeps = keeps
unless (Some why) {h} keeps = same h

either : (b : Bool) {h one other : HostModel} → Keeps h one → Keeps h other → Keeps h (if b then one else other)
either true a b = a
either false a b = b

-- a seat to which a client came has come
pub set_there : (came : List Bool) (seat : ℕ) → get_or (set came seat true) seat true ≡ true
set_there came seat =
    elim (cases_lt seat (length came)) [
      | inl inside ↦ get_or-set_same came seat true true inside
      | inr past ↦ get_or_past (set came seat true) seat true (omega (arith, past, length-set came seat true))
    ]

came_before : (came : List Bool) (seat t : ℕ) → get_or (set came seat true) t true ≡ false
    → get_or came t true ≡ false
came_before came seat t is =
    elim (cases_eq t seat) [
      | inl e ↦ absurd (false≢true (sym is ∙ ap (λ n. get_or (set came seat true) n true) e ∙ set_there came seat))
      | inr other ↦ sym (get_or-set_other came seat t true true other) ∙ is
    ]

one : (h : HostModel) (act : Act) → IsNoLook act → Keeps h (after_act h act)
one h (Calls client c) quiet =
    unless (unserved_call h client c) (record { views = refl; bar = refl; width = refl; height = refl; came = λ t is. is })
one h (Refreshes client x y w height words) quiet =
    unless (unserved_refresh h client words)
    (either (is_accepted (reply_to h client.seat (call.Refresh x y w height)))
    (record { views = refl; bar = refl; width = refl; height = refl; came = λ t is. is }) (record { views = refl; bar = refl; width = refl; height = refl; came = λ t is. is }))
one h (Does dev) quiet = unless (unserved_input h dev) (record { views = refl; bar = refl; width = refl; height = refl; came = λ t is. is })
one h (Puts side client view) quiet =
    unless (unserved_restack h client view) (record { views = refl; bar = refl; width = refl; height = refl; came = λ t is. is })
one h (Comes seat label) quiet =
    unless (unseated h seat label)
    (record { views = refl; bar = refl; width = refl; height = refl; came = λ t is. came_before h.seen.came seat t is })
one h Looks quiet = absurd quiet

pub all : (h : HostModel) (acts : List Act) → HasNoLook acts → Keeps h (after_acts h acts)
all h [] none = same h
all h (act ∷ rest) none = both (one h act none.0) (all (after_act h act) rest none.1)

-- ---- where nothing was refused

seats_eq : (seat now : ℕ) (b : Bool) → seat == now && not b ≡ true → seat ≡ now
seats_eq seat now b is = grind (arith, nat_tests)

not_came : (t b : Bool) → t && not b ≡ true → b ≡ false
not_came true false is = refl
not_came true true is = absurd (false≢true is)
not_came false b is = absurd (false≢true is)

same_client : (came : List Bool) (seen now : Option ℕ) → is_same_client came seen now ≡ true
    → (seen ≡ now) × ((seat : ℕ) → now ≡ Some seat → get_or came seat true ≡ false)
same_client came None None is = (refl, λ seat e. cc)
same_client came None (Some now) is = absurd (false≢true is)
same_client came (Some seat) None is = absurd (false≢true is)
same_client came (Some seat) (Some now) is =
    let e = seats_eq seat now (get_or came seat true) is in (
      ap Some e,
      λ t at. ap (λ n. get_or came n true) (sym (same_Some now t at) ∙ sym e)
          ∙ not_came (seat == now) (get_or came seat true) is,
    )

no_reason : (b m : Bool) (w : Option Unserved)
    → (if not b then Some why.BadDevice else if m then Some why.Moved else w) ≡ None → m ≡ false
no_reason true false w is = refl
no_reason true true w is = cc
no_reason false m w is = cc

from_not : (x : Bool) → not x ≡ false → x ≡ true
from_not true is = refl
from_not false is = sym is

as_shown : (h : HostModel) (k : ℕ) → TakesClick h k → is_as_shown h.seen h.state ≡ true
as_shown h k takes =
    let x = is_as_shown h.seen h.state in
    let moved : is_moved h.seen h.state (device.Press k) ≡ not x =
    λ i. takes.button i && (holds_nothing (takes.free i) && not x) in
    from_not x (sym moved ∙ no_reason (is_input (device.Press k)) (is_moved h.seen h.state (device.Press k))
    (worn_out h) takes.served)

clicked : (h : HostModel) (k : ℕ) → TakesClick h k → (shown_under_pointer h.seen h.state ≡ under_pointer h.state)
    × ((seat : ℕ) → under_pointer h.state ≡ Some seat → get_or h.seen.came seat true ≡ false)
clicked h k takes =
    same_client h.seen.came (shown_under_pointer h.seen h.state) (under_pointer h.state) (as_shown h k takes)

-- ---- the laws

pub behind : (h : HostModel) (acts rest : List Act)
    → after_look h acts rest ≡ after_acts (looked (after_acts h acts)) rest
behind h acts rest = fold-append after_act h acts (Looks ∷ rest)

abbrev Sees : State → HostModel → Type 0
Sees s now = owner_then s now.state ≡ under_pointer now.state

-- what is remembered of the look, where the pointer is now
pub shown_there : (h : HostModel) (rest : List Act) → HasNoLook rest → let now = after_acts (looked h) rest in
    shown_under_pointer now.seen now.state ≡ owner_then h.state now.state
shown_there h rest none =
    let now = after_acts (looked h) rest in
    let p = point now.state.input.x now.state.input.y in
    let keeps = all (looked h) rest none in
    λ i. option_map (λ v. v.sid) (owner (keeps.bar i) (keeps.views i) p)

-- the view that a look showed at a pixel
pub shown_at : (h : HostModel) (acts rest : List Act) (x y : ℕ) → HasNoLook rest
    → owner_shown (after_look h acts rest) x y ≡ owner_on (after_acts h acts).state x y
shown_at h acts rest x y none =
    let keeps = all (looked (after_acts h acts)) rest none in
    ap (λ now. owner_shown now x y) (behind h acts rest)
    ∙ (λ i. if nat_lt x (keeps.width i) && nat_lt y (keeps.height i)
    then owner (keeps.bar i) (keeps.views i) (point x y) else None)

sees : (h : HostModel) (rest : List Act) (k : ℕ) → HasNoLook rest → TakesClick (after_acts (looked h) rest) k
    → Sees h.state (after_acts (looked h) rest)
sees h rest k none takes =
    sym (shown_there h rest none) ∙ (clicked (after_acts (looked h) rest) k takes).0

pub clicks_seat : (h : HostModel) (acts rest : List Act) (k : ℕ) → HasNoLook rest
    → TakesClick (after_look h acts rest) k → Sees (after_acts h acts).state (after_look h acts rest)
clicks_seat h acts rest k none takes =
    subst (Sees (after_acts h acts).state) (sym (behind h acts rest))
    (sees (after_acts h acts) rest k none (subst (λ now. TakesClick now k) (behind h acts rest) takes))

last_acts : (before : List Act) (act : Act) (after : List Act) → HasNoLook (before ++ act ∷ after) → HasNoLook after
last_acts [] act after none = none.1
last_acts (a ∷ before) act after none = last_acts before act after none.1

stays : (h : HostModel) (before after : List Act) (seat : ℕ) (label : List ℕ)
    → HasNoLook (before ++ Comes seat label ∷ after)
    → get_or (after_acts h (before ++ Comes seat label ∷ after)).seen.came seat true ≡ false
    → unseated (after_acts h before) seat label ≢ None
stays h before after seat label none is free =
    let there = after_acts h before in
    let next = after_act there (Comes seat label) in
    let now_is = fold-append after_act h before (Comes seat label ∷ after) in
    let not_then = (all next after (last_acts before (Comes seat label) after none)).came seat
    (sym (ap (λ (n : HostModel). get_or n.seen.came seat true) now_is) ∙ is) in
    let came = ap (λ o. get_or (unless_for o (seated seat label there) there).seen.came seat true) free
    ∙ set_there there.seen.came seat in
    false≢true (sym not_then ∙ came)

pub clicks_client : (h : HostModel) (acts rest : List Act) (k seat : ℕ) → HasNoLook rest
    → TakesClick (after_look h acts rest) k → under_pointer (after_look h acts rest).state ≡ Some seat
    → CameSince h acts rest seat → ⊥
clicks_client h acts rest k seat none takes at since =
    let start = looked (after_acts h acts) in
    let all_is : after_look h acts rest ≡ after_acts start (since.before ++ Comes seat since.label ∷ since.after) =
    behind h acts rest ∙ ap (after_acts start) since.act in
    stays start since.before since.after seat since.label (subst HasNoLook since.act none)
    (sym (ap (λ (n : HostModel). get_or n.seen.came seat true) all_is)
    ∙ (clicked (after_look h acts rest) k takes).1 seat at)
    (sym (ap (λ (n : HostModel). unseated n seat since.label) (behind h acts since.before)) ∙ since.seated)

nothing_shown : (rows : ℕ) (p : Point) → option_map (λ (v : View). v.sid) (owner rows [] p) ≡ None
nothing_shown rows p = by_bar (in_bar rows p)
  where
    by_bar : (b : Bool) → ◌≡◌ {A = Option ℕ} (option_map (λ (v : View). v.sid) (if b then None else None)) None
    by_bar true = refl
    by_bar false = refl

pub clicks_first : (h : HostModel) (acts : List Act) (k : ℕ) → h.seen ≡ no_look → HasNoLook acts
    → TakesClick (after_acts h acts) k → under_pointer (after_acts h acts).state ≡ None
clicks_first h acts k none quiet takes =
    let now = after_acts h acts in
    let p = point now.state.input.x now.state.input.y in
    let rows = bar_rows now.state.config in
    let views = (all h acts quiet).views ∙ ap (λ (l : LastLook). l.views) none in
    sym (clicked now k takes).0 ∙ ap (λ vs. option_map (λ (v : View). v.sid) (owner rows vs p)) views
    ∙ nothing_shown rows p

-- ---- what follows of the focus, and of who is locked out

-- a click on this seat's client that is served
abbrev Hits : HostModel → ℕ → Type 0
Hits now seat = (k : ℕ) × TakesClick now k × (under_pointer now.state ≡ Some seat)

shown_by_click : (h : HostModel) (acts rest : List Act) (seat : ℕ) → HasNoLook rest → Hits (after_look h acts rest) seat
    → WasShown h acts rest seat
shown_by_click h acts rest seat none (k, takes, at) = record {
  pixel = clicks_seat h acts rest k none takes ∙ at;
  client = clicks_client h acts rest k seat none takes at;
}

-- before the first look nothing is hit
none_hit : (h : HostModel) (acts : List Act) (seat : ℕ) → h.seen ≡ no_look → HasNoLook acts
    → Hits (after_acts h acts) seat → ⊥
none_hit h acts seat none quiet (k, takes, at) =
    let wrong : ◌≡◌ {A = Option ℕ} None (Some seat) = sym (clicks_first h acts k none quiet takes) ∙ at in
    cc

-- a click that moves the focus is served
focused : (now : HostModel) (k seat : ℕ) (o : Option Unserved) → unserved_input now (device.Press k) ≡ o
    → is_button k ≡ true → now.state.input.held ≡ [] → under_pointer now.state ≡ Some seat
    → (unless_for o (told (device.Press k) now) now).state.input.focus ≡ Some seat
    → (now.state.input.focus ≡ Some seat) ⊎ Hits now seat
focused now k seat (Some why) o_is button free at is = inl is
focused now k seat None o_is button free at is = inr (k, record { button = button; free = free; served = o_is }, at)

by_click : (now : HostModel) (act : Act) (seat : ℕ) → (after_act now act).state.input.focus ≡ Some seat
    → IsClickBy act now.state seat → (now.state.input.focus ≡ Some seat) ⊎ Hits now seat
by_click now (Does dev) seat is ((k, pressed, button, mode, at, clicks), free) =
    focused now k seat (unserved_input now (device.Press k)) refl button free at (rw pressed at is)
by_click now (Calls t c) seat is click = absurd click
by_click now (Refreshes t x y w height words) seat is click = absurd click
by_click now (Puts side t view) seat is click = absurd click
by_click now (Comes t label) seat is click = absurd click
by_click now Looks seat is click = absurd click

by_focus : (now : HostModel) (act : Act) (seat : ℕ) → (after_act now act).state.input.focus ≡ Some seat
    → (now.state.input.focus ≡ Some seat) ⊎ (IsClickBy act now.state seat × Hits now seat)
by_focus now act seat is =
    elim (comes_by_act now act seat is) [
      | inl before ↦ inl before
      | inr click ↦ elim (by_click now act seat is click) [
        | inl before ↦ inl before
        | inr hits ↦ inr (click, hits)
      ]
    ]

-- the click that kills hits whoever it locks out
hit_by_kill : (now : HostModel) (act : Act) (seat : ℕ) → IsKillBy act now.state seat
    → under_pointer now.state ≡ Some seat
hit_by_kill now (Does dev) seat click = click.on
hit_by_kill now (Calls t c) seat click = absurd click
hit_by_kill now (Refreshes t x y w height words) seat click = absurd click
hit_by_kill now (Puts side t view) seat click = absurd click
hit_by_kill now (Comes t label) seat click = absurd click
hit_by_kill now Looks seat click = absurd click

by_kill : (now : HostModel) (act : Act) (seat : ℕ) → IsLockedOut (after_act now act).state seat
    → IsLockedOut now.state seat ⊎ (IsKillBy act now.state seat × Hits now seat)
by_kill now act seat is =
    elim (locked_by_act now act seat is) [
      | inl before ↦ inl before
      | inr click ↦ inr (click.0, (kill_button, click.1, hit_by_kill now act seat click.0))
    ]

module _ (h : HostModel) (acts rest : List Act) (act : Act) (seat : ℕ) (none : HasNoLook rest) where
  abbrev now : HostModel
  now = after_look h acts rest

  pub clicks_focus : (after_act now act).state.input.focus ≡ Some seat
      → (now.state.input.focus ≡ Some seat) ⊎ (IsClickBy act now.state seat × WasShown h acts rest seat)
  clicks_focus is =
      elim (by_focus now act seat is) [
        | inl before ↦ inl before
        | inr click ↦ inr (click.0, shown_by_click h acts rest seat none click.1)
      ]

  pub clicks_locked : IsLockedOut (after_act now act).state seat
      → IsLockedOut now.state seat ⊎ (IsKillBy act now.state seat × WasShown h acts rest seat)
  clicks_locked is =
      elim (by_kill now act seat is) [
        | inl before ↦ inl before
        | inr click ↦ inr (click.0, shown_by_click h acts rest seat none click.1)
      ]

pub clicks_unseen : (h : HostModel) (acts : List Act) (act : Act) (seat : ℕ) → h.seen ≡ no_look → HasNoLook acts
    → ((after_act (after_acts h acts) act).state.input.focus ≡ Some seat
    → (after_acts h acts).state.input.focus ≡ Some seat)
    × (IsLockedOut (after_act (after_acts h acts) act).state seat → IsLockedOut (after_acts h acts).state seat)
clicks_unseen h acts act seat none quiet = (
  λ is. elim (by_focus (after_acts h acts) act seat is) [
    | inl before ↦ before
    | inr click ↦ absurd (none_hit h acts seat none quiet click.1)
  ],
  λ is. elim (by_kill (after_acts h acts) act seat is) [
    | inl before ↦ before
    | inr click ↦ absurd (none_hit h acts seat none quiet click.1)
  ],
)
