-- The entries of a run's journal are within the format of texts.
use Rattle.std.proofs.Common.{◌≡◌, ◌∙◌, ℕ, suc, ◌+◌, ◌<◌, ◌≤◌, List, [], ◌∷◌, ◌++◌, length, get_or}
use Rattle.std.proofs.Common.{refl, sym, ap, arith, zero-add}
use Rattle.nit_run.proofs.Basics.{Agrees, All, AllByRecursion, AreLines, Call, Close, Configuration}
use Rattle.nit_run.proofs.Basics.{Delivery, Device, Does, Entry, FitsCall, FitsDelivery, FitsDevice}
use Rattle.nit_run.proofs.Basics.{FitsEntry, FitsInputLine, FitsItem, FitsLine, InputLine}
use Rattle.nit_run.proofs.Basics.{InputState, IsJournal, IsLegal, IsLive, IsRunnable, Line}
use Rattle.nit_run.proofs.Basics.{Observation, Reply, Routed, Setup, Shoots, State, UserAction}
use Rattle.nit_run.proofs.Basics.{View, after, alone_machine, bar_rows, calls_from, calls_of}
use Rattle.nit_run.proofs.Basics.{calls_of-append, calls_to_make, clicks_on, count_by-le-length}
use Rattle.nit_run.proofs.Basics.{deliveries_of, donation_of, done, each_at, either, eq-eqb}
use Rattle.nit_run.proofs.Basics.{first_session, get_or-map, input_after_call, is_accepted, is_call}
use Rattle.nit_run.proofs.Basics.{items_to, length-append, length-filter, length-map, nat_tests}
use Rattle.nit_run.proofs.Basics.{option_map, owner, point, pointer_after, projection}
use Rattle.nit_run.proofs.Basics.{recursion_from_All, replay, replay_from, routed_as, session}
use Rattle.nit_run.proofs.Basics.{shots, user_actions_from, user_actions_of}
use Rattle.nit_journal.specs.State.{route}
use Rattle.nit_run.proofs.MachinesFit.{IsFine, ItemsFit, MomentFits, PointsFit, served, calls_among}
use Rattle.nit_run.proofs.MachinesFit.{moments_fine, moved_fits, opens_fine, routing_fits}
use Rattle.nit_run.proofs.EntryCounts.{calls_counted}
use Rattle.nit_run.proofs.FileNames.{all_front}
use Rattle.nit_events.specs.declared.entry.Entry.TheVariants as entry
use Rattle.nit_script.specs.declared.line.Line.TheVariants as line
use Rattle.nit_script.specs.declared.line.InputLine.TheVariants as input

-- ---- lists

all_by_front : {A : Type 0} (P : A → Type 0) (xs : List A)
    → ((front : List A) (x : A) (rest : List A) → xs ≡ front ++ x ∷ rest → P x) → AllByRecursion P xs
all_by_front P [] f = tt
all_by_front {A = A} P (x ∷ xs) f =
    (f [] x xs refl, all_by_front P xs (λ front y rest e. f (x ∷ front) y rest (ap (λ (ys : List A). x ∷ ys) e)))

-- ---- what scripts have done

calls_fit : (phase : ℕ) (lines : List Line) → AllByRecursion FitsLine lines
    → AllByRecursion FitsCall (done (calls_from phase lines))
calls_fit phase [] f = tt
calls_fit phase (line.Call c ∷ rest) f = (f.0, calls_fit phase rest f.1)
calls_fit phase (line.Stroke x ∷ rest) f = calls_fit phase rest f.1
calls_fit phase (line.Phase ∷ rest) f = calls_fit (suc phase) rest f.1

abbrev ActionFits : UserAction → Type 0
ActionFits (Does dev) = FitsDevice dev
ActionFits Shoots = Unit {0}

actions_fit : (phase : ℕ) (lines : List InputLine) → AllByRecursion FitsInputLine lines
    → AllByRecursion ActionFits (done (user_actions_from phase lines))
actions_fit phase [] f = tt
actions_fit phase (input.Device d ∷ rest) f = (f.0, actions_fit phase rest f.1)
actions_fit phase (input.Shot ∷ rest) f = (tt, actions_fit phase rest f.1)
actions_fit phase (input.Phase ∷ rest) f = actions_fit (suc phase) rest f.1

pub actions_few : (phase : ℕ) (lines : List InputLine) → length (done (user_actions_from phase lines)) ≤ length lines
actions_few phase [] = omega arith
actions_few phase (input.Phase ∷ rest) = let more = actions_few (suc phase) rest in omega arith
actions_few phase (other ∷ rest) = let more = actions_few phase rest in omega arith

calls_short : (lines : List Line) → length (done (calls_to_make lines)) ≤ length lines
calls_short lines =
    rw (length-map, calls_counted, length-filter) (count_by-le-length is_call lines)

-- ---- what stands in a journal

-- what all have, one of them has
pub all_at : {A : Type 0} (P : A → Type 0) (front : List A) (x : A) (rest : List A) → AllByRecursion P (front ++ x ∷ rest)
    → P x
all_at P [] x rest h = h.0
all_at P (y ∷ front) x rest h = all_at P front x rest h.1

call_there : (front : List Entry) (sid : ℕ) (call : Call) (r : Reply) (rest : List Entry)
    → AllByRecursion FitsCall (calls_of sid (front ++ entry.Call sid call r ∷ rest)) → FitsCall call
call_there front sid call r rest h = grind (arith, nat_tests, all_at, calls_of-append, eq-eqb)

shot_there : (front : List Entry) (number : ℕ) (rest : List Entry)
    → shots front + 1 ≤ length (user_actions_of (front ++ entry.Shot number ∷ rest))
shot_there [] number rest = omega arith
shot_there (entry.Call t c q ∷ front) number rest = shot_there front number rest
shot_there (entry.Final ∷ front) number rest = shot_there front number rest
shot_there (other ∷ front) number rest = let more = shot_there front number rest in omega arith

-- ---- the pointer

abbrev DevFits : Entry → Type 0
DevFits (entry.Input dev routed) = FitsDevice dev
DevFits other = Unit {0}

devices_fit : (es : List Entry) → AllByRecursion ActionFits (user_actions_of es) → AllByRecursion DevFits es
devices_fit [] h = tt
devices_fit (entry.Input dev routed ∷ es) h = (h.0, devices_fit es h.1)
devices_fit (entry.Shot number ∷ es) h = (tt, devices_fit es h.1)
devices_fit (other ∷ es) h = (tt, devices_fit es h)

-- what is routed, and the pointer after it
record RoutedFits (config : Configuration) (i : InputState) (stack : List View) (dev : Device) : Type 0 where
  items : ItemsFit (route config i stack dev).deliveries
  points : PointsFit (route config i stack dev).state

route_fits : (config : Configuration) (i : InputState) (stack : List View) (dev : Device) → FitsDevice dev → PointsFit i
    → RoutedFits config i stack dev
unfolding route
route_fits config i stack dev f p =
    let moved = pointer_after config.width config.height i dev in
    let pointed = option_map (λ (v : View). v.sid) (owner (bar_rows config) stack (point moved.x moved.y)) in
    let m = moved_fits config.width config.height i dev f p in
    let r = routing_fits (clicks_on config pointed) pointed moved dev f m.x m.y in
    record {
      items = r.items;
      points = record { x = rw r.x m.x; y = rw r.y m.y };
    }

call_points : (sid : ℕ) (call : Call) (r : Reply) (i : InputState) → PointsFit i
    → PointsFit (input_after_call sid call r i)
call_points sid Close r i p = either PointsFit (is_accepted r) _ _ (record { x = p.x; y = p.y }) p
call_points sid call r i p = p

points : (t : State) (front : List Entry) → PointsFit t.input → AllByRecursion DevFits front
    → PointsFit (replay_from t front).input
points t [] p h = p
points t (entry.Call sid call r ∷ front) p h =
    points (after t (entry.Call sid call r)) front (call_points sid call r t.input p) h.1
points t (entry.Input dev routed ∷ front) p h =
    points (after t (entry.Input dev routed)) front (route_fits t.config t.input t.stack dev h.0 p).points h.1
points t (other ∷ front) p h = points t front p h.1

-- ---- what a session sees

abbrev EntryGood : Entry → Type 0
EntryGood (entry.Call sid call r) = FitsCall call
EntryGood (entry.Input dev routed) = ItemsFit (deliveries_of routed)
EntryGood other = Unit {0}

item_moments : (x : ℕ) (ds : List Delivery) (more : List Observation) → ItemsFit ds → AllByRecursion MomentFits more
    → AllByRecursion MomentFits (items_to x ds ++ more)
item_moments x [] more f h = h
item_moments x (d ∷ ds) more f h = grind (arith, nat_tests, item_moments x ds more f.1 h, either)

moments_fit : (x : ℕ) (front : List Entry) → AllByRecursion EntryGood front
    → AllByRecursion MomentFits (projection x front)
moments_fit x [] h = tt
moments_fit x (entry.Call sid call r ∷ front) h = grind (arith, nat_tests, moments_fit x front h.1, either)
moments_fit x (entry.Input dev routed ∷ front) h = grind (arith, nat_tests, moments_fit x front h.1, item_moments)
moments_fit x (other ∷ front) h = moments_fit x front h.1

item_calls : (x : ℕ) (ds : List Delivery) (more : List Observation) → calls_among (items_to x ds ++ more)
    ≡ calls_among more
item_calls x [] more = refl
item_calls x (d ∷ ds) more = grind (arith, nat_tests, item_calls x ds more)

calls_few : (x : ℕ) (front : List Entry) → calls_among (projection x front) ≤ length (calls_of x front)
calls_few x [] = omega arith
calls_few x (entry.Call sid call r ∷ front) = grind (arith, nat_tests, calls_few x front)
calls_few x (entry.Input dev routed ∷ front) = grind (arith, nat_tests, calls_few x front, item_calls)
calls_few x (other ∷ front) = calls_few x front

-- ---- all entries

both_all : {A : Type 0} (P Q R : A → Type 0) (xs : List A) → ((x : A) → P x → Q x → R x) → AllByRecursion P xs
    → AllByRecursion Q xs → AllByRecursion R xs
both_all P Q R [] f p q = tt
both_all P Q R (x ∷ xs) f p q = (f x p.0 q.0, both_all P Q R xs f p.1 q.1)

-- ---- what the laws say

pub record Laws : Type 0 where
  pub fronts : (config : Configuration) (front rest : List Entry) → IsLegal config (front ++ rest)
      → IsLegal config front
  pub agrees : (config : Configuration) (front : List Entry) (e : Entry) (rest : List Entry)
      → IsLegal config (front ++ e ∷ rest) → Agrees (replay config front) (shots front) e
  pub sessions : (config : Configuration) (journal : List Entry) → length (replay config journal).sessions
      ≡ length config.clients
  pub machines : (config : Configuration) (journal : List Entry) (sid : ℕ) → IsLegal config journal
      → sid < length config.clients → session (replay config journal) sid
      ≡ alone_machine (donation_of config sid) (projection sid journal)
  pub kept : (t : State) (taken : ℕ) (dev : Device) (routed : Routed) → Agrees t taken (entry.Input dev routed)
      → deliveries_of routed ≡ (route t.config t.input t.stack dev).deliveries
  pub live : (config : Configuration) (front : List Entry) (dev : Device) (routed : Routed) (rest : List Entry)
      → IsLegal config (front ++ entry.Input dev routed ∷ rest)
      → All (λ d. IsLive (replay config front) d.sid) (deliveries_of routed)

module _ (laws : Laws) (s : Setup) (runnable : IsRunnable s) (journal : List Entry) (j : IsJournal s journal) where
  legal_at : (all : List Entry) → journal ≡ all → IsLegal s.config all
  legal_at all parts = rw (← parts) j.legal

  agrees_at : (front : List Entry) (e : Entry) (rest : List Entry) → journal ≡ front ++ e ∷ rest
      → Agrees (replay s.config front) (shots front) e
  agrees_at front e rest parts = laws.agrees s.config front e rest (legal_at (front ++ e ∷ rest) parts)

  -- the calls of a client are those of its script
  there : (sid : ℕ) → sid < length s.config.clients → sid < length s.scripts
  there sid inside = rw runnable.scripts inside

  lines_are : (sid : ℕ) → sid < length s.config.clients → AreLines FitsLine (get_or s.scripts sid [])
  lines_are sid inside = each_at (AreLines FitsLine) s.scripts sid [] (there sid inside) runnable.lines

  calls_are : (sid : ℕ) → sid < length s.config.clients
      → calls_of sid journal ≡ done (calls_to_make (get_or s.scripts sid []))
  calls_are sid inside = grind (arith, nat_tests, length-map, get_or-map)

  -- so a front has few of them
  front_few : (front : List Entry) (e : Entry) (rest : List Entry) (sid : ℕ) → journal ≡ front ++ e ∷ rest
      → sid < length s.config.clients → calls_among (projection sid front) ≤ 65536
  front_few front e rest sid parts inside =
      let lines = (lines_are sid inside).1 in
      let short = calls_short (get_or s.scripts sid []) in
      let few = calls_few sid front in
      let all = rw (parts, calls_of-append sid front (e ∷ rest)) at (ap length (calls_are sid inside)) in
      omega (arith, length-append (calls_of sid front) (calls_of sid (e ∷ rest)))

  call_fits : (front : List Entry) (sid : ℕ) (call : Call) (r : Reply) (rest : List Entry)
      → journal ≡ front ++ entry.Call sid call r ∷ rest → sid < length s.config.clients → FitsCall call
  call_fits front sid call r rest parts inside =
      call_there front sid call r rest (rw (← parts, calls_are sid inside) (calls_fit 0 _ (lines_are sid inside).0))

  devices : AllByRecursion DevFits journal
  devices = devices_fit journal (rw j.whole.actions (actions_fit 0 s.input runnable.input_lines.0))

  -- the caller is a session
  caller : (front : List Entry) (sid : ℕ) (call : Call) (r : Reply) (rest : List Entry)
      → journal ≡ front ++ entry.Call sid call r ∷ rest → sid < length s.config.clients
  caller front sid call r rest parts = grind (arith, nat_tests, agrees_at)

  items_at : (front : List Entry) (dev : Device) (routed : Routed) (rest : List Entry)
      → journal ≡ front ++ entry.Input dev routed ∷ rest → ItemsFit (deliveries_of routed)
  items_at front dev routed rest parts =
      grind (arith, nat_tests, devices, agrees_at, route_fits, all_at, points, all_front)

  good_at : (front : List Entry) (e : Entry) (rest : List Entry) → journal ≡ front ++ e ∷ rest → EntryGood e
  good_at front (entry.Call sid call r) rest parts = grind (arith, nat_tests, call_fits, caller)
  good_at front (entry.Input dev routed) rest parts = items_at front dev routed rest parts
  good_at front other rest parts = tt

  fine_at : (front : List Entry) (e : Entry) (rest : List Entry) (sid : ℕ) → journal ≡ front ++ e ∷ rest
      → sid < length s.config.clients
      → IsFine (session (replay s.config front) sid) (calls_among (projection sid front))
  fine_at front e rest sid parts inside =
      let legal = laws.fronts s.config front (e ∷ rest) (legal_at (front ++ e ∷ rest) parts) in
      let moments = moments_fit sid front
      (all_front EntryGood front (e ∷ rest) (rw parts at (all_by_front EntryGood journal good_at))) in
      rw (laws.machines s.config front sid legal inside, ← zero-add (calls_among (projection sid front)))
      (moments_fine (first_session (donation_of s.config sid)) 0 (projection sid front)
      (opens_fine (donation_of s.config sid) (runnable.configured.clients sid _ inside).donation.1)
      (omega (arith, front_few front e rest sid parts inside)) moments)

  session_small : (sid : ℕ) → sid < length s.config.clients → sid ≤ 15
  session_small sid inside = omega (arith, runnable.configured.count.1)

  entry_fits : (front : List Entry) (e : Entry) (rest : List Entry) → journal ≡ front ++ e ∷ rest → FitsEntry e
  entry_fits front (entry.Call sid call r) rest parts =
      let e = entry.Call sid call r in
      let inside = caller front sid call r rest parts in
      let fits = call_fits front sid call r rest parts inside in (
        session_small sid inside,
        rw (agrees_at front e rest parts).1
            (served (session (replay s.config front) sid) (calls_among (projection sid front)) call
            (fine_at front e rest sid parts inside) (omega (arith, front_few front e rest sid parts inside))
            fits).reply_fits,
        fits,
      )
  entry_fits front (entry.Input dev routed) rest parts =
      let e = entry.Input dev routed in
      let t = replay s.config front in
      let agrees = agrees_at front e rest parts in
      let ds = deliveries_of routed in
      let alive = recursion_from_All (λ d. IsLive t d.sid) ds
      (laws.live s.config front dev routed rest (legal_at (front ++ e ∷ rest) parts)) in (
        all_at DevFits front e rest (rw parts at devices),
        (
          both_all (λ d. IsLive t d.sid) (λ d. FitsItem d.item) FitsDelivery ds
              (λ d lives fits. (session_small d.sid (rw (← laws.sessions s.config front) lives.0), fits))
              alive (items_at front dev routed rest parts),
          agrees ∙ ap routed_as (sym (laws.kept t (shots front) dev routed agrees)),
        ),
      )
  entry_fits front (entry.Shot number) rest parts =
      let agrees = agrees_at front (entry.Shot number) rest parts in
      let there : shots front + 1 ≤ length (done (user_actions_from 0 s.input)) =
      rw (← parts, j.whole.actions) at (shot_there front number rest) in
      let few = actions_few 0 s.input in
      (omega (arith, agrees, runnable.input_lines.1), omega (arith, agrees))
  entry_fits front entry.Final rest parts = tt

  pub journal_fits : AllByRecursion FitsEntry journal
  journal_fits = all_by_front FitsEntry journal entry_fits
