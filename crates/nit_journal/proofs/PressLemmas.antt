-- Moments in which nothing is pressed or released, and what is left of the held codes.
use Rattle.nit_journal.proofs.Basics.{All, All-append, All-cons, All-head, All-nil, All-tail}
use Rattle.nit_journal.proofs.Basics.{AreLive, AreSteps, Call, Close, Configuration, Delivery}
use Rattle.nit_journal.proofs.Basics.{Device, Entry, Event, Gets, InputState, IsDown, IsLegal, Item}
use Rattle.nit_journal.proofs.Basics.{Observation, Opens, Reply, Routing, State, Step, after}
use Rattle.nit_journal.proofs.Basics.{after_steps, arith, cases_eq, cond_both, either, eq-eqb}
use Rattle.nit_journal.proofs.Basics.{eqb-true, first_input, first_state, input_after_call}
use Rattle.nit_journal.proofs.Basics.{is_release, items_to, list_any, list_any-append, nat_tests}
use Rattle.nit_journal.proofs.Basics.{ne_eqb, not, opened, projection, replay, since_opening}
use Rattle.std.proofs.Common.{Bool, List, None, Option, Some, [], ap, append-nil, append_assoc}
use Rattle.std.proofs.Common.{false, filter, if◌then◌else◌, inl, inr, refl, subst, true, ℕ, ◌++◌}
use Rattle.std.proofs.Common.{◌==◌, ◌∙◌, ◌∷◌, ◌≡◌}
use Rattle.nit_events.specs.declared.event.Event.TheVariants as event
use Rattle.nit_events.specs.declared.event.Item.TheVariants as item
use Rattle.nit_events.specs.Input
use Rattle.nit_journal.proofs.Ways.{Clicks, Free, Hovers, Kills, Leaves, Lifts, More, Moves}
use Rattle.nit_journal.proofs.Ways.{Nothing, Points, Switches, Types, Unseen, Way, entry_keeps_all}
use Rattle.nit_journal.proofs.Ways.{is_stroke, one_to, routed}
use Rattle.nit_events.specs.declared.entry.Entry.TheVariants as entry
use Rattle.nit_journal.proofs.JournalFronts.{IsKept, along, behind}
use Rattle.nit_journal.proofs.ProjectionLemmas.{projection_both}
use Rattle.nit_journal.proofs.LiveSessions.{live_after, live_opened, live_restacked}

-- ---- one session and one code

-- nothing is pressed or released
abbrev pub IsCalm : List Delivery → Type 0
IsCalm ds = All (λ d. is_stroke d.item ≡ false) ds

pub calm_to : (s : Option ℕ) (e : Event) → is_stroke (item.Event e) ≡ false → IsCalm (Input.to s e)
calm_to s e h = one_to (λ d. is_stroke d.item ≡ false) s e (λ t is. h)

pub calm_both : (ds es : List Delivery) → IsCalm ds → IsCalm es → IsCalm (ds ++ es)
calm_both = All-append (λ d. is_stroke d.item ≡ false)

pub none_calm : IsCalm []
none_calm = All-nil (λ d. is_stroke d.item ≡ false)

-- what is left of the held codes
pub left_held : (k j : ℕ) (held : List ℕ) → list_any (λ y. y == k) (filter (λ y. not (y == j)) held) ≡ true
    → ((j == k) ≡ false) × (list_any (λ y. y == k) held ≡ true)
left_held k j [] h = cc
left_held k j (y ∷ ys) h = grind (arith, nat_tests, left_held k j ys)

pub one_held : (k j : ℕ) (held : List ℕ) → held ≡ [] → list_any (λ y. y == k) (held ++ j ∷ []) ≡ true → (j == k) ≡ true
one_held k j held none h = let alone = rw none at h in grind (arith, alone)

pub last_held : (k j : ℕ) (held : List ℕ) → (j == k) ≡ false → list_any (λ y. y == k) (held ++ j ∷ []) ≡ true
    → list_any (λ y. y == k) held ≡ true
last_held k j held apart h = grind (arith, list_any-append (λ y. y == k) held (j ∷ []))

-- ---- whether a code is down

-- after one moment more
abbrev pub next : ℕ → Observation → Bool → Bool
next k (Gets (item.Event (event.Press j))) b = if j == k then true else b
next k (Gets (item.Event (event.Release j))) b = if j == k then false else b
next k other b = b

abbrev pub down_after : ℕ → Bool → List Observation → Bool
down_after k b [] = b
down_after k b (m ∷ ms) = down_after k (next k m b) ms

-- each release comes where the code is down
abbrev pub Paired : ℕ → Bool → List Observation → Type 0
Paired k b [] = Unit {0}
Paired k b (m ∷ ms) = (is_release k m ≡ true → b ≡ true) × Paired k (next k m b) ms

-- so it is, and this holds of whether the code is down at the end
abbrev pub Ends : ℕ → (Bool → Type 0) → Bool → List Observation → Type 0
Ends k Q b ms = Paired k b ms × Q (down_after k b ms)

pub ends_both : (k : ℕ) (Q : Bool → Type 0) (b : Bool) (xs ys : List Observation) → Paired k b xs
    → Ends k Q (down_after k b xs) ys → Ends k Q b (xs ++ ys)
ends_both k Q b [] ys p q = q
ends_both k Q b (x ∷ xs) ys p q = grind (arith, nat_tests, ends_both k Q (next k x b) xs ys p.1 q)

-- where a release stands
down_there : (k : ℕ) (b : Bool) (before rest : List Observation)
    → Paired k b (before ++ Gets (item.Event (event.Release k)) ∷ rest) → down_after k b before ≡ true
down_there k b [] rest p = p.0 (eq-eqb k k refl)
down_there k b (m ∷ before) rest p = down_there k (next k m b) before rest p.1

still_down : (k : ℕ) (seen : List Observation) (m : Observation) → IsDown k seen → is_release k m ≡ false
    → IsDown k (seen ++ m ∷ [])
still_down k seen m (early, late, is, none) q = (
  early,
  late ++ m ∷ [],
  ap (λ (l : List Observation). l ++ m ∷ []) is
      ∙ append_assoc early (Gets (item.Event (event.Press k)) ∷ late) (m ∷ []),
  rw (list_any-append (is_release k) late (m ∷ []), none, q) refl,
)

-- one moment more
more_down : (k : ℕ) (b : Bool) (seen : List Observation) (m : Observation) → (b ≡ true → IsDown k seen)
    → next k m b ≡ true → IsDown k (seen ++ m ∷ [])
more_down k b seen (Gets (item.Event (event.Press j))) was e =
    elim (cases_eq j k) [
      | inl own ↦ (seen, [], rw own refl, refl)
      | inr other ↦ still_down k seen _ (was (rw (ne_eqb j k other) at e)) refl
    ]
more_down k b seen (Gets (item.Event (event.Release j))) was e =
    elim (cases_eq j k) [
      | inl own ↦ (let none = rw (eq-eqb j k own) at e in cc)
      | inr other ↦ still_down k seen _ (was (rw (ne_eqb j k other) at e)) (ne_eqb j k other)
    ]
more_down k b seen other was e = still_down k seen other (was e) refl

pub down_is : (k : ℕ) (b : Bool) (seen ms : List Observation) → (b ≡ true → IsDown k seen) → down_after k b ms ≡ true
    → IsDown k (seen ++ ms)
down_is k b seen [] was e = rw append-nil (was e)
down_is k b seen (m ∷ ms) was e =
    subst (IsDown k) (append_assoc seen (m ∷ []) ms)
    (down_is k (next k m b) (seen ++ m ∷ []) ms (more_down k b seen m was) e)

-- so where a release stands the code is down
pub release_down : (k : ℕ) (ms before rest : List Observation) → Paired k false ms
    → ms ≡ before ++ Gets (item.Event (event.Release k)) ∷ rest → IsDown k before
release_down k ms before rest paired is =
    down_is k false [] before (λ e. cc) (down_there k false before rest (rw is at paired))

module _ (x k : ℕ) where
  -- the session receives what is held, and the code is held
  abbrev pub Holds : InputState → Type 0
  Holds i = (i.receiver ≡ Some x) × (Input.is_held i k ≡ true)

  -- where it does so, it is down
  abbrev pub IsDownFor : InputState → Bool → Type 0
  IsDownFor i d = Holds i → d ≡ true

  -- ---- the ways of a device event

  -- what goes to one session is an item of this one, or of another
  to_items : (s : Option ℕ) (e : Event) (R : List Observation → Type 0)
      → (s ≡ Some x → R (Gets (item.Event e) ∷ [])) → ((s ≡ Some x → ⊥) → R []) → R (items_to x (Input.to s e))
  to_items None e R own other = other (λ same. cc)
  to_items (Some t) e R own other = grind (arith, nat_tests, eq-eqb, ne_eqb)

  calm_item : (Q : Bool → Type 0) (b : Bool) (i : Item) (ms : List Observation) → is_stroke i ≡ false → Ends k Q b ms
      → Ends k Q b (Gets i ∷ ms)
  calm_item Q b (item.Event (event.Press j)) ms quiet h = cc
  calm_item Q b (item.Event (event.Release j)) ms quiet h = cc
  calm_item Q b other ms quiet h = (((λ e. cc), h.0), h.1)

  calm_front : (Q : Bool → Type 0) (b : Bool) (ds es : List Delivery) → IsCalm ds → Ends k Q b (items_to x es)
      → Ends k Q b (items_to x (ds ++ es))
  calm_front Q b [] es quiet h = h
  calm_front Q b (d ∷ ds) es quiet h =
      let more = calm_front Q b ds es (All-tail (λ d. is_stroke d.item ≡ false) d ds quiet) h in
      either (Ends k Q b) (d.sid == x) _ _
      (calm_item Q b d.item _ (All-head (λ d. is_stroke d.item ≡ false) d ds quiet) more) more

  module _ (i : InputState) where
    abbrev IsStep : Routing → Type 0
    IsStep r = (b : Bool) → (Holds i → b ≡ true) → Ends k (IsDownFor r.state) b (items_to x r.deliveries)

    calm : (r : Routing) → IsCalm r.deliveries → (Holds r.state → Holds i) → IsStep r
    calm r quiet back b was =
        rw (← append-nil r.deliveries)
        (calm_front (IsDownFor r.state) b r.deliveries [] quiet (tt, λ holds. was (back holds)))

    nobody : (r : Routing) → IsCalm r.deliveries → IsStep (Input.unreceived r)
    nobody r quiet = calm (Input.unreceived r) quiet (λ t. let none = t.0 in cc)

    -- the first press
    received : (s : Option ℕ) (j : ℕ) (r : Routing) → IsCalm r.deliveries
        → (list_any (λ y. y == k) r.state.held ≡ true → (j == k) ≡ true) → IsStep (Input.received s (event.Press j) r)
    received s j r quiet only b was =
        let now = (Input.received s (event.Press j) r).state in
        calm_front (IsDownFor now) b r.deliveries (Input.to s (event.Press j)) quiet
        (to_items s (event.Press j) (Ends k (IsDownFor now) b)
        (λ own. (((λ e. cc), tt), λ holds. rw (only holds.1) refl))
        (λ apart. (tt, λ holds. absurd (apart holds.0))))

    -- a press while others are held
    more_press : (j : ℕ)
        → IsStep (record { state = Input.with_held i j; deliveries = Input.to i.receiver (event.Press j) })
    more_press j b was = grind (arith, nat_tests, to_items, cond_both, last_held)

    still_holds : (left : List ℕ) → Holds (Input.letting_go left i)
        → (i.receiver ≡ Some x) × (list_any (λ y. y == k) left ≡ true)
    still_holds [] h = let none = h.0 in cc
    still_holds (y ∷ ys) h = h

    letting_go : (j : ℕ) → Input.is_held i j ≡ true → IsStep (record {
      state = Input.letting_go (filter (λ y. not (y == j)) i.held) i;
      deliveries = Input.to i.receiver (event.Release j);
    })
    letting_go j held b was =
        let left = filter (λ y. not (y == j)) i.held in
        to_items i.receiver (event.Release j) (Ends k (IsDownFor (Input.letting_go left i)) b)
        (λ own. (
          ((λ same. was (own, rw (eqb-true j k same) at held)), tt),
          λ holds.
              let still = still_holds left holds in
              let more = left_held k j i.held still.1 in
              rw more.0 (was (still.0, more.1)),
        ))
        (λ apart. (tt, λ holds. absurd (apart (still_holds left holds).0)))

  module _ (clicks : Bool) (pointed : Option ℕ) (i : InputState) (dev : Device) where
    way : {r : Routing} → Way clicks pointed i dev r → IsStep i r
    way Nothing = calm i (Input.ignored i) none_calm (λ h. h)
    way (Moves e quiet) = grind (arith, nat_tests, calm, calm_to)
    way (More j) = more_press i j
    way (Lifts j held) = letting_go i j held
    way (Free none (Hovers e quiet flat)) = grind (arith, nat_tests, calm, calm_both, either, calm_to)
    way (Free none (Leaves new flat)) = grind (arith, nat_tests, calm, calm_to)
    way (Free none (Switches new)) = grind (arith, nat_tests, calm)
    way (Free none (Clicks j is button flat)) = grind (arith, nat_tests, one_held)
    way (Free none (Types j flat)) = grind (arith, nat_tests, one_held)
    way (Free none (Points j is button xray)) = grind (arith, nat_tests, nobody)
    way (Free none (Kills j is kill)) = nobody i (Input.killing pointed (Input.with_held i j)) (killed pointed)
      where
        killed : (o : Option ℕ) → IsCalm (Input.killing o (Input.with_held i j)).deliveries
        killed None = none_calm
        killed (Some s) = All-cons (λ d. is_stroke d.item ≡ false) _ [] refl none_calm
    way (Free none (Unseen j)) = nobody i (Input.ignored (Input.with_held i j)) none_calm

  -- ---- a whole journal

  after_call : (sid : ℕ) (call : Call) (r : Reply) (i : InputState) → Holds (input_after_call sid call r i) → Holds i
  after_call sid Close r i = grind (arith, nat_tests, either)
  after_call sid other r i = λ t. t

  -- the releases are paired, and what the session receives and holds is down
  abbrev pub IsPaired : State → List Entry → Type 0
  IsPaired s done = Ends k (IsDownFor s.input) false (projection x done)

  paired_more : (s t : State) (done : List Entry) (e : Entry) → IsPaired s done
      → Ends k (IsDownFor t.input) (down_after k false (projection x done)) (projection x (e ∷ []))
      → IsPaired t (done ++ e ∷ [])
  paired_more s t done e h more =
      rw (projection_both x done (e ∷ []))
      (ends_both k (IsDownFor t.input) false (projection x done) (projection x (e ∷ [])) h.0 more)

  pub paired_kept : IsKept IsPaired
  paired_kept s taken (entry.Call sid call r) done agrees h =
      let e = entry.Call sid call r in
      let down = λ (holds : Holds (after s e).input). h.1 (after_call sid call r s.input holds) in
      paired_more s (after s e) done e h
      (either (Ends k (IsDownFor (after s e).input) (down_after k false (projection x done))) (sid == x) _ _
      (((λ e. cc), tt), down) (tt, down))
  paired_kept s taken (entry.Input dev into) done agrees h =
      paired_more s (after s (entry.Input dev into)) done (entry.Input dev into) h
      (rw (append-nil, entry_keeps_all s taken dev into agrees)
      (way _ _ _ dev (routed s.config s.input s.stack dev).way (down_after k false (projection x done)) h.1))
  paired_kept s taken e done agrees h = paired_more s s done e h (tt, h.1)

  -- where nobody has had any input nothing is received
  pub begun : (s : State) → s.input ≡ first_input → IsPaired s []
  begun s first = (tt, λ t. let none : s.input.receiver ≡ None = rw first refl in let some = t.0 in cc)

  pub goes_down : (s : State) (done : List Entry) → IsPaired s done → Holds s.input → IsDown k (projection x done)
  goes_down s done h holds = down_is k false [] (projection x done) (λ e. cc) (h.1 holds)

  pub paired_whole : (config : Configuration) (journal : List Entry) → IsLegal config journal
      → IsPaired (replay config journal) journal
  paired_whole config journal legal =
      behind IsPaired paired_kept (first_state config) 0 journal [] legal (begun (first_state config) refl)

paired_opens : (x k : ℕ) (s : State) (sid : ℕ) (label : List ℕ) (done : List Entry) → AreSteps s (Opens sid label ∷ [])
    → AreLive s → IsPaired x k s done → IsPaired x k (opened sid label s) (if sid == x then [] else done)
paired_opens x k s sid label done are live h = grind (arith, nat_tests, cond_both, eqb-true)

pub since_begun : (s : State) (steps : List Step) (x k : ℕ) → AreLive s → s.input ≡ first_input → AreSteps s steps
    → IsPaired x k (after_steps s steps) (since_opening x steps)
since_begun s steps x k live first are =
    (along x (λ (a : ℕ) t done. AreLive t × IsPaired x k t done) 0
    (λ a t taken e done agrees h. (live_after t taken e h.0 agrees, paired_kept x k t taken e done agrees h.1))
    (λ a t sid label done is h. (live_opened t sid label h.0, paired_opens x k t sid label done is h.0 h.1))
    (λ a t side sid v done h. (live_restacked t side sid v h.0, h.1))
    0 s steps [] are (live, begun x k s first)).1
