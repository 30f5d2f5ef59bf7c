-- What of the frame a call, the user or a client that comes changes.
use Rattle.std.proofs.Common.{Bool, List, None, Option, Some, [], ap, false, inl, inr, length, refl}
use Rattle.std.proofs.Common.{sym, true, ℕ, ℤ, ◌%◌, ◌/◌, ◌<◌, ◌∙◌, ◌∷◌, ◌≡◌}
use Rattle.nit_host.proofs.Basics.{All, AreParts, Area, Call, Delivery, Device, HasTouched}
use Rattle.nit_host.proofs.Basics.{HoldsBar, HoldsBarIn, HoldsTouched, HoldsUnless, IsAreaAdded}
use Rattle.nit_host.proofs.Basics.{IsAreaOf, IsBarArea, IsSeenBut, IsToldArea, Mode, Point, Reply}
use Rattle.nit_host.proofs.Basics.{Routed, State, StaysOutside, Touch, View, after, after_accepted}
use Rattle.nit_host.proofs.Basics.{after_deliveries, and_left, and_parts, arith, bar_rows, bar_word}
use Rattle.nit_host.proofs.Basics.{cases_Bool, column_and_row, cond_both, deliveries_of, dirty}
use Rattle.nit_host.proofs.Basics.{dirty_by_call, false_from_ne_true, false≢true, frame_by, has_any}
use Rattle.nit_host.proofs.Basics.{has_place, in_bar, input_after_call, is_accepted, is_inside, point}
use Rattle.nit_host.proofs.Basics.{is_killed, kills, layer, list_any, nat_tests, opened, pixel}
use Rattle.nit_host.proofs.Basics.{pixel_count, refusal, refused_reply, route, routed_as}
use Rattle.nit_host.proofs.Basics.{scenery_of, seen, serve, serve_refused, session, sheet_in}
use Rattle.nit_host.proofs.Basics.{source_at, told, touch_of, touched_by, touched_over}
use Rattle.nit_host.proofs.Basics.{touched_unless, unaccepted_state, word_from}
use Rattle.nit_journal.specs.StackAfter.{stack_after_call}
use Rattle.nit_host.specs.Touch.{is_touched_bare, moves_views}
use Rattle.nit_host.proofs.PartsKept.{added_on}
use Rattle.nit_host.proofs.Steps.{KeepSources, Words}
use Rattle.nit_host.proofs.Frames.{call_inside, flat_stays, same_pixel, seen_after, touched_more}
use Rattle.nit_host.proofs.Frames.{whole_stays}
use Rattle.nit_events.specs.declared.call.Call.TheVariants as call
use Rattle.nit_host.specs.declared.host.touch.Touch.TheVariants as touch
use Rattle.nit_events.specs.declared.device.Mode.TheVariants as mode
use Rattle.nit_events.specs.declared.entry.Entry.TheVariants as entry

-- ---- a call

-- a stack that an accepted call leaves as it is stays, be it accepted or not
stack_steady : (layers : ℕ → ℕ) (seat : ℕ) (c : Call) (r : Reply) (stack : List View)
    → after_accepted layers seat c r stack ≡ stack → stack_after_call layers seat c r stack ≡ stack
unfolding stack_after_call
stack_steady layers seat c r stack same = grind (arith, nat_tests, cond_both)

-- no call but `Close` changes what the input knows, and none the mode
call_mode : (seat : ℕ) (c : Call) (r : Reply) (s : State) → (input_after_call seat c r s.input).mode ≡ s.input.mode
call_mode seat call.Close r s = grind (arith, nat_tests, cond_both)
call_mode seat other r s = refl

module _ (s : State) (seat : ℕ) (r : Reply) (sheets sheets' : List (List ℕ)) (a : ℕ → ℕ → Bool)
    (inside : seat < length s.sessions) (keep : KeepSources) where
  abbrev behind : Call → State
  behind c = after s (entry.Call seat c r)

  abbrev Stays : Call → Type 0
  Stays c = StaysOutside s.config.width (pixel_count s) a (frame_by s sheets) (frame_by (behind c) sheets')

  -- the area has what is touched, before the call and after it
  abbrev Holds : Touch → Call → Type 0
  Holds t c = HoldsTouched s seat t a × HoldsTouched (behind c) seat t a

  -- the reply is the call's, and words of clean pixels stay
  abbrev Keeps : Call → Type 0
  Keeps c = (r ≡ (serve (session s seat) c).reply) × Words s (entry.Call seat c r) sheets sheets'

  clean_stays : (c : Call) → Keeps c → (k : ℕ)
      → dirty s (entry.Call seat c r) (behind c) (pixel s.config.width k) ≡ false
      → word_from (sheet_in sheets) (source_at s k) ≡ word_from (sheet_in sheets') (source_at (behind c) k)
  clean_stays c kept k clean =
      rw (← keep s 0 (entry.Call seat c r) (pixel s.config.width k) (inside, kept.0) clean) (kept.1 k clean)

  -- a refused call
  refused_stays : (c : Call) (why : Reply) → refusal (session s seat) c ≡ Some why → Keeps c → Stays c
  refused_stays c why is kept k less off =
      let no_ : is_accepted r ≡ false =
      rw (kept.0, serve_refused (session s seat) c why is) (refused_reply (session s seat) c why is) in
      same_pixel s (behind c) sheets sheets' a refl refl refl k less
      (ap scenery_of (unaccepted_state s seat c r kept.0 no_))
      (clean_stays c kept k (and_left (is_accepted r) _ no_))

  -- outside of the area nothing is dirty
  clean_outside : (c : Call) → Holds (touched_by c) c → (k : ℕ) → k < pixel_count s
      → is_inside s.config.width a k ≡ false
      → dirty s (entry.Call seat c r) (behind c) (pixel s.config.width k) ≡ false
  clean_outside c holds k less off =
      let at = column_and_row s.config.width s.config.height k less in
      false_from_ne_true _ (λ is. false≢true (sym off ∙ call_inside s (behind c) seat a (k % s.config.width)
      (k / s.config.width) at.0 at.1 at.0 at.1 c holds.0 holds.1
      (and_parts (is_accepted r) (dirty_by_call seat c s (behind c) (pixel s.config.width k)) is).1))

  -- the bar of a call that is not in the area
  bar_stays : (c : Call) → Holds (touched_by c) c → (k : ℕ) → k < pixel_count s
      → is_inside s.config.width a k ≡ false → in_bar (bar_rows s.config) (pixel s.config.width k) ≡ true
      → bar_word (scenery_of s) (pixel s.config.width k) ≡ bar_word (scenery_of (behind c)) (pixel s.config.width k)
  bar_stays call.Close holds k less off in_ = grind (arith, nat_tests, column_and_row, false≢true)
  bar_stays other holds k less off in_ = refl

  -- a call that changes nothing of what is shown but words
  steady_stays : (c : Call) → after_accepted (layer s.config) seat c r s.stack ≡ s.stack
      → input_after_call seat c r s.input ≡ s.input → Keeps c → Holds (touched_by c) c → Stays c
  steady_stays c stack input kept holds k less off =
      let views = sym (stack_steady (layer s.config) seat c r s.stack stack) in
      same_pixel s (behind c) sheets sheets' a refl refl refl k less
      (λ i. record (scenery_of s) { stack = views i; mode = (sym input i).mode; focus = (sym input i).focus })
      (clean_stays c kept k (clean_outside c holds k less off))

  over_stays : (c : Call) → Keeps c → Holds (touched_over c) c → Stays c
  over_stays (call.Buffer w h) kept holds = steady_stays (call.Buffer w h) refl refl kept holds
  over_stays (call.Refresh x y w h) kept holds = steady_stays (call.Refresh x y w h) refl refl kept holds
  over_stays call.Take kept holds = steady_stays call.Take refl refl kept holds
  over_stays (call.Upgrade n) kept holds = steady_stays (call.Upgrade n) refl refl kept holds
  over_stays other kept holds =
      whole_stays _ _ a _ _ (λ x y wide high. holds.0.bare x y wide high refl)

  pub call_stays : (c : Call) → Keeps c → Holds (touch_of s seat c) c → Stays c
  call_stays c kept holds = by_refusal_and_mode (refusal (session s seat) c) s.input.mode refl refl holds
    where
      by_refusal_and_mode : (o : Option Reply) (m : Mode) → refusal (session s seat) c ≡ o → s.input.mode ≡ m
          → Holds (touched_unless o m c) c → Stays c
      by_refusal_and_mode (Some why) m is mode_is holds = refused_stays c why is kept
      by_refusal_and_mode None mode.Flat is flat holds =
          flat_stays s (behind c) sheets sheets' a refl refl refl flat (call_mode seat c r s ∙ flat)
          (λ k less off. clean_stays c kept k (clean_outside c holds k less off)) (bar_stays c holds)
      by_refusal_and_mode None other is mode_is holds = over_stays c kept holds

-- ---- what is remembered of the views

-- a call that moves no view leaves the stack as it is
leaves_stack : (s : State) (seat : ℕ) (c : Call) (r : Reply) → moves_views c ≡ false
    → (after s (entry.Call seat c r)).stack ≡ s.stack
leaves_stack s seat (call.Buffer w h) r none = stack_steady (layer s.config) seat (call.Buffer w h) r s.stack refl
leaves_stack s seat (call.Refresh x y w h) r none = stack_steady (layer s.config) seat (call.Refresh x y w h) r s.stack refl
leaves_stack s seat call.Take r none = stack_steady (layer s.config) seat call.Take r s.stack refl
leaves_stack s seat (call.Upgrade n) r none = stack_steady (layer s.config) seat (call.Upgrade n) r s.stack refl
leaves_stack s seat other r none = absurd (false≢true (sym none))

-- views that stand as they are remembered do so after such a call
pub stand_after : (s : State) {s' : State} (seat : ℕ) (c : Call) (r : Reply) {shown : List View}
    → s' ≡ after s (entry.Call seat c r) → moves_views c ≡ false → shown ≡ s.stack → shown ≡ s'.stack
stand_after s seat c r is none stood = rw (is, leaves_stack s seat c r none) stood

-- what a call left of what was seen, and the areas of what has changed since
pub seen_called : {s s' : State} {seat : ℕ} (c : Call) {r : Reply} (sheets sheets' : List (List ℕ)) {t : Touch}
    {a0 a1 a2 : List Area} (seen : Option (List ℕ)) → HasTouched s seat t a0 a1 → HasTouched s' seat t a1 a2
    → IsSeenBut s sheets (has_any a0) seen → All (IsAreaOf s.config.width s.config.height) a0
    → t ≡ touch_of s seat c → s' ≡ after s (entry.Call seat c r) → r ≡ (serve (session s seat) c).reply
    → Words s (entry.Call seat c r) sheets sheets' → seat < length s.sessions → KeepSources
    → IsSeenBut s' sheets' (has_any a2) seen × All (IsAreaOf s'.config.width s'.config.height) a2
seen_called {s} {s'} {seat} c {r} sheets sheets' {t} {a0} {a1} {a2} seen old new known on touch_is is replied words
    inside keep =
    let new_ = rw is at new in
    rw is (
      seen_after s (after s (entry.Call seat c r)) sheets sheets' (has_any a2) refl refl refl (has_any a0) seen known
          (λ x y in_. new_.own x y (old.own x y in_))
          (call_stays s seat r sheets sheets' (has_any a2) inside keep c (replied, words) (rw (← touch_is) (
            touched_more s seat t (has_any a1) (has_any a2) old.touched new_.own,
            new_.touched,
          ))),
      new_.screen (old.screen on),
    )

-- ---- a refresh

-- where no view is, a call touches the same before it and after it
bare_same : (t : Touch) (s : State) (seat : ℕ) (c : Call) (r : Reply) (p : Point)
    → is_touched_bare t (after s (entry.Call seat c r)) p ≡ is_touched_bare t s p
bare_same touch.Views s seat c r p = refl
bare_same other s seat c r p = refl

-- a refresh moves no view: what is touched after it is what is touched before it
pub refresh_touches : {s s' : State} {seat : ℕ} (x y : ℤ) (w h : ℕ) (r : Reply) {t : Touch} {a0 a1 : List Area}
    → s' ≡ after s (entry.Call seat (call.Refresh x y w h) r) → HasTouched s' seat t a0 a1
    → HasTouched s seat t a0 a1 × HasTouched s' seat t a1 a1
refresh_touches {s} {s'} {seat} x y w h r {t} {a0} {a1} is new =
    let refresh = call.Refresh x y w h in
    let touched : HoldsTouched (after s (entry.Call seat refresh r)) seat t (has_any a1) = rw is at new.touched in
    let views = leaves_stack s seat refresh r refl in (
      record {
        screen = rw is at new.screen;
        own = new.own;
        touched = record {
          bare = λ x y wide high t_is. touched.bare x y wide high (bare_same t s seat refresh r (point x y) ∙ t_is);
          views = λ i x y v there wide high t_is. touched.views i x y v (rw views there) wide high t_is;
        };
      },
      record { screen = λ on. on; own = λ x y in_. in_; touched = new.touched },
    )

-- What of the frame the user changes, and a client that comes.

-- ---- steps that show each pixel's word where it was

module _ (s s' : State) (sheets sheets' : List (List ℕ)) (a : ℕ → ℕ → Bool) (width : s'.config.width ≡ s.config.width)
    (height : s'.config.height ≡ s.config.height) (bar : bar_rows s'.config ≡ bar_rows s.config)
    (words : (k : ℕ) → k < pixel_count s → word_from (sheet_in sheets) (source_at s k)
    ≡ word_from (sheet_in sheets') (source_at s' k)) where
  by_modes : (m m' : Mode) → s.input.mode ≡ m → s'.input.mode ≡ m'
      → HoldsBarIn m s.config.width s.config.height (bar_rows s.config) a
      → HoldsBarIn m' s'.config.width s'.config.height (bar_rows s'.config) a
      → StaysOutside s.config.width (pixel_count s) a (frame_by s sheets) (frame_by s' sheets')
  by_modes mode.Flat mode.Flat is is' holds holds' =
      flat_stays s s' sheets sheets' a width height bar is is' (λ k less off. words k less) (λ k less off in_.
      let at = column_and_row s.config.width s.config.height k less in
      absurd (false≢true (sym off ∙ holds (k % s.config.width) (k / s.config.width) at.0 at.1 in_)))
  by_modes mode.Flat other is is' holds holds' =
      whole_stays _ _ a _ _ (λ x y wide high. holds' x y (rw width wide) (rw height high))
  by_modes other m' is is' holds holds' = whole_stays _ _ a _ _ holds

  -- all that changes is the bar
  pub bar_changes : HoldsBar s a → HoldsBar s' a
      → StaysOutside s.config.width (pixel_count s) a (frame_by s sheets) (frame_by s' sheets')
  bar_changes holds holds' = by_modes s.input.mode s'.input.mode refl refl holds holds'

pub bar_more : (s : State) (a b : ℕ → ℕ → Bool) → HoldsBar s a → ((x y : ℕ) → a x y ≡ true → b x y ≡ true)
    → HoldsBar s b
bar_more s a b holds more = grind (arith, nat_tests, cond_both)

-- ---- what the user does

none_killed : (s : State) (p : Point) (ds : List Delivery) → kills ds ≡ false
    → list_any (λ d. is_killed s p d.sid d.item) ds ≡ false
none_killed s p [] none = refl
none_killed s p (d ∷ ds) none = grind (arith, nat_tests, none_killed s p ds)

-- nor is a view taken away
kept_views : (ds : List Delivery) (stack : List View) → kills ds ≡ false → after_deliveries ds stack ≡ stack
kept_views [] stack e = refl
kept_views (d ∷ ds) stack e = grind (arith, nat_tests, kept_views ds stack)

module _ (s s' : State) (dev : Device) (routed : Routed) (sheets sheets' : List (List ℕ)) (a0 a1 : List Area)
    (seen : Option (List ℕ)) (agrees : routed ≡ routed_as (route s.config s.input s.stack dev).deliveries)
    (keep : KeepSources) (is : s' ≡ after s (entry.Input dev routed)) (same : sheets' ≡ sheets)
    (known : IsSeenBut s sheets (has_any a0) seen) where
  abbrev after_it : State
  after_it = after s (entry.Input dev routed)

  -- where nobody is locked out, each pixel shows the word that it showed
  words_told : kills (deliveries_of routed) ≡ false → (k : ℕ) → word_from (sheet_in sheets) (source_at s k)
      ≡ word_from (sheet_in sheets') (source_at after_it k)
  words_told none k = rw same (ap (word_from (sheet_in sheets)) (sym (keep s 0 (entry.Input dev routed)
      (pixel s.config.width k) agrees (none_killed s (pixel s.config.width k) (deliveries_of routed) none))))

  -- nor does a view move
  pub stand_told : {shown : List View} → deliveries_of routed ≡ (route s.config s.input s.stack dev).deliveries
      → kills (deliveries_of routed) ≡ false → shown ≡ s.stack → shown ≡ s'.stack
  stand_told told none stood =
      let stays = kept_views (route s.config s.input s.stack dev).deliveries s.stack (sym (ap kills told) ∙ none) in
      rw (is, stays) stood

  -- what the user does, by whether the screen shows the same, and the areas of what has changed since
  pub seen_input : (is_same : Bool) (before now : Area)
      → deliveries_of routed ≡ (route s.config s.input s.stack dev).deliveries → IsBarArea s before
      → IsToldArea s' (deliveries_of routed) now → (is_same ≡ true → kills (deliveries_of routed) ≡ false)
      → (is_same ≡ true → s.input.mode ≡ s'.input.mode) → (is_same ≡ true → s.input.focus ≡ s'.input.focus)
      → HoldsUnless is_same a0 before now a1 → All (IsAreaOf s.config.width s.config.height) a0
      → IsSeenBut s' sheets' (has_any a1) seen × All (IsAreaOf s'.config.width s'.config.height) a1
  seen_input is_same before now told old new none modes focuses joined on =
      rw is (
        seen_after s after_it sheets sheets' (has_any a1) refl refl refl (has_any a0) seen known joined.own (whether_same is_same refl),
        joined.screen s.config.width s.config.height on old.area new_.area,
      )
    where
      new_ : IsToldArea after_it (deliveries_of routed) now
      new_ = rw is at new

      whether_same : (b : Bool) → is_same ≡ b
          → StaysOutside s.config.width (pixel_count s) (has_any a1) (frame_by s sheets) (frame_by after_it sheets')
      whether_same true known_ = λ k less off.
          let stays = kept_views (route s.config s.input s.stack dev).deliveries s.stack
          (sym (ap kills told) ∙ none known_) in
          same_pixel s after_it sheets sheets' (has_any a1) refl refl refl k less
          (λ i. record (scenery_of s) {
            stack = sym stays i;
            mode = (modes known_ ∙ ap (λ (x : State). x.input.mode) is) i;
            focus = (focuses known_ ∙ ap (λ (x : State). x.input.focus) is) i;
          })
          (words_told (none known_) k)
      whether_same false other = elim (cases_Bool (kills (deliveries_of routed))) [
        | inl there ↦ whole_stays _ _ (has_any a1) _ _ (λ x y wide high. joined.second other x y (new_.screen there x y wide high))
        | inr none ↦ bar_changes s after_it sheets sheets' (has_any a1) refl refl refl (λ k less. words_told none k)
            (bar_more s (has_place before) (has_any a1) old.bar (joined.first other))
            (bar_more after_it (has_place now) (has_any a1) new_.bar (joined.second other))
      ]

-- ---- a client that comes

pub seen_seated : (s s' : State) (seat : ℕ) (label : List ℕ) (sheets sheets' : List (List ℕ)) (a0 : List Area)
    (part : Area) (a1 : List Area) (seen : Option (List ℕ)) → s' ≡ opened seat label s
    → ((k : ℕ) → word_from (sheet_in sheets) (source_at s k)
    ≡ word_from (sheet_in sheets') (source_at (opened seat label s) k))
    → IsBarArea s part → IsAreaAdded a0 part a1 → AreParts a1 → IsSeenBut s sheets (has_any a0) seen
    → All (IsAreaOf s.config.width s.config.height) a0
    → IsSeenBut s' sheets' (has_any a1) seen × All (IsAreaOf s'.config.width s'.config.height) a1
seen_seated s s' seat label sheets sheets' a0 part a1 seen is words holds added are known on =
    let all = bar_more s (has_place part) (has_any a1) holds.bar added.own in
    rw is (
      seen_after s (opened seat label s) sheets sheets' (has_any a1) refl refl refl (has_any a0) seen known added.kept
          (bar_changes s (opened seat label s) sheets sheets' (has_any a1) refl refl refl (λ k less. words k) all all),
      added_on s.config.width s.config.height a0 part a1 added are on holds.area,
    )
