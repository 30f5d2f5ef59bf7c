-- What the outer run's last picture shows of the inner one; and that a film of a region tells of nothing else.
use Rattle.std.proofs.Common.{Bool, List, None, Option, Some, [], ap, ap₂, arith, cond, false}
use Rattle.std.proofs.Common.{get_or, inl, inr, length, length-append, map, mul_comm, nat_lt}
use Rattle.std.proofs.Common.{negsuc, refl, subst, suc, sym, take, true, zero, ℕ, ℤ, ◌%◌, ◌*◌, ◌++◌}
use Rattle.std.proofs.Common.{◌+◌, ◌-◌, ◌/◌, ◌<◌, ◌∙◌, ◌∷◌, ◌≡◌, ◌≤◌, ◌⊎◌}
use Rattle.nit_top.proofs.Basics.{AgreeInRegion, AllAgreeInRegion, Buffer, Call, Calls, CanPay}
use Rattle.nit_top.proofs.Basics.{Close, Configuration, Entry, Event, Gets, HasPixels}
use Rattle.nit_top.proofs.Basics.{HaveOneScreen, HoldsAtEnd, IsJournal, IsPicture, Item, LiesIn}
use Rattle.nit_top.proofs.Basics.{Line, MachinesLaw, NestModel, Observation, PixelSource, Point}
use Rattle.nit_top.proofs.Basics.{Rectangle, Region, Reply, RunFiles, Session, Setup, ShotFrame}
use Rattle.nit_top.proofs.Basics.{Shows, ShowsFrames, ShowsNest, Size, State, Status, Take, View}
use Rattle.nit_top.proofs.Basics.{Word, accepted, after_observations, among, and_parts, and_true}
use Rattle.nit_top.proofs.Basics.{black_or_word, buffer_place, buffer_size, by_call, by_life}
use Rattle.nit_top.proofs.Basics.{by_refusal, by_status, calls_in, calls_of, calls_to_make}
use Rattle.nit_top.proofs.Basics.{cases_Bool, crop, crop_pixel, div_below, donation_of, done}
use Rattle.nit_top.proofs.Basics.{film_of, first_forbidden, first_none, first_session}
use Rattle.nit_top.proofs.Basics.{frames_behind, frames_of, get_or-take, index_at, ints}
use Rattle.nit_top.proofs.Basics.{is_accepted, last_frame, lines_of_frames, ltb-true, mod_below}
use Rattle.nit_top.proofs.Basics.{mul-add-lt, nest_of, nest_script, next_frame, owner_of, phases}
use Rattle.nit_top.proofs.Basics.{picture, picture_header, pixel, pos, projection, range_with_len}
use Rattle.nit_top.proofs.Basics.{receive, rectangle, rectangle_of, refusal, replay, screen}
use Rattle.nit_top.proofs.Basics.{script_in, session, shot_frames_of, shown_index, slice_index}
use Rattle.nit_top.proofs.Basics.{source_at, source_under, spans, spans_holds, spans_tells, static}
use Rattle.nit_top.proofs.Basics.{stream, tables_left, take_all, taking, word_from, word_of_bytes}
use Rattle.nit_top.proofs.Basics.{word_seen, words_left, woven}
use Rattle.nit_journal.specs.Session.{serve}
use Rattle.nit_top.proofs.NestedRuns.{PhasesStay}
use Rattle.nit_capture.specs.Crop.{crop_bytes, crop_place}
use Rattle.nit_events.specs.declared.event.Item.TheVariants as item
use Rattle.nit_events.specs.declared.event.Status.TheVariants as status

-- ---- a machine that is not served has no buffer

abbrev pub IsServedOrBare : Session → Type 0
IsServedOrBare s = (s.status ≡ status.Live) ⊎ (s.bw ≡ 0)

-- ---- a call

taking_keeps : (queue : List Event) (s : Session) → IsServedOrBare s → IsServedOrBare (taking queue s).session
taking_keeps [] s h = h
taking_keeps (e ∷ es) s h = h

accepted_keeps : (s : Session) (call : Call) → s.status ≡ status.Live → IsServedOrBare (accepted s call).session
accepted_keeps s Close live = inr refl
accepted_keeps s Take live = taking_keeps s.queue s (inl live)
accepted_keeps s other live = inl live

refusal_keeps : (s : Session) (call : Call) (o : Option Reply) → (o ≡ None → s.status ≡ status.Live) → IsServedOrBare s
    → IsServedOrBare (by_refusal s call o).session
refusal_keeps s call (Some r) live h = h
refusal_keeps s call None live h = accepted_keeps s call (live refl)

live_if : (how : Status) → by_status how ≡ None → how ≡ status.Live
live_if status.Live e = refl
live_if other e = absurd cc

serve_keeps : (s : Session) (call : Call) → IsServedOrBare s → IsServedOrBare (serve s call).session
unfolding serve
serve_keeps s call h = refusal_keeps s call (refusal s call)
    (λ e. live_if s.status (first_none (by_status s.status) (by_call s call) e)) h

-- ---- an item

queued_keeps : (b : Bool) (e : Event) (s : Session) → IsServedOrBare s
    → IsServedOrBare (cond b (record s { queue = s.queue ++ e ∷ [] }) (record s { lost = s.lost + 1 }))
queued_keeps true e s h = h
queued_keeps false e s h = h

life_keeps : (how : Status) (i : Item) (s : Session) → IsServedOrBare s → IsServedOrBare (by_life how i s)
life_keeps status.Live (item.Event e) s h = queued_keeps (nat_lt (length s.queue) 64) e s h
life_keeps status.Live item.Kill s h = inr refl
life_keeps other i s h = h

-- ---- along what a session sees

pub served_or_bare : (s : Session) (moments : List Observation) → IsServedOrBare s
    → IsServedOrBare (after_observations s moments)
served_or_bare s [] h = h
served_or_bare s (Calls call ∷ rest) h = served_or_bare (serve s call).session rest (serve_keeps s call h)
served_or_bare s (Gets i ∷ rest) h = served_or_bare (receive s i) rest (life_keeps s.status i s h)

-- ---- a pixel whose source is a word of a session shows a place within the session's buffer

abbrev number_in : Option ℕ → ℕ
number_in None = 0
number_in (Some n) = n

among_within : (z : ℤ) (most n : ℕ) → among z most ≡ Some n → n < most
among_within (negsuc m) most n e = absurd cc
among_within (pos m) most n e = whether_less (nat_lt m most) refl e
  where
    whether_less : (b : Bool) → nat_lt m most ≡ b → cond b (Some m) None ≡ Some n → n < most
    whether_less true is e = subst (λ (k : ℕ). k < most) (ap number_in e) (ltb-true m most is)
    whether_less false is e = absurd cc

index_within : (w h : ℕ) (x y : Option ℕ) (j : ℕ) → ((n : ℕ) → x ≡ Some n → n < w) → ((n : ℕ) → y ≡ Some n → n < h)
    → index_at w x y ≡ Some j → j < w * h
index_within w h (Some x) (Some y) j wide tall e =
    subst (λ (n : ℕ). n < w * h) (ap number_in e) (mul-add-lt y w x h (tall y refl) (wide x refl))
index_within w h (Some x) None j wide tall e = absurd cc
index_within w h None y j wide tall e = absurd cc

shown_within : (size : Size) (v : View) (p : Point) (j : ℕ) → shown_index size v p ≡ Some j → j < size.w * size.h
shown_within size v p j e =
    let x : ℤ = buffer_place p.x v.rect.x v.ox in
    let y : ℤ = buffer_place p.y v.rect.y v.oy in
    index_within size.w size.h (among x size.w) (among y size.h) j (λ n is. among_within x size.w n is)
    (λ n is. among_within y size.h n is) e

abbrev session_in : PixelSource → ℕ
session_in (Word t j) = t
session_in other = 0

abbrev place_in : PixelSource → ℕ
place_in (Word t j) = j
place_in other = 0

pub word_within : (sizes : ℕ → Size) (p : Point) (o : Option View) (t j : ℕ) → source_under sizes p o ≡ Word t j
    → j < (sizes t).w * (sizes t).h
word_within sizes p None t j e = absurd cc
word_within sizes p (Some v) t j e = by_index (shown_index (sizes v.sid) v p) refl e
  where
    by_index : (o : Option ℕ) → shown_index (sizes v.sid) v p ≡ o → black_or_word v.sid o ≡ Word t j
        → j < (sizes t).w * (sizes t).h
    by_index None is e = absurd cc
    by_index (Some n) is e =
        subst (λ (k : ℕ). j < (sizes k).w * (sizes k).h) (ap session_in e)
        (shown_within (sizes v.sid) v p j (is ∙ ap Some (ap place_in e)))

-- ---- the last frame

-- what the laws of scripts and nests say
pub record SeenLaws : Type 0 where
  pub machines : MachinesLaw
  pub calls : (lines : List Line) → calls_in lines ≡ done (calls_to_make lines)
  pub live : (config : Configuration) (journal : List Entry) (sid : ℕ) (script : List Line) (k : ℕ)
      → sid < length config.clients → (session (replay config journal) sid).status ≡ status.Live
      → calls_of sid journal ≡ calls_in (take k script)
      → session (replay config journal) sid
      ≡ record (static script (donation_of config sid) k) {
        queue = (session (replay config journal) sid).queue;
        lost =
            (session (replay config journal) sid).lost;
      }
  pub wide : (n : NestModel) (own : List Line) (donation k : ℕ) → first_forbidden 1 own ≡ None → CanPay donation n.w n.h
      → 1 ≤ k → (static (nest_script n own) donation k).bw ≡ n.w
  pub tall : (n : NestModel) (own : List Line) (donation k : ℕ) → first_forbidden 1 own ≡ None → CanPay donation n.w n.h
      → 1 ≤ k → (static (nest_script n own) donation k).bh ≡ n.h
  pub bare : (n : NestModel) (own : List Line) (donation k : ℕ) → first_forbidden 1 own ≡ None
      → is_accepted (serve (first_session donation) (Buffer n.w n.h)).reply ≡ false
      → (static (nest_script n own) donation k).bw ≡ 0
  pub stay : PhasesStay
  pub left : (w h : ℕ) (front : List (List ℕ)) (last : List ℕ) (script : List Line) (donation : ℕ)
      → ShowsFrames w h (front ++ last ∷ []) script donation → phases script ≡ length front + 1
      → take (w * h) (words_left script donation) ≡ last

some_lines : (n : NestModel) (own : List Line) → 1 ≤ length (nest_script n own)
some_lines n own = let tail : ℕ =
    length (next_frame (lines_of_frames n) ++ woven (frames_behind (lines_of_frames n)) own) in let long : length
    (nest_script n own) ≡ suc tail = refl in omega (arith, long)

module _ (laws : SeenLaws) (s : Setup) (journal : List Entry) (j : IsJournal s journal) (i : RunFiles) (own : List Line)
    (rest : List (List Line)) (scripts : s.scripts ≡ nest_script (nest_of i) own ∷ rest)
    (there : 0 < length s.config.clients)
    (may : first_forbidden 1 own ≡ None) (counted : phases own ≡ length (frames_of i))
    (shows : ShowsNest (nest_of i) (nest_script (nest_of i) own)) where
  abbrev w : ℕ
  w = i.config.width

  abbrev h : ℕ
  h = i.config.height

  abbrev script : List Line
  script = nest_script (nest_of i) own

  abbrev donation : ℕ
  donation = donation_of s.config 0

  abbrev machine : Session
  machine = session (replay s.config journal) 0

  -- ---- the buffer

  made : calls_of 0 journal ≡ calls_in (take (length script) script)
  made =
      rw scripts at (j.whole.calls 0 (rw scripts (omega arith)))
      ∙ sym (laws.calls script) ∙ ap calls_in (sym (take_all (length script) script (omega arith)))

  served : IsServedOrBare machine
  served = rw (laws.machines s.config journal 0 j.legal there)
      (served_or_bare (first_session donation) (projection 0 journal) (inl refl))

  -- the machine that the script leaves
  as_left : machine.status ≡ status.Live
      → machine ≡ record (static script donation (length script)) { queue = machine.queue; lost = machine.lost }
  as_left live = laws.live s.config journal 0 script (length script) there live made

  size : CanPay donation w h → machine.status ≡ status.Live → (machine.bw ≡ w) × (machine.bh ≡ h)
  size pays live =
      let some : 1 ≤ length script = some_lines (nest_of i) own in (
        ap (λ (m : Session). m.bw) (as_left live) ∙ laws.wide (nest_of i) own donation (length script) may pays some,
        ap (λ (m : Session). m.bh) (as_left live) ∙ laws.tall (nest_of i) own donation (length script) may pays some,
      )

  module _ (k place : ℕ) (at : source_at (replay s.config journal) k ≡ Word 0 place) where
    inside : place < machine.bw * machine.bh
    inside = let state : State = replay s.config journal in word_within (buffer_size state.sessions)
        (pixel state.config.width k) (owner_of state (pixel state.config.width k)) 0 place at

    some_buffer : machine.bw ≡ 0 → ⊥
    some_buffer bare = let none = rw bare at inside in omega (arith, none)

    live : machine.status ≡ status.Live
    live = elim served [ inl is ↦ is | inr bare ↦ absurd (some_buffer bare) ]

    paid : CanPay donation w h
    paid = elim (cases_Bool (is_accepted (serve (first_session donation) (Buffer w h)).reply)) [
      | inl pays ↦ pays
      | inr refused ↦ absurd (some_buffer (ap (λ (m : Session). m.bw) (as_left live)
          ∙ laws.bare (nest_of i) own donation (length script) may refused))
    ]

    within : place < w * h
    within = let is = size paid live in rw (is.0, is.1) at inside

  -- ---- its words

  left_last : CanPay donation w h → take (w * h) (words_left script donation) ≡ last_frame i
  left_last pays =
      let front : List (List ℕ) = map (λ (f : ShotFrame). f.words) (shot_frames_of i.config i.scripts i.input) in
      laws.left w h front (last_frame i) script donation (shows donation pays) (laws.stay (nest_of i) own ∙ counted
      ∙ length-append front (last_frame i ∷ []))

  word_at : CanPay donation w h → (place : ℕ) → place < w * h → slice_index (words_left script donation) place
      ≡ slice_index (last_frame i) place
  word_at pays place inside = sym (get_or-take (w * h) (words_left script donation) place 0 inside)
      ∙ ap (λ (ws : List ℕ). get_or ws place 0) (left_last pays)

  pub seen : (k word place : ℕ) → HoldsAtEnd s journal k word → source_at (replay s.config journal) k ≡ Word 0 place
      → (place < w * h) × (word ≡ slice_index (last_frame i) place)
  seen k word place holds at =
      let inside : place < w * h = within k place at in (
        inside,
        holds ∙ ap (word_from (tables_left s.config s.scripts)) at
            ∙ ap (λ (ss : List (List Line)). slice_index (words_left (script_in ss 0) donation) place) scripts
            ∙ word_at (paid k place at) place inside,
      )

-- A film of a region tells of nothing else.

-- ---- films of pictures that agree

same_words : (f g : ℕ → ℕ) (first count : ℕ) → ((k : ℕ) → k < first + count → f k ≡ g k)
    → map f (range_with_len first count) ≡ map g (range_with_len first count)
same_words f g first zero same = refl
same_words f g first (suc count) same =
    ap₂ (λ (x : ℕ) (xs : List ℕ). x ∷ xs) (same first (omega arith))
    (same_words f g (first + 1) count (λ k lt. same k (omega arith)))

some_columns : (w h k : ℕ) → k < w * h → 0 < w
some_columns zero h k lt = absurd (omega arith)
some_columns (suc w) h k lt = omega arith

same_crop : (region : Region) (config : Configuration) (a b : List ℕ) → AgreeInRegion region config a b
    → crop_bytes config.width config.height (rectangle_of region) a
    ≡ crop_bytes config.width config.height (rectangle_of region) b
unfolding crop_bytes crop_place
same_crop region config a b agree =
    let r = rectangle_of region in
    same_words (crop_pixel config.width config.height r a) (crop_pixel config.width config.height r b) 0
    (region.w * region.h) (λ k lt.
    let turned : region.w * region.h ≡ region.h * region.w = mul_comm region.w region.h in
    let inside : k < region.h * region.w = omega (arith, turned) in
    let wide : 0 < region.w = some_columns region.w region.h k (omega arith) in
    let across : k % region.w < region.w = mod_below k region.w wide in
    let down : k / region.w < region.h = div_below k region.w region.h wide inside in
    agree (region.x + k % region.w) (region.y + k / region.w) (
      omega arith,
      omega (arith, across),
      omega arith,
      omega (arith, down),
    ))

same_crops : (region : Region) (config : Configuration) (a b : List (List ℕ)) → AllAgreeInRegion region config a b
    → map (crop_bytes config.width config.height (rectangle_of region)) a
    ≡ map (crop_bytes config.width config.height (rectangle_of region)) b
same_crops region config [] [] all = refl
same_crops region config [] (y ∷ b) all = absurd all
same_crops region config (x ∷ a) [] all = absurd all
same_crops region config (x ∷ a) (y ∷ b) all =
    ap₂ (λ (z : List ℕ) (zs : List (List ℕ)). z ∷ zs) (same_crop region config x y all.0)
    (same_crops region config a b all.1)

pub same_film : (region : Region) (config other : Configuration) (a b : List (List ℕ)) → HaveOneScreen config other
    → AllAgreeInRegion region config a b → film_of region config a ≡ film_of region other b
same_film region config other a b screen all =
    ap (stream region.w region.h) (same_crops region config a b all)
    ∙ ap₂ (λ (w h : ℕ). stream region.w region.h (map (crop_bytes w h (rectangle_of region)) b)) screen.0 screen.1

-- ---- the word at a pixel

-- one pixel as a rectangle
abbrev one_pixel : ℕ → ℕ → Rectangle
one_pixel x y = rectangle (pos x) (pos y) 1 1

on_screen : (width height x y : ℕ) → x < width → y < height → LiesIn (one_pixel x y) (screen width height)
on_screen width height x y across down p is =
    let parts = and_parts (spans (pos x) 1 p.x) (spans (pos y) 1 p.y) is in
    let a = spans_tells (pos x) 1 p.x parts.0 in
    let d = spans_tells (pos y) 1 p.y parts.1 in
    and_true (spans_holds (pos 0) width p.x
    (record { low = omega (arith, ints, a.low); high = omega (arith, ints, a.high, across) }))
    (spans_holds (pos 0) height p.y
    (record { low = omega (arith, ints, d.low); high = omega (arith, ints, d.high, down) }))

-- what the law of cut pictures says
abbrev pub CutLaw : Type 0
CutLaw = (width height : ℕ) (r : Rectangle) (bytes frame : List ℕ) → LiesIn r (screen width height) → HasPixels r
    → Shows width height bytes frame → crop_bytes width height r bytes ≡ crop width r frame

seen_by : (config : Configuration) (bytes frame : List ℕ) (x y : ℕ)
    → crop_bytes config.width config.height (one_pixel x y) bytes ≡ crop config.width (one_pixel x y) frame
    → word_seen config bytes x y ≡ slice_index frame (y * config.width + x)
unfolding crop_bytes crop_place
seen_by config bytes frame x y cut =
    let here : (y + 0 / 1) * config.width + (x + 0 % 1) ≡ y * config.width + x = omega arith in
    ap (λ (k : ℕ). word_of_bytes bytes (length bytes - 3 * (config.width * config.height) + 3 * k)) (sym here)
    ∙ ap (λ (words : List ℕ). slice_index words 0) cut ∙ ap (slice_index frame) here

pub picture_seen : CutLaw → (config : Configuration) (frame : List ℕ) (x y : ℕ)
    → IsPicture config.width config.height frame → x < config.width → y < config.height
    → word_seen config (picture config.width config.height frame) x y ≡ slice_index frame (y * config.width + x)
picture_seen law config frame x y p across down =
    let shows : Shows config.width config.height (picture config.width config.height frame) frame =
    record { front = picture_header config.width config.height; bytes_are = refl; picture = p } in
    seen_by config (picture config.width config.height frame) frame x y
    (law config.width config.height (one_pixel x y) (picture config.width config.height frame) frame
    (on_screen config.width config.height x y across down) (omega arith, omega arith) shows)
