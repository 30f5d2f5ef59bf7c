-- What of a frame stays, pixel by pixel: what a call makes dirty, which word a pixel shows, what a look finds.
use Rattle.nit_host.proofs.Basics.{AgreeOutside, Area, Bare, Call, HoldsTouched, HostModel}
use Rattle.nit_host.proofs.Basics.{IsAreaOf, IsOneOf, IsSeenBut, PixelSource, Point, Rectangle}
use Rattle.nit_host.proofs.Basics.{Size, State, StaysOutside, Touch, View, among, and_from}
use Rattle.nit_host.proofs.Basics.{and_parts, arith, bar_rows, bar_word, bare_word, black_or_word}
use Rattle.nit_host.proofs.Basics.{buffer_place, buffer_size, column_and_row, covers, dirty_by_call}
use Rattle.nit_host.proofs.Basics.{div-mul-add, eqb-true, false_from_ne_true, false≢true, find_at}
use Rattle.nit_host.proofs.Basics.{flat_shown, frame_by, get_or-frame, get_or-map-range_with_len}
use Rattle.nit_host.proofs.Basics.{get_or_from_slice_get, get_or_past, has_any, has_place, in_bar}
use Rattle.nit_host.proofs.Basics.{index_at, ints, is_between, is_inside, is_owned_by, is_session}
use Rattle.nit_host.proofs.Basics.{is_touched, is_word_in, length-frame, mod-mul-add, nat_tests}
use Rattle.nit_host.proofs.Basics.{option_map_or, or_cases, owner_of, owns_either, passes_at_first}
use Rattle.nit_host.proofs.Basics.{picture_now, pixel, pixel_count, place_at, point, position_or_len}
use Rattle.nit_host.proofs.Basics.{rectangle, rectangle_over, same_Some, scenery_of, session}
use Rattle.nit_host.proofs.Basics.{sheet_in, shown, shown_index, shows_part, shows_place}
use Rattle.nit_host.proofs.Basics.{slice_get_within, source_at, source_under, spans, touched_by}
use Rattle.nit_host.proofs.Basics.{word_from}
use Rattle.std.proofs.Common.{Bool, List, None, Option, Some, ap, cond, false, find, length, negsuc}
use Rattle.std.proofs.Common.{pos, refl, slice_get, slice_index, subst, sym, true, ℕ, ℤ, ◌%◌, ◌&&◌}
use Rattle.std.proofs.Common.{◌*◌, ◌+ℤ◌, ◌-ℤ◌, ◌/◌, ◌<◌, ◌==◌, ◌∙◌, ◌≡◌}
use Rattle.nit_events.specs.declared.device.Mode.TheVariants as mode
use Rattle.nit_host.specs.declared.host.touch.Touch.TheVariants as touch

-- ---- one pixel of a frame

pub frame_pixel : (s : State) (sheets : List (List ℕ)) (k : ℕ) → k < pixel_count s
    → slice_index (frame_by s sheets) k
    ≡ shown (scenery_of s) (pixel s.config.width k) (word_from (sheet_in sheets) (source_at s k))
frame_pixel s sheets k less = grind (arith, nat_tests, get_or-frame, get_or-map-range_with_len)

-- in mode Flat and below the bar it is the word of its source
flat_pixel : (s : State) (sheets : List (List ℕ)) (k : ℕ) → k < pixel_count s → s.input.mode ≡ mode.Flat
    → in_bar (bar_rows s.config) (pixel s.config.width k) ≡ false
    → slice_index (frame_by s sheets) k ≡ word_from (sheet_in sheets) (source_at s k)
flat_pixel s sheets k less flat below = grind (arith, nat_tests, frame_pixel, flat_shown)

-- in the bar it is the bar's
bar_pixel : (s : State) (sheets : List (List ℕ)) (k : ℕ) → k < pixel_count s
    → in_bar (bar_rows s.config) (pixel s.config.width k) ≡ true
    → slice_index (frame_by s sheets) k ≡ bar_word (scenery_of s) (pixel s.config.width k)
bar_pixel s sheets k less inside = frame_pixel s sheets k less ∙ rw inside refl

-- ---- all pixels outside of an area

-- where the area is the whole screen
pub whole_stays : (width height : ℕ) (a : ℕ → ℕ → Bool) (before now : List ℕ)
    → ((x y : ℕ) → x < width → y < height → a x y ≡ true)
    → StaysOutside width (width * height) a before now
whole_stays width height a before now whole k less off = grind (arith, nat_tests, column_and_row, false≢true)

module _ (s s' : State) (sheets sheets' : List (List ℕ)) (a : ℕ → ℕ → Bool) (width : s'.config.width ≡ s.config.width)
    (height : s'.config.height ≡ s.config.height) (bar : bar_rows s'.config ≡ bar_rows s.config) where
  count : (k : ℕ) → k < pixel_count s → k < pixel_count s'
  count k less = subst (λ (n : ℕ). k < n) (sym (λ i. width i * height i)) less

  -- where the scenery and the pixel's word are the same
  pub same_pixel : (k : ℕ) → k < pixel_count s → scenery_of s ≡ scenery_of s'
      → word_from (sheet_in sheets) (source_at s k) ≡ word_from (sheet_in sheets') (source_at s' k)
      → slice_index (frame_by s sheets) k ≡ slice_index (frame_by s' sheets') k
  same_pixel k less scene word = grind (arith, nat_tests, frame_pixel)

  -- where the mode is Flat before and after
  pub flat_stays : s.input.mode ≡ mode.Flat → s'.input.mode ≡ mode.Flat
      → ((k : ℕ) → k < pixel_count s → is_inside s.config.width a k ≡ false
      → word_from (sheet_in sheets) (source_at s k) ≡ word_from (sheet_in sheets') (source_at s' k))
      → ((k : ℕ) → k < pixel_count s → is_inside s.config.width a k ≡ false
      → in_bar (bar_rows s.config) (pixel s.config.width k) ≡ true
      → bar_word (scenery_of s) (pixel s.config.width k) ≡ bar_word (scenery_of s') (pixel s.config.width k))
      → StaysOutside s.config.width (pixel_count s) a (frame_by s sheets) (frame_by s' sheets')
  flat_stays flat flat' words bars k less off = grind (arith, nat_tests, flat_pixel, bar_pixel, count)

  -- what was seen is still the frame, but for an area with what changed
  pub seen_after : (a0 : ℕ → ℕ → Bool) (seen : Option (List ℕ)) → IsSeenBut s sheets a0 seen
      → ((x y : ℕ) → a0 x y ≡ true → a x y ≡ true)
      → StaysOutside s.config.width (pixel_count s) a (frame_by s sheets) (frame_by s' sheets')
      → IsSeenBut s' sheets' a seen
  seen_after a0 None all more stays = grind (arith, nat_tests)
  seen_after a0 (Some seen) all more stays = grind (arith, nat_tests, false_from_ne_true, false≢true)

-- What a call makes dirty lies in the areas of what it touches.

-- ---- the view that owns a pixel stands in the stack

-- a pixel whose owner passes a test lies in an area that has each view's pixels that pass it
owned_inside : (test : View → Bool) (s : State) (p : Point) (inside : Bool)
    → ((i : ℕ) (v : View) → slice_get s.stack i ≡ Some v → test v ≡ true → covers v.rect p ≡ true → inside ≡ true)
    → is_owned_by test s p ≡ true → inside ≡ true
owned_inside test s p inside holds owned = by_owner (in_bar (bar_rows s.config) p) (find shows s.stack) refl owned
  where
    shows : View → Bool
    shows v = covers v.rect p

    by_owner : (b : Bool) (o : Option View) → find shows s.stack ≡ o → option_map_or test (cond b None o) false ≡ true
        → inside ≡ true
    by_owner false (Some v) is passes =
        let at : ℕ = position_or_len shows s.stack in
        let there : slice_get s.stack at ≡ Some v = sym (find_at shows s.stack) ∙ is in
        holds at v there passes (ap shows (sym (get_or_from_slice_get s.stack at v v there))
        ∙ passes_at_first shows s.stack v (slice_get_within s.stack at v there))
    by_owner false None is none = absurd (false≢true none)
    by_owner true o is none = absurd (false≢true none)

-- ---- a pixel that shows a part

among_is : (z : ℤ) (most n : ℕ) → among z most ≡ Some n → (z ≡ pos n) × (n < most)
among_is (pos m) most n is = (grind (arith, nat_tests), grind (arith, nat_tests))
among_is (negsuc m) most n is = cc

pub record IsPlaceOf (columns rows i : ℕ) (a b : ℤ) : Type 0 where
  pub column : a ≡ pos (i % columns)
  pub row : b ≡ pos (i / columns)
  pub wide : i % columns < columns
  pub high : i / columns < rows

pub index_is : (columns rows i : ℕ) (a b : ℤ) → index_at columns (among a columns) (among b rows) ≡ Some i
    → IsPlaceOf columns rows i a b
index_is columns rows i a b is = grind (arith, nat_tests, among_is, same_Some, mod-mul-add, div-mul-add)

shown_part : (part : Rectangle) (size : Size) (v : View) (p : Point) (i : ℕ) → shown_index size v p ≡ Some i
    → covers part (pixel size.w i) ≡ true → shows_place part v p ≡ true
shown_part part size v p i is covered = grind (arith, nat_tests, index_is)

part_inside : (seat : ℕ) (part : Rectangle) (s : State) (p : Point) (inside : Bool)
    → ((i : ℕ) (v : View) → slice_get s.stack i ≡ Some v
    → (is_session seat v && (covers v.rect p && shows_place part v p)) ≡ true → inside ≡ true)
    → shows_part seat part s p ≡ true → inside ≡ true
part_inside seat part s p inside holds shows =
    owned_inside (λ v. of_part (black_or_word v.sid (shown_index (buffer_size s.sessions v.sid) v p))) s p inside
    (λ i v there word covered. by_index i v there covered (shown_index (buffer_size s.sessions v.sid) v p) refl word)
    (by_owner (owner_of s p) shows)
  where
    of_part : PixelSource → Bool
    of_part source = is_word_in seat (session s seat).bw part source

    by_index : (i : ℕ) (v : View) → slice_get s.stack i ≡ Some v → covers v.rect p ≡ true → (o : Option ℕ)
        → shown_index (buffer_size s.sessions v.sid) v p ≡ o → of_part (black_or_word v.sid o) ≡ true
        → inside ≡ true
    by_index i v there covered None is none = absurd (false≢true none)
    by_index i v there covered (Some n) is word =
        let both = and_parts (v.sid == seat) (covers part (pixel (session s seat).bw n)) word in
        let shown = shown_part part (buffer_size s.sessions v.sid) v p n is (rw (eqb-true v.sid seat both.0) both.1) in
        holds i v there (λ k. both.0 k && (covered k && shown k))

    by_owner : (o : Option View) → of_part (source_under (buffer_size s.sessions) p o) ≡ true
        → option_map_or (λ v. of_part (black_or_word v.sid (shown_index (buffer_size s.sessions v.sid) v p))) o false
        ≡ true
    by_owner None none = none
    by_owner (Some v) word = word

-- ---- an accepted call

-- a pixel of a view that the test of a touch names
owned_place : (s : State) (seat : ℕ) (a : ℕ → ℕ → Bool) (x y : ℕ) (t : Touch) (test : View → Bool) → x < s.config.width
    → y < s.config.height → HoldsTouched s seat t a
    → ((v : View) → is_touched t seat v (point x y) ≡ (test v && covers v.rect (point x y)))
    → is_owned_by test s (point x y) ≡ true → a x y ≡ true
owned_place s seat a x y t test wide high holds touched owned = owned_inside test s (point x y) (a x y)
    (λ i u there own covered. holds.views i x y u there wide high (touched u ∙ and_from _ _ own covered)) owned

module _ (s s' : State) (seat : ℕ) (a : ℕ → ℕ → Bool) (x y : ℕ) (wide : x < s.config.width) (high : y < s.config.height)
    (wide' : x < s'.config.width) (high' : y < s'.config.height) where
  on_view : (v : ℕ) → HoldsTouched s seat (touch.View v) a → HoldsTouched s' seat (touch.View v) a
      → owns_either seat v s s' (point x y) ≡ true → a x y ≡ true
  on_view v holds holds' own = grind (arith, nat_tests, or_cases, owned_place)

  of_part : (px py : ℤ) (w h : ℕ) (b : Bool)
      → HoldsTouched s' seat (cond b (touch.Part (rectangle px py w h)) touch.Screen) a
      → shows_part seat (rectangle px py w h) s' (point x y) ≡ true → a x y ≡ true
  of_part px py w h true holds shows = part_inside seat (rectangle px py w h) s' (point x y) (a x y)
      (λ i u there is. holds.views i x y u there wide' high' is) shows
  of_part px py w h false holds shows = holds.bare x y wide' high' refl

  -- a pixel that an accepted call makes dirty in mode Flat
  pub call_inside : (c : Call) → HoldsTouched s seat (touched_by c) a → HoldsTouched s' seat (touched_by c) a
      → dirty_by_call seat c s s' (point x y) ≡ true → a x y ≡ true
  call_inside c holds holds' is = grind (arith, nat_tests, on_view, owned_place, of_part)

-- more than what is touched
pub touched_more : (s : State) (seat : ℕ) (t : Touch) (a b : ℕ → ℕ → Bool) → HoldsTouched s seat t a
    → ((x y : ℕ) → a x y ≡ true → b x y ≡ true) → HoldsTouched s seat t b
touched_more s seat t a b holds more = grind (arith, nat_tests)

-- ---- which word a pixel of a host's picture shows

pub by_source : (h : HostModel) (k : ℕ) (source : PixelSource) → k < pixel_count h.state → source_at h.state k ≡ source
    → slice_index (picture_now h) k ≡ word_from (sheet_in h.sheets) source
by_source h k source less is = grind (arith, nat_tests, get_or-map-range_with_len)

no_index : (columns rows : ℕ) (a b : ℤ)
    → ((i j : ℕ) → a ≡ pos i → i < columns → b ≡ pos j → j < rows → ⊥)
    → index_at columns (among a columns) (among b rows) ≡ None
no_index columns rows a b none = grind (arith, nat_tests, index_is)

-- the word of a pixel to which the buffer of its view does not reach
pub of_past : (h : HostModel) (k : ℕ) (v : View) → k < pixel_count h.state
    → owner_of h.state (pixel h.state.config.width k) ≡ Some v
    → ((i j : ℕ) → (pos (k % h.state.config.width) -ℤ v.rect.x) -ℤ v.ox ≡ pos i
    → i < (session h.state v.sid).bw
    → (pos (k / h.state.config.width) -ℤ v.rect.y) -ℤ v.oy ≡ pos j → j < (session h.state v.sid).bh → ⊥)
    → slice_index (picture_now h) k ≡ 0
of_past h k v less owned none = grind (arith, nat_tests, by_source, no_index)

pub of_none : (h : HostModel) (k : ℕ) → k < pixel_count h.state
    → owner_of h.state (pixel h.state.config.width k) ≡ None → slice_index (picture_now h) k ≡ bare_word
of_none h k less none = by_source h k Bare less (rw none refl)

-- ---- what of a view is touched, as an area

-- a place of the screen that shows one of these places of the buffer
shifted : (from corner offset start : ℤ) (long n : ℕ) → start ≡ (corner +ℤ offset) +ℤ from
    → spans from long (buffer_place (pos n) corner offset) ≡ true → spans start long (pos n) ≡ true
shifted from corner offset start long n is shows = grind (arith, ints, nat_tests)

-- the columns and rows that show the part
pub shown_there : (part : Rectangle) (v : View) (x y w h left right top bottom : ℕ) (column row : ℤ)
    → column ≡ (v.rect.x +ℤ v.ox) +ℤ part.x → row ≡ (v.rect.y +ℤ v.oy) +ℤ part.y → w ≡ part.w → h ≡ part.h
    → spans column w (pos x) ≡ is_between left right x → spans row h (pos y) ≡ is_between top bottom y
    → shows_place part v (point x y) ≡ true → (is_between left right x && is_between top bottom y) ≡ true
shown_there part v x y w h left right top bottom column row column_is row_is w_is h_is across down shows =
    let both = and_parts (spans part.x part.w (buffer_place (pos x) v.rect.x v.ox))
    (spans part.y part.h (buffer_place (pos y) v.rect.y v.oy)) shows in
    and_from (is_between left right x) (is_between top bottom y)
    (rw (← across, w_is) (shifted part.x v.rect.x v.ox column part.w x column_is both.0))
    (rw (← down, h_is) (shifted part.y v.rect.y v.oy row part.h y row_is both.1))

-- the view at a place is the one that was read there
pub same_view : (stack : List View) (i k : ℕ) (v w : View) (t : Touch) (seat : ℕ) (size : ℕ × ℕ) (width height : ℕ)
    (a : Area) (x y : ℕ) → i ≡ k → slice_get stack i ≡ Some v → slice_get stack k ≡ Some w
    → ◌≡◌ {A = ℕ × ℕ} size (width, height)
    → ((x y : ℕ) → x < size.0 → y < size.1 → is_touched t seat w (point x y) ≡ true → has_place a x y ≡ true)
    → x < width → y < height → is_touched t seat v (point x y) ≡ true → has_place a x y ≡ true
same_view stack i k v w t seat size width height a x y at there read sized holds wide high is =
    grind (arith, nat_tests, same_Some)

-- ---- a look at what can have changed

pub covers_inside : (width height k : ℕ) (a : Area) → IsAreaOf width height a
    → covers (rectangle_over a) (place_at width k) ≡ has_place a (k % width) (k / width)
covers_inside width height k a on = grind (arith, nat_tests)

-- what was seen is the frame outside of an area with all in which something may have changed
pub agree_outside : (s : State) (sheets : List (List ℕ)) (parts : List Area) (a : Area) (seen : Option (List ℕ))
    (out : List ℕ) → IsAreaOf s.config.width s.config.height a
    → ((x y : ℕ) → has_any parts x y ≡ true → has_place a x y ≡ true) → IsSeenBut s sheets (has_any parts) seen
    → IsOneOf seen out → length out ≡ pixel_count s
    → AgreeOutside s.config.width out (frame_by s sheets) (rectangle_over a)
agree_outside s sheets parts a seen out on all known one long k off =
    by_test (has_any parts) (λ is. false≢true (sym off ∙ covers_inside s.config.width s.config.height k a on
    ∙ all (k % s.config.width) (k / s.config.width) is)) known
  where
    by_test : (test : ℕ → ℕ → Bool) → (is_inside s.config.width test k ≡ true → ⊥) → IsSeenBut s sheets test seen
        → slice_index out k ≡ slice_index (frame_by s sheets) k
    by_test test outside known =
        grind (arith, nat_tests, false_from_ne_true _ outside, get_or_past, length-frame)

-- nothing has changed since the look
pub seen_now : (s : State) (sheets : List (List ℕ)) (a : ℕ → ℕ → Bool) → IsSeenBut s sheets a (Some (frame_by s sheets))
seen_now s sheets a = grind (arith, nat_tests, length-frame)
