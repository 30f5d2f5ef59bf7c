-- Where a view shows a part of its session's buffer.
use Rattle.nit_repaint.proofs.Basics.{AreSet, CoversBoth, CutterModel, IsOnScreen, IsSpanned, LetteredLook}
use Rattle.nit_repaint.proofs.Basics.{NoPair, PixelSource, Point, Rectangle, Repainted, Sight}
use Rattle.nit_repaint.proofs.Basics.{SlotView, StackModel, View, ViewRef, among, black_or_word}
use Rattle.nit_repaint.proofs.Basics.{buffer_place, column_of, covered, covers, false_from_ne_true}
use Rattle.nit_repaint.proofs.Basics.{frame, get_or-frame, has_come, has_pixel, index_at, ints}
use Rattle.nit_repaint.proofs.Basics.{is_index_in, is_of_session, is_owned, is_slot, is_to_come}
use Rattle.nit_repaint.proofs.Basics.{is_wanted, is_word_in, le_tested, length-frame, list_any}
use Rattle.nit_repaint.proofs.Basics.{nat_tests, once, option_map_or, owned_is, owner_in}
use Rattle.nit_repaint.proofs.Basics.{owner_of_views, owner_passes, pixel, place_is, point}
use Rattle.nit_repaint.proofs.Basics.{rectangle, repainted_none, repainted_union, row_of, rows}
use Rattle.nit_repaint.proofs.Basics.{same_number_lists, same_slot, same_tests, scenery, set_same}
use Rattle.nit_repaint.proofs.Basics.{set_then, shown_at, shown_index, size_of, slot_view_covers}
use Rattle.nit_repaint.proofs.Basics.{slot_view_in, source_in, source_under, spans, spans_holds}
use Rattle.nit_repaint.proofs.Basics.{spans_tells, times, to_come, wanted, wanted_of_first, wants}
use Rattle.std.proofs.Common.{Bool, IsTrue, List, None, Option, Some, [], add-one, ap, arith, cond}
use Rattle.std.proofs.Common.{eq-eqb, false, find, int_le, length, nat_le, nat_lt, negsuc, not}
use Rattle.std.proofs.Common.{option_map, pos, refl, slice_get, suc, sym, take, take_all, true}
use Rattle.std.proofs.Common.{zero, ℕ, ℤ, ◌%◌, ◌&&◌, ◌*◌, ◌+ℤ◌, ◌+◌, ◌-◌, ◌/◌, ◌<ℤ◌, ◌<◌, ◌==◌}
use Rattle.std.proofs.Common.{◌||◌, ◌∙◌, ◌∷◌, ◌≡◌, ◌≤ℤ◌, ◌≤◌}
use Rattle.nit_repaint.proofs.ViewChangeLemmas.{marked_same, other_slot, owned_by}

-- a place of the screen stands for a number of any sign
module _ (n c : ℕ) (z : ℤ) (h : nat_le n c ≡ int_le z (pos c)) where
  at_or_behind : n ≤ c → z ≤ℤ pos c
  at_or_behind l = let t : nat_le n c ≡ true = grind (arith, nat_tests) in omega (arith, ints, sym h ∙ t)

  in_front : c < n → pos c <ℤ z
  in_front l = let t : nat_le n c ≡ false = grind (arith, nat_tests) in omega (arith, ints, sym h ∙ t)

  behind : z ≤ℤ pos c → n ≤ c
  behind l = let t : nat_le n c ≡ true = h ∙ le_tested z (pos c) l in grind (arith, nat_tests)

  before_it : pos c <ℤ z → c < n
  before_it l = let t : int_le z (pos c) ≡ false = grind (arith, ints) in grind (arith, nat_tests, h ∙ t)

pub run_same : (from corner offset first end : ℤ) (long left right c : ℕ) → first ≡ ((from +ℤ corner) +ℤ offset)
    → end ≡ (first +ℤ pos long)
    → nat_le left c ≡ int_le first (pos c) → nat_le right c ≡ int_le end (pos c) → left < right
    → spans (pos left) (right - left) (pos c) ≡ spans from long (buffer_place (pos c) corner offset)
run_same from corner offset first end long left right c f e l r some = same_tests _ _
    (λ is.
    let s : IsSpanned (pos left) (right - left) (pos c) = spans_tells (pos left) (right - left) (pos c) is in
    let a : first ≤ℤ pos c = at_or_behind left c first l (omega (arith, ints)) in
    let b : pos c <ℤ end = in_front right c end r (omega (arith, ints)) in
    spans_holds from long (buffer_place (pos c) corner offset) record {
      low = omega (arith, ints);
      high = omega (arith, ints);
    })
    (λ is.
    let s : IsSpanned from long (buffer_place (pos c) corner offset) =
    spans_tells from long (buffer_place (pos c) corner offset) is in
    let a : left ≤ c = behind left c first l (omega (arith, ints)) in
    let b : c < right = before_it right c end r (omega (arith, ints)) in
    spans_holds (pos left) (right - left) (pos c) record { low = omega (arith, ints); high = omega (arith, ints) })

-- nothing lies in a rectangle without pixels
pub nothing_spanned : (x : ℤ) → spans (pos 0) 0 x ≡ false
nothing_spanned x = false_from_ne_true _ (λ is.
    let s : IsSpanned (pos 0) 0 x = spans_tells (pos 0) 0 x is in
    omega (arith, ints))

pub run_none : (from corner offset first end : ℤ) (long left right c : ℕ) → first ≡ ((from +ℤ corner) +ℤ offset)
    → end ≡ (first +ℤ pos long)
    → nat_le left c ≡ int_le first (pos c) → nat_le right c ≡ int_le end (pos c) → right ≤ left
    → spans (pos 0) 0 (pos c) ≡ spans from long (buffer_place (pos c) corner offset)
run_none from corner offset first end long left right c f e l r none =
    nothing_spanned (pos c) ∙ sym (false_from_ne_true _ (λ is.
    let s : IsSpanned from long (buffer_place (pos c) corner offset) =
    spans_tells from long (buffer_place (pos c) corner offset) is in
    let a : left ≤ c = behind left c first l (omega (arith, ints)) in
    let b : c < right = before_it right c end r (omega (arith, ints)) in
    omega (arith, a, b, none)))

-- ---- a place of a buffer

spans_all : (w m : ℕ) → spans (pos 0) w (pos m) ≡ nat_lt m w
spans_all w m = same_tests _ _
    (λ is.
    let s : IsSpanned (pos 0) w (pos m) = spans_tells (pos 0) w (pos m) is in
    let l : m < w = omega (arith, ints) in
    grind (arith, nat_tests))
    (λ is. let l : m < w = grind (arith, nat_tests) in spans_holds (pos 0) w (pos m) record {
      low = omega (arith, ints);
      high = omega (arith, ints);
    })

-- a part covers a place of the buffer where it covers the place of its word
pub index_in : (part : Rectangle) (w h : ℕ) (x y : ℤ)
    → (covers part (record { x = x; y = y }) && covers (rectangle (pos 0) (pos 0) w h) (record { x = x; y = y }))
    ≡ is_index_in part w (index_at w (among x w) (among y h))
index_in part w h (negsuc m) y = grind arith
index_in part w h (pos m) (negsuc n) = grind (arith, spans_all w m)
index_in part w h (pos m) (pos n) =
    (λ i. covers part (point m n) && (spans_all w m i && spans_all h n i)) ∙ within_or_not (nat_lt m w)
    (nat_lt n h) refl
  where
    within_or_not : (a b : Bool) → nat_lt m w ≡ a → (covers part (point m n) && (a && b))
        ≡ is_index_in part w (index_at w (cond a (Some m) None) (cond b (Some n) None))
    within_or_not false b e = grind arith
    within_or_not true false e = grind arith
    within_or_not true true e =
        let l : m < w = grind (arith, nat_tests) in
        rw (column_of w n m l, row_of w n m l) (grind arith)

-- the pixels of the screen at which a view shows a part
pub part_same : (part whole both rect : Rectangle) (view : View) (w h width height left wide top tall : ℕ) (p : Point)
    → CoversBoth part whole both → whole ≡ rectangle (pos 0) (pos 0) w h
    → rect ≡ rectangle (pos left) (pos top) wide tall
    → ((c : ℕ) → c < width → spans (pos left) wide (pos c)
    ≡ spans both.x both.w (buffer_place (pos c) view.rect.x view.ox))
    → ((c : ℕ) → c < height → spans (pos top) tall (pos c)
    ≡ spans both.y both.h (buffer_place (pos c) view.rect.y view.oy))
    → IsOnScreen width height p → covers rect p ≡ is_index_in part w (shown_index (record { w = w; h = h }) view p)
part_same part whole both rect view w h width height left wide top tall p meets whole_ rect_ across down on =
    by_signs p.x p.y on
  where
    by_signs : (x y : ℤ) → IsOnScreen width height (record { x = x; y = y }) → covers rect (record { x = x; y = y })
        ≡ is_index_in part w (shown_index (record { w = w; h = h }) view (record { x = x; y = y }))
    by_signs (negsuc a) y on = let low = on.0 in absurd (omega (arith, ints))
    by_signs (pos a) (negsuc b) on = let low = on.2 in absurd (omega (arith, ints))
    by_signs (pos a) (pos b) on =
        let right = on.1 in
        let bottom = on.3 in
        let bx = buffer_place (pos a) view.rect.x view.ox in
        let by = buffer_place (pos b) view.rect.y view.oy in
        ap (λ (r : Rectangle). covers r (point a b)) rect_
        ∙ (λ i. across a (omega (arith, ints)) i && down b (omega (arith, ints)) i)
        ∙ meets (record { x = bx; y = by })
        ∙ ap (λ (r : Rectangle). covers part (record { x = bx; y = by }) && covers r (record { x = bx; y = by })) whole_
        ∙ index_in part w h bx by

-- a run by equal numbers
pub run_told : (from from' corner corner' offset offset' : ℤ) (long long' n at count : ℕ) → from ≡ from' → long ≡ long'
    → corner ≡ corner' → offset ≡ offset'
    → ((c : ℕ) → c < n → spans (pos at) count (pos c) ≡ spans from long (buffer_place (pos c) corner offset)) → (c : ℕ)
    → c < n → spans (pos at) count (pos c) ≡ spans from' long' (buffer_place (pos c) corner' offset')
run_told from from' corner corner' offset offset' long long' n at count e f g h same c l =
    rw (← e, ← f, ← g, ← h) (same c l)

-- ==== Pixels of the screen by their numbers.

pub on_screen : (width height k : ℕ) → k < width * height → IsOnScreen width height (pixel width k)
on_screen width height k l =
    let row : k / width < height = grind (arith, rows) in
    let column : k % width < width = grind (arith, rows) in
    (omega (arith, ints), omega (arith, ints, column), omega (arith, ints), omega (arith, ints, row))

-- ==== Pieces that come one after the other.

-- a pixel by the numbers of times that it is to come: before all, now, and after one more piece
pub all_count : (b now next : ℕ) (c : Bool) → now ≤ b → now ≡ next + cond c 1 0 → (c ≡ true → now ≡ 1)
    → (nat_lt now b || c) ≡ nat_lt next b
all_count b now next c less count came = grind (arith, nat_tests, came, count)

module _ {source : ℕ → PixelSource} (s : StackModel) {n : ℕ} where
  pub none_came : (c : CutterModel) {glasses : ℕ → Sight} {raw : List ℕ}
      → Repainted source (has_come c c s) n glasses glasses raw raw
  none_came c = repainted_none _ _ _ _ _ (λ k l. grind (arith, nat_tests))

  -- one more piece
  pub one_came : (before now next : CutterModel) (r : Rectangle) {a b c : ℕ → Sight} {raw mid last : List ℕ}
      → ((p : Point) → to_come before s p ≤ 1) → ((p : Point) → to_come now s p ≤ to_come before s p)
      → ((p : Point) → to_come now s p ≡ to_come next s p + times r p)
      → ((p : Point) → IsTrue (covers r p) → to_come now s p ≡ 1)
      → Repainted source (has_come before now s) n a b raw mid → Repainted source (has_pixel s.width r) n b c mid last
      → Repainted source (has_come before next s) n a c raw last
  one_came before now next r once less count came first second =
      repainted_union _ (has_come before now s) (has_pixel s.width r) (has_come before next s) _ _ _ _ _ _ _
      (λ k. grind (arith, nat_tests, once (pixel s.width k), came (pixel s.width k)))
      (λ k. all_count _ _ _ _ (less (pixel s.width k)) (count (pixel s.width k)) (came (pixel s.width k)))
      first second

  -- all of them
  pub all_came : (before now : CutterModel) {a b : ℕ → Sight} {raw last : List ℕ} → ((p : Point) → to_come now s p ≡ 0)
      → Repainted source (has_come before now s) n a b raw last → Repainted source (is_to_come before s) n a b raw last
  all_came before now none painted = marked_same painted (λ k l. rw (none (pixel s.width k)))

-- ==== What is wanted of views, one after the other.

-- ---- pixels by their numbers

-- what comes by a set of pixels is that set
pub comes_as : {source : ℕ → PixelSource} (s : StackModel) (c : CutterModel) (set : Point → Bool) {n : ℕ}
    {a b : ℕ → Sight} {raw raw' : List ℕ} → n ≡ s.width * s.height
    → ((p : Point) → IsOnScreen s.width s.height p → to_come c s p ≡ once (set p))
    → Repainted source (is_to_come c s) n a b raw raw' → Repainted source (λ k. set (pixel s.width k)) n a b raw raw'
comes_as s c set count come painted =
    marked_same painted (λ k l.
    grind (arith, nat_tests, come (pixel s.width k) (on_screen s.width s.height k (rw count at l))))

-- ---- one view more

abbrev or_else : {A : Type 0} → Option A → Option A → Option A
or_else (Some a) o = Some a
or_else None o = o

find_more : {A : Type 0} (q : A → Bool) (xs : List A) (i : ℕ) (x : A) → slice_get xs i ≡ Some x
    → find q (take (suc i) xs) ≡ or_else (find q (take i xs)) (cond (q x) (Some x) None)
find_more q [] i x at = cc
find_more q (y ∷ ys) zero x at = grind arith
find_more q (y ∷ ys) (suc i) x at = grind (arith, find_more q ys i x at)

any_found : {A : Type 0} (q : A → Bool) (xs : List A) → list_any q xs ≡ option_map_or (λ x. true) (find q xs) false
any_found q [] = refl
any_found q (x ∷ xs) = grind (arith, any_found q xs)

-- the view of a place is found in its slot
pub seat_here : (views : List SlotView) (i : ℕ) (x : SlotView) → NoPair same_slot views → slice_get views i ≡ Some x
    → slot_view_in x.slot views ≡ Some x
seat_here [] i x apart at = cc
seat_here (y ∷ views) zero x apart at = grind (arith, nat_tests)
seat_here (y ∷ views) (suc i) x apart at =
    grind (arith, other_slot views i x y apart.0 at, seat_here views i x apart.1 at)

-- the owner among one view more, and that the one of fewer is another
pub record OneMore (test : SlotView → Bool) (s : StackModel) (p : Point) (i : ℕ) (x : SlotView) : Type 0 where
  pub all : (option_map_or test (owner_in (λ a. a.view) s.bar (take i s.views) p)
      false || (owner_passes (is_slot x.slot) s p && test x))
      ≡ option_map_or test (owner_in (λ a. a.view) s.bar (take (i + 1) s.views) p) false
  pub apart : (option_map_or test (owner_in (λ a. a.view) s.bar (take i s.views) p)
      false && (owner_passes (is_slot x.slot) s p && test x)) ≡ false

pub one_more : (test : SlotView → Bool) (s : StackModel) (p : Point) (i : ℕ) (x : SlotView) → NoPair same_slot s.views
    → slice_get s.views i ≡ Some x → OneMore test s p i x
one_more test s p i x apart at =
    record { all = grind (arith, own, more, in_front); apart = grind (arith, own, in_front) }
  where
    own : option_map_or (is_slot x.slot) (find (slot_view_covers p) s.views) false
        ≡ (slot_view_covers p x && not (covered (take i s.views) p))
    own = rw (owned_is x.slot p s.views x apart (seat_here s.views i x apart at), place_is s.views i x apart at)

    more : find (slot_view_covers p) (take (i + 1) s.views) ≡ or_else (find (slot_view_covers p) (take i s.views))
        (cond (slot_view_covers p x) (Some x) None)
    more = rw (add-one i) (find_more (slot_view_covers p) s.views i x at)

    in_front : covered (take i s.views) p ≡ option_map_or (λ y. true) (find (slot_view_covers p) (take i s.views)) false
    in_front = any_found (slot_view_covers p) (take i s.views)

-- ---- one view

-- what is wanted of a view of the session, and of another one
pub wanted_here : (s : StackModel) (view : View) (sid : ℕ) (part : Option Rectangle) (p : Point) → view.sid ≡ sid
    → wants part (size_of s.sizes view.sid) view p ≡ ((view.sid == sid) && wants part (size_of s.sizes sid) view p)
wanted_here s view sid part p own = rw (own, eq-eqb sid sid refl)

-- the session of a view that stands at a place
pub seat_session : (o : Option SlotView) (x : SlotView) (sid : ℕ) → o ≡ Some x
    → option_map (λ (a : SlotView). a.view.sid) o ≡ Some sid → x.view.sid ≡ sid
seat_session None x sid e f = cc
seat_session (Some y) x sid e f = cc

where_owned : (owned over shown wanted : Bool) → (owned ≡ true → shown ≡ true) → (shown ≡ true → over ≡ wanted)
    → (over && owned) ≡ (owned && wanted)
where_owned owned over shown wanted h k = grind (arith, h, k)

pub seat_set : (s : StackModel) (rect : Rectangle) (v : ViewRef) (view : View) (x : SlotView) (sid : ℕ)
    (part : Option Rectangle) (p : Point) → NoPair same_slot s.views
    → slot_view_in v.0 s.views ≡ Some (record { slot = v.0; view = view })
    → record { slot = v.0; view = view } ≡ x
    → (covers view.rect p ≡ true → covers rect p ≡ ((view.sid == sid) && wants part (size_of s.sizes sid) view p))
    → is_owned v s rect p ≡ (owner_passes (is_slot x.slot) s p && is_wanted sid part s p x)
seat_set s rect v view x sid part p apart there same shows =
    rw (← same) (where_owned _ (covers rect p) (covers view.rect p) _
    (λ owns. grind (arith, owned_by s v.0 (record { slot = v.0; view = view }) p apart there, owns)) shows)

-- ---- the first so many views

module _ {source : ℕ → PixelSource} (s : StackModel) {n : ℕ} (sid : ℕ) (part : Option Rectangle) where
  pub one_wanted : (i : ℕ) (x : SlotView) {a b c : ℕ → Sight} {raw mid last : List ℕ} → NoPair same_slot s.views
      → slice_get s.views i ≡ Some x
      → Repainted source (λ k. wanted_of_first i sid part s (pixel s.width k)) n a b raw mid
      → Repainted source (λ k. let p = pixel s.width k in owner_passes (is_slot x.slot) s p && is_wanted sid part s p x)
      n b c mid last
      → Repainted source (λ k. wanted_of_first (i + 1) sid part s (pixel s.width k)) n a c raw last
  one_wanted i x apart at first second =
      repainted_union _ _ _ (λ k. wanted_of_first (i + 1) sid part s (pixel s.width k)) _ _ _ _ _ _ _
      (λ k. (one_more (is_wanted sid part s (pixel s.width k)) s (pixel s.width k) i x apart at).apart)
      (λ k. (one_more (is_wanted sid part s (pixel s.width k)) s (pixel s.width k) i x apart at).all)
      first second

  pub all_wanted : (i : ℕ) {a b : ℕ → Sight} {raw last : List ℕ} → length s.views ≤ i
      → Repainted source (λ k. wanted_of_first i sid part s (pixel s.width k)) n a b raw last
      → Repainted source (λ k. wanted sid part s (pixel s.width k)) n a b raw last
  all_wanted i all painted =
      marked_same painted (λ k l. ap (λ (xs : List SlotView). option_map_or (is_wanted sid part s (pixel s.width k))
      (owner_in (λ a. a.view) s.bar xs (pixel s.width k)) false) (take_all i s.views all))

-- the view at a place
pub seat_there : (views : List SlotView) (i : ℕ) → i < length views → (x : SlotView) × (slice_get views i ≡ Some x)
seat_there [] i l = absurd (omega arith)
seat_there (x ∷ views) zero l = (x, refl)
seat_there (x ∷ views) (suc i) l = seat_there views i (omega arith)

-- ---- what is wanted, in other words

pub all_of_session : (sid : ℕ) (s : StackModel) (p : Point) → wanted sid None s p ≡ owner_passes (is_of_session sid) s p
all_of_session sid s p = grind arith

pub part_of_session : (sid : ℕ) (part : Rectangle) (s : StackModel) (p : Point)
    → wanted sid (Some part) s p ≡ is_word_in sid (size_of s.sizes sid).w part (source_in s p)
part_of_session sid part s p =
    owned_or_bare (owner_in (λ a. a.view) s.bar s.views p)
    ∙ ap (λ (o : Option View). is_word_in sid (size_of s.sizes sid).w part (source_under (size_of s.sizes) p o))
    (sym (owner_of_views s.bar s.views p))
  where
    shows : (o : Option ℕ) (t : ℕ) → ((t == sid) && is_index_in part (size_of s.sizes sid).w o)
        ≡ is_word_in sid (size_of s.sizes sid).w part (black_or_word t o)
    shows None t = grind arith
    shows (Some i) t = grind arith

    owned_or_bare : (o : Option SlotView) → option_map_or (is_wanted sid (Some part) s p) o false
        ≡ is_word_in sid (size_of s.sizes sid).w part
        (source_under (size_of s.sizes) p (option_map (λ (a : SlotView). a.view) o))
    owned_or_bare None = refl
    owned_or_bare (Some x) =
        grind (arith, nat_tests, shows (shown_index (size_of s.sizes x.view.sid) x.view p) x.view.sid)

-- ==== Words of a frame that are set, one set of pixels after the other.

-- ---- pieces

-- one more piece
pub one_shown : (s : StackModel) (n : ℕ) (before now next : CutterModel) (r : Rectangle) (word word' : ℕ
    → ℕ) (frame shown new : List ℕ)
    → ((p : Point) → to_come now s p ≤ to_come before s p)
    → ((p : Point) → to_come now s p ≡ to_come next s p + times r p)
    → ((p : Point) → IsTrue (covers r p) → to_come now s p ≡ 1)
    → ((k : ℕ) → covers r (pixel s.width k) ≡ false → word' k ≡ word k)
    → AreSet (has_come before now s) n word frame shown → AreSet (λ k. covers r (pixel s.width k)) n word' shown new
    → AreSet (has_come before next s) n word' frame new
one_shown s n before now next r word word' frame shown new less count came still far piece =
    set_then (has_come before now s) (λ k. covers r (pixel s.width k)) (has_come before next s) n word word' frame shown
    new
    (λ k. all_count _ _ _ _ (less (pixel s.width k)) (count (pixel s.width k)) (came (pixel s.width k))) still far piece

-- what comes by a set of pixels is that set
pub shown_as : (s : StackModel) (c : CutterModel) (set : Point → Bool) {n : ℕ} {word : ℕ → ℕ} {old new : List ℕ}
    → n ≡ s.width * s.height
    → ((p : Point) → IsOnScreen s.width s.height p → to_come c s p ≡ once (set p))
    → AreSet (is_to_come c s) n word old new → AreSet (λ k. set (pixel s.width k)) n word old new
shown_as s c set count come is =
    set_same _ _ _ _ _ _
    (λ k l. grind (arith, nat_tests, come (pixel s.width k) (on_screen s.width s.height k (rw count at l)))) is

-- where all pixels are set, that is the frame
pub whole_shown : (look : LetteredLook) (raw : List ℕ) {old new : List ℕ}
    → length raw ≡ look.look.stack.now.width * look.look.stack.now.height → length old ≡ length raw
    → AreSet (λ k. true) (length raw) (shown_at look raw) old new → new ≡ frame (scenery look) raw
whole_shown look raw {new = new} count same is =
    same_number_lists new (frame (scenery look) raw) (is.count ∙ same ∙ count ∙ sym (length-frame (scenery look) raw))
    (λ k lt.
    let here = rw (is.count, same) at lt in
    is.words k here ∙ sym (get_or-frame (scenery look) raw k (rw count at here)))

-- ---- one view after the other

module _ (s : StackModel) {n : ℕ} (sid : ℕ) (part : Option Rectangle) where
  pub next_shown : (i : ℕ) (x : SlotView) (word word' : ℕ → ℕ) (frame mid new : List ℕ) → NoPair same_slot s.views
      → slice_get s.views i ≡ Some x
      → ((k : ℕ) → (let p = pixel s.width k in owner_passes (is_slot x.slot) s p && is_wanted sid part s p x) ≡ false
      → word' k ≡ word k)
      → AreSet (λ k. wanted_of_first i sid part s (pixel s.width k)) n word frame mid
      → AreSet (λ k. let p = pixel s.width k in owner_passes (is_slot x.slot) s p && is_wanted sid part s p x) n word'
      mid new
      → AreSet (λ k. wanted_of_first (i + 1) sid part s (pixel s.width k)) n word' frame new
  next_shown i x word word' frame mid new apart at still first second =
      set_then _ _ (λ k. wanted_of_first (i + 1) sid part s (pixel s.width k)) _ word word' frame mid new
      (λ k. (one_more (is_wanted sid part s (pixel s.width k)) s (pixel s.width k) i x apart at).all) still first
      second

  pub last_shown : (i : ℕ) {word : ℕ → ℕ} {frame new : List ℕ} → length s.views ≤ i
      → AreSet (λ k. wanted_of_first i sid part s (pixel s.width k)) n word frame new
      → AreSet (λ k. wanted sid part s (pixel s.width k)) n word frame new
  last_shown i all is =
      set_same _ _ _ _ _ _
      (λ k l. ap (λ (xs : List SlotView). option_map_or (is_wanted sid part s (pixel s.width k))
      (owner_in (λ a. a.view) s.bar xs (pixel s.width k)) false) (take_all i s.views all)) is
