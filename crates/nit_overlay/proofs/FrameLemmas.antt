-- Frames, word by word: who owns a pixel, what is shown of it, frames that are kept, and the server's marks.
use Rattle.nit_overlay.proofs.Basics.{Area, Flat, IsBright, IsMark, IsOfNamed, IsReddish, IsRenewed}
use Rattle.nit_overlay.proofs.Basics.{IsShownIn, IsWord, Kill, LetteredLook, Lettering, Mode, NoPair}
use Rattle.nit_overlay.proofs.Basics.{Point, Rectangle}
use Rattle.nit_overlay.proofs.Basics.{Scenery, SlotView, View, ViewRef, Xray, bar_word, bare_word}
use Rattle.nit_overlay.proofs.Basics.{by_label, by_mode, column_and_row, covers, ext_get_or}
use Rattle.nit_overlay.proofs.Basics.{get_or-map-range_with_len, get_or_default, grey_word, has_dot}
use Rattle.nit_overlay.proofs.Basics.{in_area, in_bar, in_label, ink_of, ints, is_dot_of_text}
use Rattle.nit_overlay.proofs.Basics.{is_in_picture, is_in_text, is_on_ring, is_same, is_some}
use Rattle.nit_overlay.proofs.Basics.{label_place_of, le-ltb, length-map-range_with_len, nat_tests}
use Rattle.nit_overlay.proofs.Basics.{option_map, owner, owner_is, owner_of_views, owner_word}
use Rattle.nit_overlay.proofs.Basics.{pixel, point, same_number_lists, same_slot, scenery}
use Rattle.nit_overlay.proofs.Basics.{seat_owner, shown, slice_get, slice_get_within, slot_view_in}
use Rattle.nit_overlay.proofs.Basics.{true_from_ne_false, unowned_word, view_ref, view_text}
use Rattle.nit_overlay.proofs.Basics.{view_word, views_of, white_word}
use Rattle.nit_overlay.specs.Frame.{frame}
use Rattle.std.proofs.Common.{Bool, List, None, Option, Some, [], ap, arith, cond, false, find}
use Rattle.std.proofs.Common.{get_or, inl, inr, length, refl, slice_index, subst, suc, sym, true}
use Rattle.std.proofs.Common.{zero, ℕ, ◌%◌, ◌&&◌, ◌*◌, ◌/◌, ◌<◌, ◌∙◌, ◌∷◌, ◌≡◌, ◌≤◌, ◌⊎◌}

pub length-frame : (s : Scenery) (raw : List ℕ) → length (frame s raw) ≡ s.width * s.height
unfolding frame
length-frame s raw = length-map-range_with_len (λ k. shown s (pixel s.width k) (slice_index raw k)) 0
    (s.width * s.height)

pub get_or-frame : (s : Scenery) (raw : List ℕ) (k : ℕ) → k < s.width * s.height
    → get_or (frame s raw) k 0 ≡ shown s (pixel s.width k) (slice_index raw k)
unfolding frame
get_or-frame s raw k less = get_or-map-range_with_len (λ k. shown s (pixel s.width k) (slice_index raw k)) 0
    (s.width * s.height) k k 0 less (omega arith)

-- equal words make equal frames
pub same_frame : (s : Scenery) (a b : List ℕ) → ((k : ℕ) → k < s.width * s.height → slice_index a k ≡ slice_index b k)
    → frame s a ≡ frame s b
same_frame s a b same =
    same_number_lists (frame s a) (frame s b) (length-frame s a ∙ sym (length-frame s b))
    (λ k lt.
    let within : k < s.width * s.height = omega (arith, length-frame s a) in
    get_or-frame s a k within ∙ ap (λ (w : ℕ). shown s (pixel s.width k) w) (same k within)
    ∙ sym (get_or-frame s b k within))

-- ---- a pixel below the bar

pub shown_below : (s : Scenery) (p : Point) (w : ℕ) → in_bar s.bar p ≡ false
    → shown s p w ≡ owner_word s p w (owner s.bar s.stack p)
shown_below s p w below = rw below

pub shown_of_owner : (s : Scenery) (p : Point) (w : ℕ) (v : View) → owner s.bar s.stack p ≡ Some v
    → shown s p w ≡ view_word s.mode s v p w
shown_of_owner s p w v owns = grind arith

-- ---- each word that is shown is below 2^24

mode_fits : (mode : Mode) (is_ring is_focused : Bool) (w : ℕ) → IsWord w → IsWord (by_mode mode is_ring is_focused w)
mode_fits mode is_ring is_focused w fits = grind arith

label_fits : (l : Lettering) (text : List ℕ) (place : Option (ℕ × ℕ)) (p : Point) (w : ℕ) → IsWord w
    → IsWord (by_label l text place p w)
label_fits l text place p w fits = grind arith

view_fits : (mode : Mode) (s : Scenery) (v : View) (p : Point) (w : ℕ) → IsWord w → IsWord (view_word mode s v p w)
view_fits Flat s v p w fits = fits
view_fits Xray s v p w fits = label_fits s.lettering _ _ p _ (mode_fits Xray _ _ w fits)
view_fits Kill s v p w fits = label_fits s.lettering _ _ p _ (mode_fits Kill _ _ w fits)

owner_fits : (s : Scenery) (p : Point) (w : ℕ) (o : Option View) → IsWord w → IsWord (owner_word s p w o)
owner_fits s p w None fits = omega arith
owner_fits s p w (Some v) fits = view_fits s.mode s v p w fits

pub shown_fits : (s : Scenery) (p : Point) (w : ℕ) → IsWord w → IsWord (shown s p w)
shown_fits s p w fits = grind (arith, owner_fits s p w (owner s.bar s.stack p) fits)

-- ---- an area that is shown

-- where the area has the pixels of a rectangle
pub rect_shown : (a : Area) (l : LetteredLook) (r : Rectangle) {raw old now : List ℕ} → IsShownIn a l raw old now
    → ((x y : ℕ) → x < l.look.stack.now.width → y < l.look.stack.now.height → in_area a x y ≡ covers r (point x y))
    → (k : ℕ) → k < l.look.stack.now.width * l.look.stack.now.height
    → get_or now k 0 ≡ cond (covers r (pixel l.look.stack.now.width k))
    (shown (scenery l) (pixel l.look.stack.now.width k) (get_or raw k 0)) (get_or old k 0)
rect_shown a l r all same k lt =
    let on = column_and_row l.look.stack.now.width l.look.stack.now.height k lt in
    rw (← same (k % l.look.stack.now.width) (k / l.look.stack.now.width) on.0 on.1) (all.words k lt)

pub is_whole : (width height wide high x y : ℕ) → wide ≡ width → high ≡ height → x < width → y < height
    → in_area (record { left = 0; top = 0; right = wide; bottom = high }) x y ≡ true
is_whole width height wide high x y w h lt less = grind (arith, nat_tests)

-- where the area is the whole screen
pub is_frame : (a : Area) (l : LetteredLook) {raw old now : List ℕ} → IsShownIn a l raw old now
    → ((x y : ℕ) → x < l.look.stack.now.width → y < l.look.stack.now.height → in_area a x y ≡ true)
    → length now ≡ l.look.stack.now.width * l.look.stack.now.height → now ≡ frame (scenery l) raw
is_frame a l {raw} {old} {now} all same long =
    same_number_lists now (frame (scenery l) raw) (long ∙ sym (length-frame (scenery l) raw))
    (λ k lt.
    let within : k < l.look.stack.now.width * l.look.stack.now.height = omega arith in
    let on = column_and_row l.look.stack.now.width l.look.stack.now.height k within in
    (rw (same (k % l.look.stack.now.width) (k / l.look.stack.now.width) on.0 on.1) at (all.words k within))
    ∙ sym (get_or-frame (scenery l) raw k within))

pub frame_fits : (s : Scenery) (raw : List ℕ) → length raw ≡ s.width * s.height
    → ((k d : ℕ) → k < length raw → IsWord (get_or raw k d))
    → (k d : ℕ) → k < length (frame s raw) → IsWord (get_or (frame s raw) k d)
frame_fits s raw long fits k d lt =
    let within : k < s.width * s.height = omega (arith, length-frame s raw) in
    let here : IsWord (shown s (pixel s.width k) (get_or raw k 0)) =
    shown_fits s (pixel s.width k) (get_or raw k 0) (fits k 0 (omega arith)) in
    let is : get_or (frame s raw) k d ≡ shown s (pixel s.width k) (get_or raw k 0) =
    get_or_default (frame s raw) k d 0 lt ∙ get_or-frame s raw k within in
    rw is here

-- ---- frames that are kept

pub renewed : (before now : Scenery) (chosen : ℕ → Bool) (raw raw' old new : List ℕ)
    → IsRenewed before now chosen raw raw' old new → old ≡ frame before raw → new ≡ frame now raw'
renewed before now chosen raw raw' old new r was =
    ext_get_or 0 new (frame now raw') (r.count ∙ sym (length-frame now raw')) (λ k l. let n =
    r.count in at k (omega (arith, n)) (chosen k) refl)
  where
    many : now.width * now.height ≡ before.width * before.height
    many = λ i. r.size.0 i * r.size.1 i

    at : (k : ℕ) → k < now.width * now.height → (b : Bool) → chosen k ≡ b
        → slice_index new k ≡ slice_index (frame now raw') k
    at k l true e = r.set k l e ∙ sym (get_or-frame now raw' k l)
    at k l false e =
        rw (r.left k l e, was, get_or-frame before raw k (rw many at l), get_or-frame now raw' k l)
        (ap (λ (w : ℕ). shown before (pixel w k) (slice_index raw k)) (sym r.size.0) ∙ sym (r.same k l e))

-- in mode Flat, below the bar
pub flat_shown : (s : Scenery) (p : Point) (w : ℕ) → s.mode ≡ Flat → in_bar s.bar p ≡ false
    → shown s p w ≡ cond (is_some (owner s.bar s.stack p)) w bare_word
flat_shown s p w flat below = grind (arith, shown_below s p w below)

pub flat_same : (before now : Scenery) (p : Point) (w : ℕ) → before.mode ≡ Flat → now.mode ≡ Flat → before.bar ≡ now.bar
    → in_bar now.bar p ≡ false
    → is_some (owner now.bar now.stack p) ≡ is_some (owner before.bar before.stack p) → shown now p w ≡ shown before p w
flat_same before now p w flat flat' bar below same =
    rw (flat_shown now p w flat' below, flat_shown before p w flat (rw bar below), same)

-- ---- a pixel whose owner is known

-- a pixel that no view owns
pub shown_unowned : (s : Scenery) (p : Point) (w : ℕ) → owner s.bar s.stack p ≡ None → shown s p w ≡ unowned_word s p
shown_unowned s p w owned = ap (λ o. cond (in_bar s.bar p) (bar_word s p) (owner_word s p w o)) owned

-- the view in a slot that owns a pixel
pub owner_in_slot : (bar : ℕ) (views : List SlotView) (p : Point) (v : ViewRef) (view : View) → NoPair same_slot views
    → slot_view_in v.0 views ≡ Some (record { slot = v.0; view = view })
    → Some v ≡ option_map view_ref (seat_owner bar views p) → owner bar (views_of views) p ≡ Some view
owner_in_slot bar views p v view apart at owned =
    owner_of_views bar views p ∙ ap (option_map (λ s. s.view)) (owner_is bar views p v view apart owned at)

-- where no slot is named, there is none
pub no_owner : (bar : ℕ) (views : List SlotView) (p : Point) → None ≡ option_map view_ref (seat_owner bar views p)
    → owner bar (views_of views) p ≡ None
no_owner bar views p owned = owner_of_views bar views p ∙ none (seat_owner bar views p) owned
  where
    none : (o : Option SlotView) → None ≡ option_map view_ref o → option_map (λ s. s.view) o ≡ None
    none None e = refl
    none (Some s) e = cc

-- ---- the owner of each pixel of a run

find_none : (p : View → Bool) (seats : List SlotView)
    → ((k : ℕ) (s : SlotView) → slice_get seats k ≡ Some s → p s.view ≡ false) → find p (views_of seats) ≡ None
find_none p [] fails = refl
find_none p (s ∷ seats) fails = rw (fails 0 s refl) (find_none p seats (λ k t is. fails (suc k) t is))

find_first : (p : View → Bool) (seats : List SlotView) (n : ℕ) (s : SlotView) → slice_get seats n ≡ Some s
    → ((k : ℕ) (t : SlotView) → k < n → slice_get seats k ≡ Some t → p t.view ≡ false) → p s.view ≡ true
    → find p (views_of seats) ≡ Some s.view
find_first p [] n s is fails here = cc
find_first p (t ∷ seats) zero s is fails here = grind arith
find_first p (t ∷ seats) (suc n) s is fails here =
    rw (fails 0 t (omega arith) refl) (find_first p seats n s is (λ k u less. fails (suc k) u (omega arith)) here)

-- no view before number n covers a pixel of the run
pub record RunSoFar (seats : List SlotView) (n x y to run_end : ℕ) : Type 0 where
  pub after : x < run_end
  pub within : run_end ≤ to
  pub uncovered : (k z : ℕ) (s : SlotView) → k < n → slice_get seats k ≡ Some s → x ≤ z → z < run_end
      → covers s.view.rect (point z y) ≡ false

-- a row below the bar is not in it
pub below_bar : {A : Type 0} (bar y z : ℕ) (o : A) (found : A) → bar ≤ y → cond (in_bar bar (point z y)) o found ≡ found
below_bar bar y z o found below = let e : in_bar bar (point z y) ≡ false = le-ltb y bar below in rw e refl

-- a row of the bar is in it, and no view owns any of it
pub in_bar_row : (bar y z : ℕ) → y < bar → in_bar bar (point z y) ≡ true
in_bar_row bar y z less = grind (arith, ints)

pub bar_run : (bar : ℕ) (views : List SlotView) (y z : ℕ) → y < bar → owner bar (views_of views) (point z y) ≡ None
bar_run bar views y z less = rw (in_bar_row bar y z less) refl

-- the view at number n covers all of the run
pub owned_run : {seats : List SlotView} (bar : ℕ) {n x y to run_end : ℕ} (last : ℕ) {s : SlotView}
    → RunSoFar seats n x y to run_end → slice_get seats n ≡ Some s → last ≤ run_end
    → ((z : ℕ) → x ≤ z → z < last → covers s.view.rect (point z y) ≡ true) → bar ≤ y
    → (z : ℕ) → x ≤ z → z < last → owner bar (views_of seats) (point z y) ≡ Some s.view
owned_run {seats} bar {n} {y = y} last {s} far is short covered below z from less =
    below_bar bar y z None (find (λ v. covers v.rect (point z y)) (views_of seats)) below
    ∙ find_first (λ v. covers v.rect (point z y)) seats n s is
    (λ k t before at. far.uncovered k z t before at from (omega arith)) (covered z from less)

-- no view covers any of it
pub bare_run : {seats : List SlotView} (bar : ℕ) {n x y to run_end : ℕ} → RunSoFar seats n x y to run_end
    → length seats ≤ n → bar ≤ y
    → (z : ℕ) → x ≤ z → z < run_end → owner bar (views_of seats) (point z y) ≡ None
bare_run {seats} bar {y = y} far all below z from less =
    below_bar bar y z None (find (λ v. covers v.rect (point z y)) (views_of seats)) below
    ∙ find_none (λ v. covers v.rect (point z y)) seats
    (λ k s is. far.uncovered k z s (omega (arith, slice_get_within seats k s is)) is from less)

-- ---- the server's marks in the modes Xray and Kill

-- ---- a view's pixel in mode Xray

-- the pixel is of the focused session, a dot of the label, or on the ring outside the label
abbrev IsOneOf : Lettering → List ℕ → Option (ℕ × ℕ) → Point → Bool → Bool → ℕ → Type 0
IsOneOf l text place p ring focused word =
    (focused ≡ true) ⊎ ((is_dot_of_text l text place p ≡ true) × (word ≡ white_word))
    ⊎ ((is_in_text l text place p ≡ false) × (ring ≡ true) × (word ≡ grey_word))

by_text : (inside dot ring focused : Bool) (w : ℕ) → IsWord w
    → IsBright (cond inside (ink_of dot) (by_mode Xray ring focused w))
    → (focused ≡ true) ⊎ (((inside && dot) ≡ true)
    × (cond inside (ink_of dot) (by_mode Xray ring focused w) ≡ white_word))
    ⊎ ((inside ≡ false) × (ring ≡ true) × (cond inside (ink_of dot) (by_mode Xray ring focused w) ≡ grey_word))
by_text true true ring focused w fits bright = inr (inl (refl, refl))
by_text true false ring focused w fits bright = absurd (grind arith)
by_text false dot ring true w fits bright = inl refl
by_text false dot true false w fits bright = inr (inr (refl, refl, refl))
by_text false dot false false w fits bright = absurd (grind arith)

view_bright : (l : Lettering) (text : List ℕ) (place : Option (ℕ × ℕ)) (p : Point) (ring focused : Bool) (w : ℕ)
    → IsWord w → IsBright (by_label l text place p (by_mode Xray ring focused w))
    → IsOneOf l text place p ring focused (by_label l text place p (by_mode Xray ring focused w))
view_bright l text None p ring focused w fits bright = by_text false false ring focused w fits bright
view_bright l text (Some q) p ring focused w fits bright =
    by_text (is_in_picture l text q.0 q.1 p) (has_dot l text q.0 q.1 p) ring focused w fits bright

focus_is : (focus : Option ℕ) (sid : ℕ) → is_same focus (Some sid) ≡ true → focus ≡ Some sid
focus_is focus sid e = grind (arith, nat_tests)

owned_bright : (s : Scenery) (p : Point) (w : ℕ) (v : View) → s.mode ≡ Xray → IsWord w → owner s.bar s.stack p ≡ Some v
    → IsBright (view_word Xray s v p w) → IsOfNamed s p ⊎ IsMark s p (view_word Xray s v p w)
owned_bright s p w v xray fits owns bright =
    elim (view_bright s.lettering (view_text s v) (label_place_of s v) p (is_on_ring v.rect p) (is_same s.focus (Some v.sid)) w fits
    bright) [
      | inl same ↦
          let focus : s.focus ≡ Some v.sid = focus_is s.focus v.sid same in
          inl (record { view = v; owns = owns; focused = focus; named = rw (xray, focus) })
      | inr is ↦ inr (record { view = v; owns = owns; is = is })
    ]

pub xray_bright : (s : Scenery) (p : Point) (w : ℕ) → s.mode ≡ Xray → IsWord w → IsBright (shown s p w)
    → (in_bar s.bar p ≡ true) ⊎ IsOfNamed s p ⊎ IsMark s p (shown s p w)
xray_bright s p w xray fits bright = by_owner (in_bar s.bar p) (owner s.bar s.stack p) refl refl bright
  where
    by_owner : (b : Bool) (o : Option View) → in_bar s.bar p ≡ b → owner s.bar s.stack p ≡ o
        → IsBright (cond b (bar_word s p) (owner_word s p w o))
        → (in_bar s.bar p ≡ true) ⊎ IsOfNamed s p ⊎ IsMark s p (cond b (bar_word s p) (owner_word s p w o))
    by_owner true o below owns bright = inl below
    by_owner false None below owns bright = absurd (grind arith)
    by_owner false (Some v) below owns bright =
        let is = ap (λ (m : Mode). view_word m s v p w) xray in
        inr (rw is (owned_bright s p w v xray fits owns (rw is at bright)))

-- ---- a label

unlabelled : (l : Lettering) (text : List ℕ) (place : Option (ℕ × ℕ)) (p : Point) (w : ℕ)
    → is_in_text l text place p ≡ false → by_label l text place p w ≡ w
unlabelled l text place p w e = grind arith

-- ---- a view's pixel in mode Kill

kill_reddish : (ring focused : Bool) (w : ℕ) → IsWord w → IsReddish (by_mode Kill ring focused w)
kill_reddish true focused w fits = omega arith
kill_reddish false focused w fits = omega arith

pub kill_tints : (s : Scenery) (p : Point) (w : ℕ) (v : View) → s.mode ≡ Kill → IsWord w
    → owner s.bar s.stack p ≡ Some v → in_label s v p ≡ false → IsReddish (shown s p w)
kill_tints s p w v kill fits owns out =
    let is : shown s p w ≡ by_mode Kill (is_on_ring v.rect p) (is_same s.focus (Some v.sid)) w =
    shown_of_owner s p w v owns ∙ ap (λ (m : Mode). view_word m s v p w) kill
    ∙ unlabelled s.lettering (view_text s v) (label_place_of s v) p _ out in
    rw is (kill_reddish (is_on_ring v.rect p) (is_same s.focus (Some v.sid)) w fits)

-- white or black
abbrev IsPlain : ℕ → Type 0
IsPlain w = (w ≡ white_word) ⊎ (w ≡ 0)

abbrev IsLabelled : Scenery → Point → Type 0
IsLabelled s p = (v : View) × (owner s.bar s.stack p ≡ Some v) × (in_label s v p ≡ true)

not_plain : (w : ℕ) → IsReddish w → IsPlain w → ⊥
not_plain w is plain = let g = is.little_green in let r = is.much_red in grind arith

bare_not_plain : IsPlain bare_word → ⊥
bare_not_plain plain = grind arith

pub plain_is_label : (s : Scenery) (p : Point) (w : ℕ) → s.mode ≡ Kill → IsWord w → in_bar s.bar p ≡ false
    → IsPlain (shown s p w) → IsLabelled s p
plain_is_label s p w kill fits below plain = by_owner (owner s.bar s.stack p) refl
  where
    by_owner : (o : Option View) → owner s.bar s.stack p ≡ o → IsLabelled s p
    by_owner None none =
        absurd (bare_not_plain (subst IsPlain (shown_below s p w below ∙ ap (owner_word s p w) none) plain))
    by_owner (Some v) owns = (
      v,
      owns,
      true_from_ne_false (in_label s v p)
          (λ out. not_plain (shown s p w) (kill_tints s p w v kill fits owns out) plain),
    )
