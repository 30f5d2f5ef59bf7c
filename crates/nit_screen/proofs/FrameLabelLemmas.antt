-- Values that are written one after the other, each at the slot of its view, and labels in a frame.
use Rattle.nit_screen.proofs.Basics.{AreLabelsApart, Configuration, Entry, Flat, HaveOwnNames}
use Rattle.nit_screen.proofs.Basics.{IsLabelShown, IsLegal, IsSlotView, IsStack, Mode, NoPair}
use Rattle.nit_screen.proofs.Basics.{Point, Scenery, ShowsLabels, SlotView, StackModel, View}
use Rattle.nit_screen.proofs.Basics.{ViewRef, any_found, apart, cases_lt, covering, covers, text_dot}
use Rattle.nit_screen.proofs.Basics.{IsLettering, Lettering}
use Rattle.nit_glyph.specs.Lettering.{picture_width, rows_of, step_of}
use Rattle.nit_screen.specs.Terms.{first_state}
use Rattle.nit_journal.proofs.ForCallers.{kept_config}
use Rattle.std.proofs.lemmas.Nat.{mul-le}
use Rattle.nit_screen.proofs.Basics.{draws_labels, false_from_ne_true, fits, fits_within}
use Rattle.nit_screen.proofs.Basics.{found_passes, frame, get_or-frame, get_or_from_slice_get}
use Rattle.nit_screen.proofs.Basics.{has_dot, in_bar, ink_of, is_in_picture, is_owner, is_view}
use Rattle.nit_screen.proofs.Basics.{label_place_of, label_width, list_any, list_any_at, name_both}
use Rattle.nit_screen.proofs.Basics.{nat_tests, owner, owner_word, picture_height, picture_width}
use Rattle.nit_screen.proofs.Basics.{pixel, pixel_owned, point, replay, rows, same_Some, same_slot}
use Rattle.nit_screen.proofs.Basics.{scenery_of, shown, slice_get-get_or, slice_get_within, slot_at}
use Rattle.nit_screen.proofs.Basics.{view_ref, view_text, view_word}
use Rattle.std.proofs.Common.{All, Bool, IfSome, IsTrue, List, None, Option, Some, [], ap, arith}
use Rattle.std.proofs.Common.{false, find, get_or-set_same, inl, inr, length, length-set, map, refl}
use Rattle.std.proofs.Common.{set, slice_get, slice_index, slice_index_or, subst, suc, sym, true}
use Rattle.std.proofs.Common.{zero, ℕ, ◌*◌, ◌+◌, ◌<◌, ◌∙◌, ◌∷◌, ◌≡◌, ◌≢◌, ◌≤◌}
use Rattle.nit_screen.proofs.Handles.{named_throughout}

-- ---- views by their places in the stack

-- what holds of each view holds of the one at a place
pub holds_at : (P : SlotView → Type 0) (views : List SlotView) (i : ℕ) (s : SlotView) → All P views
    → slice_get views i ≡ Some s → P s
holds_at P views i s all at = subst P (get_or_from_slice_get views i s s at) (all i s (slice_get_within views i s at))

-- two views at different places have different slots
pub slots_differ : (views : List SlotView) (k i : ℕ) (s t : SlotView) → NoPair same_slot views → k < i
    → slice_get views k ≡ Some s → slice_get views i ≡ Some t → s.slot ≢ t.slot
slots_differ [] k i s t apart lt at_k at_i same = cc
slots_differ (a ∷ views) k zero s t apart lt at_k at_i same = absurd (omega arith)
slots_differ (a ∷ views) zero (suc i) s t apart lt at_k at_i same =
    let here = get_or_from_slice_get views i t t at_i in
    let some = list_any_at (same_slot a) views i t (slice_get_within views i t at_i) in
    grind (arith, nat_tests, at_k, here, some, apart.0, same)
slots_differ (a ∷ views) (suc k) (suc i) s t apart lt at_k at_i same =
    slots_differ views k i s t apart.1 (omega arith) at_k at_i same

-- the slot of a view is one of the stack's
pub slot_within : (stack : StackModel) (i : ℕ) (v : ViewRef) → IsStack stack → slice_get (map view_ref stack.views) i
    ≡ Some v → v.0 < stack.most
slot_within stack i v standing at =
    let seat = slot_at stack.views i v at in
    rw (← seat.2)
    (holds_at (IsSlotView stack.most (length stack.sizes)) stack.views i seat.0 standing.seats seat.1).slot

-- ---- a value written at a place

written_there : {A : Type 0} (xs : List A) (i : ℕ) (a : A) → i < length xs → slice_get (set xs i a) i ≡ Some a
written_there xs i a lt =
    slice_get-get_or (set xs i a) i a (rw length-set lt) ∙ ap (λ x. Some x) (get_or-set_same xs i a a lt)

written_elsewhere : {A : Type 0} (xs : List A) (i j : ℕ) (a : A) → j ≢ i → slice_get (set xs i a) j ≡ slice_get xs j
written_elsewhere [] i j a other = refl
written_elsewhere (x ∷ xs) zero zero a other = absurd (other refl)
written_elsewhere (x ∷ xs) (suc i) (suc j) a other = written_elsewhere xs i j a (λ e. other (ap (λ n. suc n) e))
written_elsewhere (x ∷ xs) i j a other = refl

-- ---- one value after the other

-- the first n views have their values, of so many
pub record AreWritten {A : Type 0} (stack : StackModel) (value : SlotView → A) (n room : ℕ) (xs : List A) : Type 0 where
  pub count : length xs ≡ room
  pub done : (k : ℕ) (s : SlotView) → k < n → slice_get stack.views k ≡ Some s → slice_get xs s.slot ≡ Some (value s)

pub written_more : {A : Type 0} (stack : StackModel) (value : SlotView → A) (n room : ℕ) (xs : List A) (v : ViewRef)
    (a : A) → IsStack stack → stack.most ≤ room → slice_get (map view_ref stack.views) n ≡ Some v
    → ((s : SlotView) → slice_get stack.views n ≡ Some s → a ≡ value s)
    → AreWritten stack value n room xs → AreWritten stack value (n + 1) room (set xs v.0 a)
written_more {A} stack value n room xs v a standing slots at is far =
    record {
      count = length-set xs v.0 a ∙ far.count;
      done = λ k s lt at_k. elim (cases_lt k n) [
        | inl less ↦ written_elsewhere xs v.0 s.slot a (other k s less at_k) ∙ far.done k s less at_k
        | inr le ↦ let same : n ≡ k = omega arith in here s (rw same at_k)
      ];
    }
  where
    seat : (s : SlotView) × (slice_get stack.views n ≡ Some s) × (s.slot ≡ v.0)
    seat = slot_at stack.views n v at

    within : v.0 < length xs
    within = let slot = slot_within stack n v standing at in let count = far.count in omega arith

    other : (k : ℕ) (s : SlotView) → k < n → slice_get stack.views k ≡ Some s → s.slot ≢ v.0
    other k s less at_k e = slots_differ stack.views k n s seat.0 standing.slots less at_k seat.1 (e ∙ sym seat.2)

    here : (s : SlotView) → slice_get stack.views n ≡ Some s → slice_get (set xs v.0 a) s.slot ≡ Some (value s)
    here s at_n =
        let one : seat.0 ≡ s = same_Some _ _ (sym seat.1 ∙ at_n) in
        let slot : s.slot ≡ v.0 = rw (← one) seat.2 in
        ap (slice_get (set xs v.0 a)) slot ∙ written_there xs v.0 a within ∙ ap (λ (x : A). Some x) (is s at_n)

-- ==== Labels in a frame: each stands in pixels of its own view, so nothing covers it.

-- ---- views by their names

-- what is found is one of the list
is_among : (v : View) (p : View → Bool) (xs : List View) → is_owner v.sid v.handle (find p xs) ≡ true
    → list_any (is_view v.sid v.handle) xs ≡ true
is_among v p xs h = where_found (find p xs) refl h
  where
    where_found : (o : Option View) → find p xs ≡ o → is_owner v.sid v.handle o ≡ true
        → list_any (is_view v.sid v.handle) xs ≡ true
    where_found None e h = cc
    where_found (Some u) e h = any_found p (is_view v.sid v.handle) xs u e h

-- a view that is found by its name is the one of that name
found_itself : (p : View → Bool) (xs : List View) → HaveOwnNames xs → (i : ℕ) (d v : View) → i < length xs
    → slice_index_or xs i d ≡ v → is_owner v.sid v.handle (find p xs) ≡ true → find p xs ≡ Some v
found_itself p [] own i d v within at found = absurd (omega arith)
found_itself p (x ∷ xs) own zero d v within at found =
    grind (arith, at, rw at at own.0, is_among v p xs, found)
found_itself p (x ∷ xs) own (suc i) d v within at found =
    let same = list_any_at (is_view x.sid x.handle) xs i d (omega arith) in
    let later = found_itself p xs own.1 i d v (omega arith) at in
    grind (arith, at, own.0, same, ap (is_view x.sid x.handle) at ∙ name_both x v, later, found)

-- no view has the name of a later one
differ : (xs : List View) → HaveOwnNames xs → (i j : ℕ) (d : View) → i < j → j < length xs
    → is_view (slice_index_or xs i d).sid (slice_index_or xs i d).handle (slice_index_or xs j d) ≡ false
differ [] own i j d less within = absurd (omega arith)
differ (x ∷ xs) own i zero d less within = absurd (omega arith)
differ (x ∷ xs) own zero (suc j) d less within = grind (arith, nat_tests, false_from_ne_true, list_any_at)
differ (x ∷ xs) own (suc i) (suc j) d less within = differ xs own.1 i j d (omega arith) (omega arith)

-- ---- the place of a label

placed : (s : Scenery) (v : View) (q : ℕ × ℕ) → label_place_of s v ≡ Some q
    → fits s.width s.height s.bar s.stack v (label_width s v) (picture_height s.lettering) q.0 q.1 ≡ true
placed s v q at = grind (arith, nat_tests, found_passes)

-- ---- a pixel of a label

by_label : (m : Mode) (s : Scenery) (v : View) (q : ℕ × ℕ) (p : Point) (w : ℕ) → draws_labels m ≡ true
    → label_place_of s v ≡ Some q
    → is_in_picture s.lettering (view_text s v) q.0 q.1 p ≡ true → view_word m s v p w ≡ ink_of (has_dot s.lettering (view_text s v) q.0 q.1 p)
by_label Flat s v q p w draws at inside = cc
by_label other s v q p w draws at inside = rw at (rw inside refl)

-- a pixel that a view owns shows the view's word, and not the bar's
shown_by : (s : Scenery) (p : Point) (w : ℕ) (v : View)
    → (is_owner v.sid v.handle (covering (λ (u : View). u) s.stack p) ≡ true → covering (λ (u : View). u) s.stack p
    ≡ Some v)
    → is_owner v.sid v.handle (owner s.bar s.stack p) ≡ true → shown s p w ≡ view_word s.mode s v p w
shown_by s p w v found owned = whether_in_bar (in_bar s.bar p) refl
  where
    whether_in_bar : (b : Bool) → in_bar s.bar p ≡ b → shown s p w ≡ view_word s.mode s v p w
    whether_in_bar true e = let none = rw e at owned in cc
    whether_in_bar false e = rw e (ap (owner_word s p w) (found (rw e at owned)))

-- the pixel of a screen by its column and its row
pub number_fits : (width height x y : ℕ) → x < width → y < height → y * width + x < width * height
number_fits width height x y left above = grind (arith, rows)

pub pixel_of : (width x y : ℕ) → x < width → pixel width (y * width + x) ≡ point x y
pixel_of width x y left = grind (arith, nat_tests)

in_its_picture : (l : Lettering) (text : List ℕ) (left top x y : ℕ) → x < picture_width l (length text)
    → y < picture_height l
    → is_in_picture l text left top (point (left + x) (top + y)) ≡ true
in_its_picture l text left top x y wide high = grind (arith, nat_tests)

dot_there : (l : Lettering) (text : List ℕ) (left top x y : ℕ)
    → has_dot l text left top (point (left + x) (top + y)) ≡ text_dot l text x y
dot_there l text left top x y = grind (arith, nat_tests)

-- ---- the labels of a frame

-- a picture has a pixel
picture_some : (l : Lettering) (n : ℕ) → IsLettering l → (1 ≤ picture_width l n) × (1 ≤ picture_height l)
picture_some l n is = (
  mul-le 1 1 l.scale (step_of l.glyphs * n + 1) is.0 (omega arith),
  mul-le 1 1 l.scale (rows_of l.glyphs + 2) is.0 (omega arith),
)

label_shown : (s : Scenery) (raw : List ℕ) → IsLettering s.lettering → IsTrue (draws_labels s.mode) → HaveOwnNames s.stack → (i : ℕ) (d v : View)
    → i < length s.stack
    → slice_index_or s.stack i d ≡ v → (q : ℕ × ℕ) → label_place_of s v ≡ Some q → IsLabelShown s (frame s raw) v q
label_shown s raw lettering draws own i d v within at q place =
    let some = picture_some s.lettering (length (view_text s v)) lettering in
    let all = placed s v q place in
    let inside = fits_within s.width s.height s.bar s.stack v (label_width s v) (picture_height s.lettering) q.0 q.1 some.0
    some.1 all in
    record {
      right = inside.0;
      bottom = inside.1;
      dots = λ x y wide high.
          let p = point (q.0 + x) (q.1 + y) in
          let k = (q.1 + y) * s.width + (q.0 + x) in
          let w = slice_index raw k in
          let mine = pixel_owned s.width s.height s.bar s.stack v (label_width s v) (picture_height s.lettering) q.0 q.1 all (q.0 + x)
          (q.1 + y) (omega arith) (omega arith) (omega arith) (omega arith) in
          get_or-frame s raw k (number_fits s.width s.height (q.0 + x) (q.1 + y) mine.in_width mine.in_height)
          ∙ ap (λ (p : Point). shown s p w) (pixel_of s.width (q.0 + x) (q.1 + y) mine.in_width)
          ∙ shown_by s p w v (found_itself (λ (u : View). covers u.rect p) s.stack own i d v within at) mine.owner
          ∙ by_label s.mode s v q p w draws place (in_its_picture s.lettering (view_text s v) q.0 q.1 x y wide high)
          ∙ ap ink_of (dot_there s.lettering (view_text s v) q.0 q.1 x y);
    }

if_some : {A : Type 0} (P : A → Type 0) (o : Option A) → ((a : A) → o ≡ Some a → P a) → IfSome o P
if_some P None each = tt
if_some P (Some a) each = each a refl

-- two labels whose views have different names
labels_apart : (s : Scenery) (v u : View) → is_view v.sid v.handle u ≡ false → AreLabelsApart s v u
labels_apart s v u other =
    if_some _ (label_place_of s v) (λ q at.
    if_some _ (label_place_of s u) (λ r there.
    apart s.width s.height s.bar s.stack v u (label_width s v) (picture_height s.lettering) q.0 q.1 (label_width s u) (picture_height s.lettering)
    r.0 r.1 other (placed s v q at) (placed s u r there)))

pub labels_shown : (s : Scenery) (raw : List ℕ) → IsLettering s.lettering → HaveOwnNames s.stack → ShowsLabels s (frame s raw)
labels_shown s raw lettering own = λ draws. record {
  each = λ i d within.
      let v = slice_index_or s.stack i d in
      if_some (IsLabelShown s (frame s raw) v) (label_place_of s v) (label_shown s raw lettering draws own i d v within refl);
  apart = λ i j d less within. labels_apart s (slice_index_or s.stack i d) (slice_index_or s.stack j d)
      (differ s.stack own i j d less within);
}

-- in a state that a legal journal leads to
pub labels_stand : (config : Configuration) (journal : List Entry) (raw : List ℕ) → IsLettering config.lettering
    → IsLegal config journal
    → ShowsLabels (scenery_of (replay config journal)) (frame (scenery_of (replay config journal)) raw)
labels_stand config journal raw lettering legal =
    let same = ap (λ (c : Configuration). c.lettering) (kept_config (first_state config) journal) in
    labels_shown (scenery_of (replay config journal)) raw (rw same lettering) (named_throughout config journal legal).0
