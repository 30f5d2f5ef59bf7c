-- The views in front of a place, when one view is taken out.
use Rattle.std.proofs.Common.{Bool, List, None, Option, Some, [], ap, arith, cond, false, find, inl}
use Rattle.std.proofs.Common.{inr, insert, length, not, refl, slice_get, suc, sym, take, true, zero}
use Rattle.std.proofs.Common.{ℕ, ◌&&◌, ◌<◌, ◌==◌, ◌∙◌, ◌∷◌, ◌≡◌, ◌≤◌, ◌⊎◌}
use Rattle.nit_repaint.proofs.Basics.{IsStack, IsViewChange, NoPair, PixelSource, Point, Put}
use Rattle.nit_repaint.proofs.Basics.{Put-above, Rectangle, Repainted, Sight, SlotView, StackModel}
use Rattle.nit_repaint.proofs.Basics.{View, ViewRef, changed, covered, covers, found_fails}
use Rattle.nit_repaint.proofs.Basics.{found_passes, get_or_from_slice_get, in_bar, is_behind}
use Rattle.nit_repaint.proofs.Basics.{is_of_moved, is_slot, list_any, list_any_at, moved}
use Rattle.nit_repaint.proofs.Basics.{moved_above, nat_tests, on_view, option_map_or, owned_is}
use Rattle.nit_repaint.proofs.Basics.{owner_passes, pixel, place_of, position_or_len, put_above}
use Rattle.nit_repaint.proofs.Basics.{put_again, repainted_same, same_Some, same_slot}
use Rattle.nit_repaint.proofs.Basics.{slice_get_within, slot_owns_either, slot_view_covers}
use Rattle.nit_repaint.proofs.Basics.{slot_view_in, source_of_number, views_of, without}

-- what stands in front of the first that is meant does not know of it
pub take_front : {A : Type 0} (is : A → Bool) (xs : List A) (i : ℕ) → i ≤ position_or_len is xs
    → take i xs ≡ take i (without is xs)
take_front is [] i l = refl
take_front is (x ∷ xs) zero l = refl
take_front is (x ∷ xs) (suc i) l = grind (arith, take_front is xs i)

-- which views cover a pixel is told by the views without their slots
pub same_covered : (p : Point) (i : ℕ) (xs ys : List SlotView) → views_of xs ≡ views_of ys
    → covered (take i xs) p ≡ covered (take i ys) p
same_covered p i [] [] e = refl
same_covered p i [] (y ∷ ys) e = cc
same_covered p i (x ∷ xs) [] e = cc
same_covered p zero (x ∷ xs) (y ∷ ys) e = refl
same_covered p (suc i) (x ∷ xs) (y ∷ ys) e = grind (arith, same_covered p i xs ys)

-- more views cover more
pub covers_more : (p : Point) (xs : List SlotView) (i j : ℕ) → i ≤ j → covered (take i xs) p ≡ true
    → covered (take j xs) p ≡ true
covers_more p [] zero j l h = cc
covers_more p [] (suc i) j l h = cc
covers_more p (x ∷ xs) zero j l h = cc
covers_more p (x ∷ xs) (suc i) zero l h = absurd (omega arith)
covers_more p (x ∷ xs) (suc i) (suc j) l h = grind (arith, covers_more p xs i j)

-- a view that is apart from the others stands in another slot than each of them
pub other_slot : (views : List SlotView) (i : ℕ) (s x : SlotView) → list_any (same_slot x) views ≡ false
    → slice_get views i ≡ Some s → is_slot s.slot x ≡ false
other_slot views i s x apart at =
    let here = get_or_from_slice_get views i s s at in
    grind (arith, nat_tests, here, list_any_at (same_slot x) views i s (slice_get_within views i s at), apart)

-- a place in front of the end is that of a view
pub stands_there : {A : Type 0} (is : A → Bool) (xs : List A) → position_or_len is xs < length xs
    → list_any is xs ≡ true
stands_there is [] l = absurd (omega arith)
stands_there is (x ∷ xs) l = grind (arith, stands_there is xs)

pub stands_nowhere : {A : Type 0} (is : A → Bool) (xs : List A) → length xs ≤ position_or_len is xs
    → list_any is xs ≡ false
stands_nowhere is [] l = refl
stands_nowhere is (x ∷ xs) l = grind (arith, stands_nowhere is xs)

pub without_none : {A : Type 0} (is : A → Bool) (xs : List A) → list_any is xs ≡ false → without is xs ≡ xs
without_none is [] h = refl
without_none is (x ∷ xs) h = grind (arith, without_none is xs)

-- where none is meant, what is found is not
pub found_not : {A : Type 0} (is q : A → Bool) (xs : List A) → list_any is xs ≡ false
    → option_map_or is (find q xs) false ≡ false
found_not is q [] none = refl
found_not is q (x ∷ xs) none = grind (arith, found_not is q xs)

-- ==== The pixels that a changed view owned or owns.

-- a view owns a pixel below the bar that it covers and no view in front of it
pub owned_by : (s : StackModel) (k : ℕ) (seat : SlotView) (p : Point) → NoPair same_slot s.views
    → slot_view_in k s.views ≡ Some seat
    → owner_passes (is_slot k) s p
    ≡ cond (in_bar s.bar p) false (covers seat.view.rect p && not (covered (take (place_of k s.views) s.views) p))
owned_by s k seat p apart there = grind (arith, owned_is k p s.views seat apart there)

-- where no view is meant, none that is meant owns it
pub owned_not : (is : SlotView → Bool) (s : StackModel) (p : Point) → list_any is s.views ≡ false
    → owner_passes is s p ≡ false
owned_not is s p none = grind (arith, found_not is (slot_view_covers p) s.views none)

module _ (k at : ℕ) (rect : Rectangle) (before after : StackModel) (p : Point)
    (change : IsViewChange k at rect before after) where
  -- which views but this one, of the first so many, cover the pixel
  abbrev hidden : ℕ → Bool
  hidden i = covered (take i (without (is_slot k) after.views)) p

  -- before the change
  was_hidden : covered (take (place_of k before.views) before.views) p ≡ hidden at
  was_hidden =
      ap (λ (xs : List SlotView). covered xs p)
      (take_front (is_slot k) before.views (place_of k before.views) (omega arith))
      ∙ same_covered p (place_of k before.views) (without (is_slot k) before.views) (without (is_slot k) after.views)
      change.others
      ∙ ap hidden change.place

  was_owned : owner_passes (is_slot k) before p ≡ cond (in_bar after.bar p) false (covers rect p && not (hidden at))
  was_owned =
      owned_by before k change.seat.0 p change.slots change.seat.1
      ∙ (λ i. cond (in_bar (change.bar i) p) false (covers (change.seat.2 i) p && not (was_hidden i)))

  -- after it, as far as no more views are looked at than stand in front
  is_hidden : (i : ℕ) → i ≤ place_of k after.views → covered (take i after.views) p ≡ hidden i
  is_hidden i l = ap (λ (xs : List SlotView). covered xs p) (take_front (is_slot k) after.views i l)

  now_owned : (s : SlotView) → NoPair same_slot after.views → slot_view_in k after.views ≡ Some s
      → owner_passes (is_slot k) after p
      ≡ cond (in_bar after.bar p) false (covers s.view.rect p && not (hidden (place_of k after.views)))
  now_owned s apart there =
      owned_by after k s p apart there
      ∙ ap (λ (b : Bool). cond (in_bar after.bar p) false (covers s.view.rect p && not b))
      (is_hidden (place_of k after.views) (omega arith))

  -- it is still there, and not further behind
  pub moved_owns : (v : ViewRef) (s : SlotView) → v.0 ≡ k → NoPair same_slot after.views
      → slot_view_in k after.views ≡ Some s → place_of k after.views ≤ at
      → is_of_moved v after rect p ≡ slot_owns_either k before after p
  moved_owns v s e apart there l =
      rw (e, there, is_hidden (place_of k after.views) (omega arith), was_owned, now_owned s apart there)
      (let more = covers_more p (without (is_slot k) after.views) (place_of k after.views) at l in
      grind (arith, more, change.kept s there))

  -- it stands further behind
  pub fallen_owns : (s : SlotView) → NoPair same_slot after.views → slot_view_in k after.views ≡ Some s
      → at < place_of k after.views → is_behind at after rect p ≡ slot_owns_either k before after p
  fallen_owns s apart there l =
      rw (is_hidden at (omega arith), was_owned, now_owned s apart there)
      (let more = covers_more p (without (is_slot k) after.views) at (place_of k after.views) (omega arith) in
      grind (arith, more, change.kept s there, l))

  -- it is gone
  pub gone_owns : list_any (is_slot k) after.views ≡ false
      → is_behind at after rect p ≡ slot_owns_either k before after p
  gone_owns none =
      let front = without_none (is_slot k) after.views none in
      rw (was_owned, owned_not (is_slot k) after p none, front) (grind arith)

-- ==== What one view uncovers when it is taken away.

-- ---- one view goes

pub none_left : {A : Type 0} (is : A → Bool) (xs : List A) → list_any is (without is xs) ≡ false
none_left is [] = refl
none_left is (x ∷ xs) = grind (arith, none_left is xs)

-- it is a change of one view
pub gone_change : (s s' : StackModel) (k at : ℕ) (view : View) → NoPair same_slot s.views
    → slot_view_in k s.views ≡ Some (record { slot = k; view = view }) → at ≡ place_of k s.views
    → s' ≡ record s { views = without (is_slot k) s.views } → IsViewChange k at view.rect s s'
gone_change s s' k at view apart there place now = rw now (record {
  slots = apart;
  seat = (record { slot = k; view = view }, there, refl);
  place = sym place;
  bar = refl;
  others = ap views_of (sym (without_none (is_slot k) (without (is_slot k) s.views) (none_left (is_slot k) s.views)));
  kept = λ x e.
      let left = without (is_slot k) s.views in
      let none = found_fails (is_slot k) (is_slot k) left x (none_left (is_slot k) s.views) e in
      cc (found_passes (is_slot k) left x e);
})

-- and nothing that it owns is left
pub gone_owned : (s s' : StackModel) (k : ℕ) (p : Point) → s' ≡ record s { views = without (is_slot k) s.views }
    → slot_owns_either k s s' p ≡ owner_passes (is_slot k) s p
gone_owned s s' k p now =
    let none =
    owned_not (is_slot k) (record s { views = without (is_slot k) s.views }) p (none_left (is_slot k) s.views) in
    rw now (grind (arith, none))

pub shorter : {A : Type 0} (is : A → Bool) (xs : List A) → length (without is xs) ≤ length xs
shorter is [] = omega arith
shorter is (x ∷ xs) = grind (arith, shorter is xs)

pub gone_room : (s s' : StackModel) (k room : ℕ) → s' ≡ record s { views = without (is_slot k) s.views }
    → length s.views ≤ room → length s'.views ≤ room
gone_room s s' k room now l = rw now (omega (arith, shorter (is_slot k) s.views, l))

-- the same pixels in other words
pub marked_same : {source : ℕ → PixelSource} {d e : ℕ → Bool} {n : ℕ} {a b : ℕ → Sight} {raw raw' : List ℕ}
    → Repainted source d n a b raw raw' → ((k : ℕ) → k < n → d k ≡ e k) → Repainted source e n a b raw raw'
marked_same painted same =
    repainted_same _ _ _ _ _ _ _ _ _ _ _ same (λ k l m. refl) (λ t. refl) (λ t. refl) painted

pub gone_painted : (s s' : StackModel) (k n : ℕ) (a b : ℕ → Sight) (raw raw' : List ℕ)
    → s' ≡ record s { views = without (is_slot k) s.views }
    → Repainted (source_of_number s') (λ j. slot_owns_either k s s' (pixel s'.width j)) n a b raw raw'
    → Repainted (source_of_number s') (λ j. owner_passes (is_slot k) s (pixel s.width j)) n a b raw raw'
gone_painted s s' k n a b raw raw' now painted =
    marked_same painted (λ j l. gone_owned s s' k (pixel s'.width j) now
    ∙ ap (λ (t : StackModel). owner_passes (is_slot k) s (pixel t.width j)) now)

-- ==== Changes of one view leave the others as they stood.

-- ---- lists

module _ {A : Type 0} (is : A → Bool) where
  without_insert : (xs : List A) (i : ℕ) (v : A) → is v ≡ true → without is (insert xs i v) ≡ without is xs
  without_insert xs zero v e = grind arith
  without_insert [] (suc i) v e = grind arith
  without_insert (x ∷ xs) (suc i) v e = grind (arith, without_insert xs i v e)

  find_insert : (xs : List A) (i : ℕ) (v : A) → is v ≡ true → list_any is xs ≡ false → find is (insert xs i v) ≡ Some v
  find_insert xs zero v e none = grind arith
  find_insert [] (suc i) v e none = grind arith
  find_insert (x ∷ xs) (suc i) v e none = grind (arith, find_insert xs i v e)

  module _ (put : A → List A → List A) (puts : (v : A) (xs : List A) → Put v xs (put v xs)) where
    pub without_moved : (xs : List A) → without is (moved is put xs) ≡ without is xs
    without_moved xs = found_or_not (find is xs) refl
      where
        found_or_not : (o : Option A) → find is xs ≡ o → without is (put_again put (without is xs) xs o) ≡ without is xs
        found_or_not None e = refl
        found_or_not (Some v) e =
            let p = puts v (without is xs) in
            let others = without_none is (without is xs) (none_left is xs) in
            grind (arith, p.is, without_insert (without is xs) p.at v (found_passes is xs v e), others)

    pub find_moved : (xs : List A) → find is (moved is put xs) ≡ find is xs
    find_moved xs = found_or_not (find is xs) refl
      where
        found_or_not : (o : Option A) → find is xs ≡ o → find is (put_again put (without is xs) xs o) ≡ find is xs
        found_or_not None e = refl
        found_or_not (Some v) e =
            let p = puts v (without is xs) in
            grind (arith, p.is, find_insert (without is xs) p.at v (found_passes is xs v e) (none_left is xs), e)

  module _ (change : A → A) (same : (x : A) → is (change x) ≡ is x) where
    pub without_changed : (xs : List A) → without is (changed is change xs) ≡ without is xs
    without_changed [] = refl
    without_changed (x ∷ xs) = grind (arith, same x, without_changed xs)

    pub place_changed : (xs : List A) → position_or_len is (changed is change xs) ≡ position_or_len is xs
    place_changed [] = refl
    place_changed (x ∷ xs) = grind (arith, same x, place_changed xs)

-- ---- stacks

module _ (s : StackModel) (k : ℕ) (seat : SlotView) (standing : IsStack s) (there : slot_view_in k s.views ≡ Some seat)
  where
    -- the others stand as before
    changes_to : {views : List SlotView} → without (is_slot k) views ≡ without (is_slot k) s.views
        → ((x : SlotView) → slot_view_in k views ≡ Some x
        → (x.view.rect ≡ seat.view.rect) ⊎ (place_of k views ≡ place_of k s.views))
        → IsViewChange k (place_of k s.views) seat.view.rect s (record s { views = views })
    changes_to left kept = record {
      slots = standing.slots;
      seat = (seat, there, refl);
      place = refl;
      bar = refl;
      others = ap views_of (sym left);
      kept = kept;
    }

    -- it has another rectangle or offset, at its place
    pub changes : (change : View → View)
        → IsViewChange k (place_of k s.views) seat.view.rect s
        (record s { views = changed (is_slot k) (on_view change) s.views })
    changes change = changes_to (without_changed (is_slot k) (on_view change) (λ x. refl) s.views)
        (λ x e. inr (place_changed (is_slot k) (on_view change) (λ x. refl) s.views))

    -- it has another place
    pub moves : (put : SlotView → List SlotView → List SlotView)
        → ((v : SlotView) (xs : List SlotView) → Put v xs (put v xs))
        → IsViewChange k (place_of k s.views) seat.view.rect s (record s { views = moved (is_slot k) put s.views })
    moves put puts = changes_to (without_moved (is_slot k) put puts s.views)
        (λ x e. inl (ap (λ (a : SlotView). a.view.rect)
        (same_Some _ _ (sym e ∙ find_moved (is_slot k) put puts s.views ∙ there))))

    pub moves_above : (n : ℕ) → IsViewChange k (place_of k s.views) seat.view.rect s
        (record s { views = moved_above k n s.views })
    moves_above n =
        elim (k == n) as (λ b. IsViewChange k (place_of k s.views) seat.view.rect s
        (record s { views = cond b s.views (moved (is_slot k) (put_above (is_slot n)) s.views) })) [
          | true ↦ changes_to refl (λ x e. inr refl)
          | false ↦ moves (put_above (is_slot n)) (λ v xs. Put-above (is_slot n) v xs)
        ]
