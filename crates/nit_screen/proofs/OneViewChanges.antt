-- What holds of a pixel of a server's stack, told of the state that the server is in.
use Rattle.nit_screen.proofs.Basics.{Above, AllByRecursion, Back, Buffer, Call, Destroy, Front}
use Rattle.nit_screen.proofs.Basics.{IsNamedBy, IsOn, IsPartOf, IsServed, IsServer, IsViewChange}
use Rattle.nit_screen.proofs.Basics.{MeanSame, Offset, Place, Point, Put, Put-above, Put-back}
use Rattle.nit_screen.proofs.Basics.{Put-front, Rectangle, Refresh, Repainted, Reply, ServerModel}
use Rattle.nit_screen.proofs.Basics.{Sight, SlotView, StackModel, State, Status, after_accepted}
use Rattle.nit_screen.proofs.Basics.{agree_by, all_of_session, bar_rows, buffer_size, changed}
use Rattle.nit_screen.proofs.Basics.{covers, dirty, dirty_by_call, ended, find-map, find_moved}
use Rattle.nit_screen.proofs.Basics.{first_session, forget, found_fails, get_or-map, is_accepted}
use Rattle.nit_screen.proofs.Basics.{is_named, is_of_session, is_session, is_slot, is_view}
use Rattle.nit_screen.proofs.Basics.{is_word_in, layer, list_any, map-without, moved, nat_tests}
use Rattle.nit_screen.proofs.Basics.{no_size, none_left, owner, owner_named, owner_of_session}
use Rattle.nit_screen.proofs.Basics.{owner_passes, owns_either, part_of_session, pixel, pixel_count}
use Rattle.nit_screen.proofs.Basics.{place_changed, place_of, position_or_len, put_above, rectangle}
use Rattle.nit_screen.proofs.Basics.{refusal, repainted_same, same_Some, session, session_in}
use Rattle.nit_screen.proofs.Basics.{session_owns, size_of, size_of_buffer, slot_owns_either}
use Rattle.nit_screen.proofs.Basics.{slot_view_in, source, source_at, source_in, state_of}
use Rattle.nit_screen.proofs.Basics.{view_owns, views_closed, views_of, wanted, with_ended, without}
use Rattle.nit_screen.proofs.Basics.{without_changed, without_moved, without_none, without_same}
use Rattle.nit_screen.proofs.Basics.{without_session, without_view, without_views}
use Rattle.std.proofs.Common.{Bool, List, None, Option, Some, [], ap, arith, cond, false, find}
use Rattle.std.proofs.Common.{get_or-set_other, get_or-set_same, inl, inr, length, refl, set}
use Rattle.std.proofs.Common.{set-set, sym, true, ℕ, ◌*◌, ◌<◌, ◌==◌, ◌||◌, ◌∙◌, ◌∷◌, ◌≡◌, ◌⊎◌}
use Rattle.nit_screen.proofs.CleanCalls.{by_other_sizes, owner_spared, stack_called}
use Rattle.nit_screen.proofs.CleanCalls.{unrefused_reply}
use Rattle.nit_stack.specs.declared.view.View.{View as ViewOf}
use Rattle.nit_paint.specs.Pieces as pieces
use Rattle.nit_events.specs.declared.entry.Entry.TheVariants as entry

-- the sizes of the stack are those of the sessions' buffers
pub size_at : (s : ServerModel) → IsServer s → (t : ℕ) → size_of s.stack.sizes t ≡ buffer_size s.sessions t
size_at s h t = ap (λ z. size_of z t) h.sizes ∙ get_or-map size_of_buffer s.sessions t (first_session 0)

source_same : (s : ServerModel) → IsServer s → (p : Point)
    → source_in s.stack p ≡ source (buffer_size s.sessions) (bar_rows s.config) (views_of s.stack.views) p
source_same s h p = λ i. source (λ t. size_at s h t i) (h.screen.2 i) (views_of s.stack.views) p

pub source_of_number : (s : ServerModel) → IsServer s → (k : ℕ) → pieces.source_of_number s.stack k
    ≡ source_at (state_of s) k
source_of_number s h k = source_same s h (pixel s.stack.width k)
    ∙ ap (λ w. source (buffer_size s.sessions) (bar_rows s.config) (views_of s.stack.views) (pixel w k)) h.screen.0

pub view_meant : (s : ServerModel) → IsServer s → (k sid handle : ℕ) → MeanSame k sid handle s.stack.views → (p : Point)
    → owner_passes (is_slot k) s.stack p ≡ view_owns sid handle (state_of s) p
view_meant s h k sid handle same p = grind (arith, nat_tests, owner_named)

pub session_meant : (s : ServerModel) → IsServer s → (sid : ℕ) (p : Point) → owner_passes (is_of_session sid) s.stack p
    ≡ session_owns sid (state_of s) p
session_meant s h sid p =
    rw (← h.screen.2) (owner_of_session sid s.stack.bar s.stack.views p)

-- ==== A call that draws the views of a session makes their pixels dirty, and paints them.

wanted_dirty : (before after' : ServerModel) (sid : ℕ) (part : Option Rectangle) (call : Call) (p : Point)
    → IsServer after' → IsPartOf part call
    → wanted sid part after'.stack p ≡ dirty_by_call sid call (state_of before) (state_of after') p
wanted_dirty before after' sid part (Buffer w h) p ha on = rw on
    (all_of_session sid after'.stack p ∙ session_meant after' ha sid p)
wanted_dirty before after' sid part (Refresh x y w h) p ha on = rw on
    (part_of_session sid (rectangle x y w h) after'.stack p
    ∙ (λ i. is_word_in sid (size_at after' ha sid i).w (rectangle x y w h) (source_same after' ha p i)))
wanted_dirty before after' sid part other p ha on = absurd on

pub dirty_by_views : (before after' : ServerModel) (sid : ℕ) (part : Option Rectangle) (call : Call) (r : Reply)
    → IsServer after' → refusal (session (state_of before) sid) call ≡ None → IsServed sid call r before after'
    → IsPartOf part call → (k : ℕ) → wanted sid part after'.stack (pixel after'.stack.width k)
    ≡ dirty (state_of before) (entry.Call sid call r) (state_of after') (pixel before.config.width k)
dirty_by_views before after' sid part call r ha none s on k =
    let yes_ = ap is_accepted s.replied ∙ unrefused_reply (session (state_of before) sid) call none in
    let width = ha.screen.0 ∙ ap (λ (t : State). t.config.width) s.state in
    rw (width, yes_) (wanted_dirty before after' sid part call (pixel before.config.width k) ha on)

-- ==== An accepted call on a view changes that view alone in the stack.

-- ---- one view by its slot and by its name

same_place : (p : SlotView → Bool) (q : ViewOf → Bool) (xs : List SlotView) → AllByRecursion (λ s. p s ≡ q s.view) xs
    → position_or_len p xs ≡ position_or_len q (views_of xs)
same_place p q [] h = refl
same_place p q (x ∷ xs) h = rw (h.0, same_place p q xs h.1)

same_found : (p q : SlotView → Bool) (xs : List SlotView) → AllByRecursion (λ x. p x ≡ q x) xs → find p xs ≡ find q xs
same_found p q [] h = refl
same_found p q (x ∷ xs) h = rw (h.0, same_found p q xs h.1)

module _ (k sid handle : ℕ) (xs : List SlotView) (same : MeanSame k sid handle xs) where
  left_by_name : views_of (without (is_slot k) xs) ≡ without (is_view sid handle) (views_of xs)
  left_by_name = ap views_of (without_same (is_slot k) (is_named sid handle) xs same)
      ∙ map-without (λ (s : SlotView). s.view) (is_view sid handle) xs

  place_by_name : place_of k xs ≡ position_or_len (is_view sid handle) (views_of xs)
  place_by_name = same_place (is_slot k) (is_view sid handle) xs same

  found_by_name : (x : SlotView) → slot_view_in k xs ≡ Some x → find (is_view sid handle) (views_of xs) ≡ Some x.view
  found_by_name x e = grind (arith, nat_tests, find-map, same_found)

-- ---- the calls on a view

-- the view is found as before, or at its place of before, or not any more
abbrev pub KeepsOne : ℕ → ℕ → List ViewOf → List ViewOf → Type 0
KeepsOne sid handle before now = (find (is_view sid handle) now ≡ find (is_view sid handle) before)
    ⊎ (position_or_len (is_view sid handle) now ≡ position_or_len (is_view sid handle) before)
    ⊎ (find (is_view sid handle) now ≡ None)

-- a list of views changes but for one
pub record Changes (sid handle : ℕ) (before now : List ViewOf) : Type 0 where
  pub left : without (is_view sid handle) now ≡ without (is_view sid handle) before
  pub kept : KeepsOne sid handle before now

nothing : {A : Type 0} (is : A → Bool) (xs : List A) → list_any is xs ≡ false → find is xs ≡ None
nothing is [] h = refl
nothing is (x ∷ xs) h = grind (arith, nothing is xs)

module _ (layers : ℕ → ℕ) (sid : ℕ) (stack : List ViewOf) (r : Reply) where
  moves : (v : ℕ) (put : ViewOf → List ViewOf → List ViewOf) → ((a : ViewOf) (xs : List ViewOf) → Put a xs (put a xs))
      → Changes sid v stack (moved (is_view sid v) put stack)
  moves v put puts = grind (arith, nat_tests, without_moved, find_moved)

  alters : (v : ℕ) (change : ViewOf → ViewOf) → ((a : ViewOf) → is_view sid v (change a) ≡ is_view sid v a)
      → Changes sid v stack (changed (is_view sid v) change stack)
  alters v change same = grind (arith, nat_tests, without_changed, place_changed)

  pub changes : (v : ℕ) (call : Call) → IsOn v call → Changes sid v stack (after_accepted layers sid call r stack)
  changes v (Place u x y w h) on = rw (← on) (alters u (λ view. record view { rect = rectangle x y w h }) (λ a. refl))
  changes v (Offset u ox oy) on = rw (← on) (alters u (λ view. record view { ox = ox; oy = oy }) (λ a. refl))
  changes v (Front u) on = rw (← on) (moves u _ (Put-front (λ (view : ViewOf). layers view.sid) (layers sid)))
  changes v (Back u) on = rw (← on) (moves u _ (Put-back (λ (view : ViewOf). layers view.sid) (layers sid)))
  changes v (Above u n) on = rw (← on) (whether_itself (u == n))
    where
      whether_itself : (b : Bool)
          → Changes sid u stack (cond b stack (moved (is_view sid u) (put_above (is_view sid n)) stack))
      whether_itself true = record { left = refl; kept = inl refl }
      whether_itself false = moves u _ (Put-above (is_view sid n))
  changes v (Destroy u) on = rw (← on)
      record {
        left = without_none (is_view sid u) (without (is_view sid u) stack) (none_left (is_view sid u) stack);
        kept = inr (inr (nothing (is_view sid u) (without (is_view sid u) stack) (none_left (is_view sid u) stack)));
      }
  changes v other on = absurd on

-- an accepted call on a view is a change of the view in its slot
pub change_of_call : (before after' : ServerModel) (sid handle k : ℕ) (call : Call) (r : Reply) (seat : SlotView)
    → IsServer before → IsServer after' → refusal (session (state_of before) sid) call ≡ None
    → IsServed sid call r before after' → IsOn handle call → IsNamedBy k sid handle before.stack.views
    → slot_view_in k before.stack.views ≡ Some seat
    → IsViewChange k (place_of k before.stack.views) seat.view.rect before.stack after'.stack
change_of_call before after' sid handle k call r seat hb ha none s on by there = record {
  slots = hb.standing.slots;
  seat = (seat, there, refl);
  place = refl;
  bar = hb.screen.2 ∙ ap (λ (t : State). bar_rows t.config) (sym s.state) ∙ sym ha.screen.2;
  others = left_by_name k sid handle before.stack.views was ∙ sym c.left
      ∙ sym (left_by_name k sid handle after'.stack.views now);
  kept = λ x e. keeps x e c.kept;
}
  where
    was : MeanSame k sid handle before.stack.views
    was = agree_by k sid handle before.stack.views by

    now : MeanSame k sid handle after'.stack.views
    now = s.named k handle by

    c : Changes sid handle (views_of before.stack.views) (views_of after'.stack.views)
    c =
        let yes_ = ap is_accepted s.replied ∙ unrefused_reply (session (state_of before) sid) call none in
        let stack_ = ap (λ (t : State). t.stack) s.state
        ∙ stack_called (layer before.config) sid call r (views_of before.stack.views) yes_ in
        rw stack_ (changes (layer before.config) sid (views_of before.stack.views) r handle call on)

    keeps : (x : SlotView) → slot_view_in k after'.stack.views ≡ Some x
        → KeepsOne sid handle (views_of before.stack.views) (views_of after'.stack.views)
        → (x.view.rect ≡ seat.view.rect) ⊎ (place_of k after'.stack.views ≡ place_of k before.stack.views)
    keeps x e (inl f) = inl (ap (λ (v : ViewOf). v.rect) (same_Some _ _
        (sym (found_by_name k sid handle after'.stack.views now x e) ∙ f
        ∙ found_by_name k sid handle before.stack.views was seat there)))
    keeps x e (inr (inl f)) = inr (place_by_name k sid handle after'.stack.views now ∙ f
        ∙ sym (place_by_name k sid handle before.stack.views was))
    keeps x e (inr (inr f)) = let here = found_by_name k sid handle after'.stack.views now x e in cc

-- ---- what is painted

-- a call on a view makes dirty what the view owned before or owns after it
made_dirty : (sid handle : ℕ) (before after' : State) (p : Point) (call : Call) → IsOn handle call
    → owns_either sid handle before after' p ≡ dirty_by_call sid call before after' p
made_dirty sid handle before after' p (Place v x y w h) on = rw on
made_dirty sid handle before after' p (Offset v ox oy) on = rw on
made_dirty sid handle before after' p (Front v) on = rw on
made_dirty sid handle before after' p (Back v) on = rw on
made_dirty sid handle before after' p (Above v n) on = rw on
made_dirty sid handle before after' p (Destroy v) on = rw on
made_dirty sid handle before after' p other on = absurd on

-- the pixels of a change are those that the entry makes dirty
pub dirty_by_change : (before after' : ServerModel) (sid handle slot : ℕ) (call : Call) (r : Reply) → IsServer before
    → IsServer after' → refusal (session (state_of before) sid) call ≡ None → IsServed sid call r before after'
    → IsOn handle call → IsNamedBy slot sid handle before.stack.views → (k : ℕ)
    → slot_owns_either slot before.stack after'.stack (pixel after'.stack.width k)
    ≡ dirty (state_of before) (entry.Call sid call r) (state_of after') (pixel before.config.width k)
dirty_by_change before after' sid handle slot call r hb ha none s on by k =
    let p = pixel before.config.width k in
    let was = view_meant before hb slot sid handle (agree_by slot sid handle before.stack.views by) p in
    let is = view_meant after' ha slot sid handle (s.named slot handle by) p in
    let yes_ = ap is_accepted s.replied ∙ unrefused_reply (session (state_of before) sid) call none in
    let width = ha.screen.0 ∙ ap (λ (t : State). t.config.width) s.state in
    rw (width, yes_) ((λ i. was i || is i)
    ∙ made_dirty sid handle (state_of before) (state_of after') p call on)

-- ---- one view goes

-- the server without a view, by the view's slot
pub gone_by_slot : (s s' : ServerModel) (sid handle k : ℕ) → IsNamedBy k sid handle s.stack.views
    → s' ≡ without_view sid handle s → s'.stack ≡ record s.stack { views = without (is_slot k) s.stack.views }
gone_by_slot s s' sid handle k by now = grind (arith, nat_tests, without_same, agree_by)

-- ==== A session ends: what is left of the server, and what is painted.

-- what is left of a server when a session ends is told by what is left without its views
pub ended_server : (sid : ℕ) (how : Status) (s mid s' : ServerModel) → sid < length s.sessions
    → sid < length mid.sessions → without_views sid mid ≡ without_views sid s → s' ≡ with_ended sid how mid
    → s' ≡ with_ended sid how s
ended_server sid how s mid s' l m left now = now ∙ ended_over mid m ∙ ap over left ∙ sym (ended_over s l)
  where
    over : ServerModel → ServerModel
    over z = record z {
      sessions = set z.sessions sid (ended how (session_in z.sessions sid));
      stack = record z.stack { sizes = set z.stack.sizes sid no_size };
      input = forget z.input sid;
    }

    ended_over : (z : ServerModel) → sid < length z.sessions → with_ended sid how z ≡ over (without_views sid z)
    ended_over z n = grind (arith, nat_tests, set-set, get_or-set_same)

-- what is uncovered is of other sessions, whose buffers stay
ended_source : (sid : ℕ) (s : StackModel) (p : Point)
    → source_in (record (without_session sid s) { sizes = set s.sizes sid no_size }) p
    ≡ source_in (without_session sid s) p
ended_source sid s p =
    let views = without (is_session sid) (views_of s.views) in
    rw (views_closed sid s.views) (by_other_sizes sid (size_of s.sizes) (size_of (set s.sizes sid no_size)) p
    (owner s.bar views p) (λ t other. get_or-set_other s.sizes sid t no_size no_size other)
    (owner_spared (is_session sid) s.bar views p (λ v e. found_fails (λ (v : ViewOf). covers v.rect p) (is_session sid)
    views v (none_left (is_session sid) (views_of s.views)) e)))

pub ended_painted : (s s' : ServerModel) (sid : ℕ) (how : Status) (n : ℕ) (a b : ℕ → Sight) (raw raw' : List ℕ)
    → IsServer s → IsServer s' → s' ≡ with_ended sid how s → n ≡ s.config.width * s.config.height
    → Repainted (pieces.source_of_number (without_session sid s.stack))
    (λ k. owner_passes (is_of_session sid) s.stack (pixel s.stack.width k)) n a b raw raw'
    → Repainted (source_at (state_of s')) (λ k. session_owns sid (state_of s) (pixel s.config.width k))
    (pixel_count (state_of s)) a b raw raw'
ended_painted s s' sid how n a b raw raw' h h' now count painted =
    rw (← count) (repainted_same _ _ _ _ n a a b b raw raw'
    (λ k l. session_meant s h sid (pixel s.stack.width k)
    ∙ ap (λ (w : ℕ). session_owns sid (state_of s) (pixel w k)) h.screen.0)
    (λ k l m. sym (ended_source sid s.stack (pixel s.stack.width k))
    ∙ ap (λ (t : ServerModel). pieces.source_of_number t.stack k) (sym now) ∙ source_of_number s' h' k) (λ t. refl)
    (λ t. refl) painted)
