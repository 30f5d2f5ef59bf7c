-- A call was served, the pixels that it makes dirty were loaded again, and all is shown.
use Rattle.nit_screen.proofs.Basics.{AreGlasses, ArePixels, ArePlaced, Buffer, Call, CanAccept}
use Rattle.nit_screen.proofs.Basics.{CanRepaint, CanServe, CanShowBy, Close, Flat, IsCallShown}
use Rattle.nit_screen.proofs.Basics.{IsClean, IsFrameOf, IsNamedBy, IsOn, IsPartOf, IsPartShown}
use Rattle.nit_screen.proofs.Basics.{IsQuiet, IsRepaint, IsServed, IsServer, IsShown, IsViewChange}
use Rattle.nit_screen.proofs.Basics.{KeepsPainter, KeepsViews, Painted, Painter, PixelSource}
use Rattle.nit_screen.proofs.Basics.{Pixels, Point, Rectangle, Refresh, Repainted, Reply, Scenery}
use Rattle.nit_screen.proofs.Basics.{ScreenModel, ServerModel, Sight, SlotView, StackModel, Take}
use Rattle.nit_screen.proofs.Basics.{Upgrade, cases_Bool, closed, false≢true, dirty, draws_labels, false_from_ne_true}
use Rattle.nit_screen.proofs.Basics.{frame, is_of_session, kept_frame, layer, length-frame}
use Rattle.nit_screen.proofs.Basics.{nat_tests, no_sight, nothing_set, owner_passes, pixel}
use Rattle.nit_screen.proofs.Basics.{place_of, raw_of, renewed, repainted_same, repainted_words}
use Rattle.nit_screen.proofs.Basics.{scenery_of, shown, slot_owns_either, slot_view_in, state_of}
use Rattle.nit_screen.proofs.Basics.{unbarred, wanted, with_ended, without_session, without_views}
use Rattle.std.proofs.Common.{Bool, IsTrue, Option, Some, ap, arith, false, inl, inr, length, nat_lt}
use Rattle.std.proofs.Common.{refl, slice_index, subst, sym, true, ℕ, ◌*◌, ◌<◌, ◌∙◌, ◌≡◌}
use Rattle.nit_screen.proofs.KeptFrames.{bar_clean, can_stay, can_still, clean_call, kept_served}
use Rattle.nit_screen.proofs.KeptFrames.{part_stays, quiet_stays, same_scenery}
use Rattle.nit_screen.proofs.OneViewChanges.{change_of_call, dirty_by_change, dirty_by_views}
use Rattle.nit_screen.proofs.OneViewChanges.{ended_painted, ended_server, source_of_number}
use Rattle.nit_screen.proofs.OneList.{bar_first, entry_painted_in, mode_stays, one_copied, raw_long}
use Rattle.nit_screen.proofs.OneList.{unbarred_long}
use Rattle.nit_screen.proofs.ScreenLemmas.{few_views, holds, same_config, same_most, still_placed}
use Rattle.nit_screen.proofs.ScreenLemmas.{unpainted}
use Rattle.nit_events.specs.declared.call.Reply.TheVariants as reply
use Rattle.nit_events.specs.declared.entry.Entry.TheVariants as entry
use Rattle.nit_events.specs.declared.event.Status.TheVariants as status
use Rattle.nit_paint.specs.Pieces as pieces

-- what contracts see of a screen
abbrev pub screen_of : ServerModel → Pixels → ScreenModel
screen_of s p = record { serving = s; raw = raw_of p; is_stale = p.is_stale }

-- ---- calls that change no view

part_keeps : (part : Option Rectangle) (call : Call) → IsPartOf part call → KeepsViews call
part_keeps part (Buffer w h) on = tt
part_keeps part (Refresh x y w h) on = tt
part_keeps part other on = absurd on

quiet_keeps : (call : Call) → IsQuiet call → KeepsViews call
quiet_keeps Take quiet = tt
quiet_keeps (Upgrade n) quiet = tt
quiet_keeps other quiet = absurd quiet

-- ---- what is needed

pub still_shown : (s : ServerModel) (p : Pixels) → ArePixels s p → IsShown s p p
still_shown s p h = record { pixels = h; raw = refl }

-- the painter can load what the server's stack has now
pub can_paint : (s s' : ServerModel) (p : Pixels) (sights : ℕ → Sight) → IsServer s' → s'.config ≡ s.config
    → s'.stack.most ≡ s.stack.most → CanShowBy s p → AreGlasses s.config sights
    → CanRepaint s'.stack p.painter sights
can_paint s s' p sights ha config most can all =
    let held = holds s' sights ha (rw config all) in
    grind (arith, nat_tests, few_views, held)

-- so it is in a call
pub can_paint_served : {s s' : ServerModel} {sid : ℕ} {call : Call} {reply : Reply} {sights : ℕ → Sight}
    {p one : Pixels} → IsServer s → IsServer s' → IsServed sid call reply s s' → IsShown s p one
    → CanServe (screen_of s p) sid call sights → CanRepaint s'.stack one.painter sights
can_paint_served {s} {s'} {sights = sights} {one = one} hb ha served made can =
    can_paint s s' one sights ha (same_config served) (same_most hb ha served) made.pixels.0 can.glasses

-- a frame can be made of what was loaded
pub can_show_loaded : {source : ℕ → PixelSource} {chosen : ℕ → Bool} {sights sights' : ℕ → Sight} (s s' : ServerModel)
    (p : Pixels) (painter : Painter) → s'.config ≡ s.config → s'.stack.most ≡ s.stack.most
    → IsRepaint source chosen sights sights' p.painter painter → CanShowBy s p
    → CanShowBy s' (record p { painter = painter })
can_show_loaded s s' p painter config most loads can =
    can_still s s' p painter config most loads.kept.count
    (repainted_words _ _ _ _ _ _ _ loads.kept.count loads.painted can.words) loads.kept.room can

-- ---- what is left

module _ {sights sights' : ℕ → Sight} {sid : ℕ} {call : Call} {reply : Reply} {s s' : ServerModel} {p one : Pixels}
    {painter : Painter} {now : Pixels} (made : IsShown s p one) (served : IsServed sid call reply s s')
    (painted : Painted (state_of s) (entry.Call sid call reply) (state_of s') sights sights' one.painter.raw.items
    painter.raw.items) (shown : IsShown s' (record one { painter = painter }) now) where
  pub all_shown : ArePixels s' now × IsCallShown sid call reply sights sights' (screen_of s p) (screen_of s' now)
  all_shown =
      let there = entry_painted_in one.is_apart one.bar (state_of s) (entry.Call sid call reply) (state_of s')
      (rw (same_config served) made.pixels.0.bar) painted in
      (shown.pixels, record { served = served; painted = rw (shown.raw, ← made.raw) there })

-- ---- what is shown

-- in mode Flat one list was the frame of what was loaded, and in the other modes all was shown again
pub shown_by_mode : (s : ServerModel) (before now : Pixels) → CanShowBy s before
    → (before.is_apart ≡ false → before.is_stale ≡ false)
    → (s.input.mode ≡ Flat → IsFrameOf s before) → (s.input.mode ≡ Flat → now ≡ before)
    → (IsTrue (draws_labels s.input.mode) → IsShown s before now) → IsShown s before now
shown_by_mode s before now can one flat same labelled = grind (arith, nat_tests, still_shown)

-- ---- a call on views

module _ (sights sights' : ℕ → Sight) {s s' : ServerModel} {t : StackModel} {sid : ℕ} {call : Call} {reply : Reply}
    {p one : Pixels} {painter : Painter} (hb : IsServer s) (ha : IsServer s') (can : CanServe (screen_of s p) sid call sights)
    (served : IsServed sid call reply s s') (made : IsShown s p one)
    (single : s.input.mode ≡ Flat → one.is_apart ≡ false) (is : t ≡ s'.stack) (kept : KeepsPainter one.painter painter)
  where
    abbrev loaded : Pixels
    loaded = record one { painter = painter }

    -- by the stack that the painter saw
    abbrev Loaded : StackModel → (ℕ → Bool) → Type 0
    Loaded seen chosen = Repainted (pieces.source_of_number seen) chosen (length one.painter.raw.items) sights sights'
        one.painter.raw.items painter.raw.items

    abbrev Done : Pixels → Type 0
    Done now = ArePixels s' now × IsCallShown sid call reply sights sights' (screen_of s p) (screen_of s' now)

    -- the pixels that the call makes dirty were loaded
    module _ {chosen : ℕ → Bool} (other : call ≡ Close → ⊥)
        (is_dirty : (k : ℕ) → chosen k ≡ dirty (state_of s) (entry.Call sid call reply) (state_of s')
        (pixel s.config.width k)) (painted : Loaded s'.stack chosen) where
      loads : IsRepaint (pieces.source_of_number s'.stack) chosen sights sights' one.painter painter
      loads = record { painted = painted; kept = kept }

      dirty_painted : Painted (state_of s) (entry.Call sid call reply) (state_of s') sights sights'
          one.painter.raw.items painter.raw.items
      dirty_painted = rw (← made.pixels.0.pixels) (repainted_same _ _ _ _ _ _ _ _ _ _ _ (λ k l. is_dirty k)
          (λ k l m. source_of_number s' ha k) (λ t. refl) (λ t. refl) painted)

      can_show_call : CanShowBy s' loaded
      can_show_call = can_show_loaded s s' one painter (same_config served) (same_most hb ha served) loads made.pixels.0

      -- in mode Flat the one list is the frame of what was loaded
      flat_frame : s'.input.mode ≡ Flat → IsFrameOf s' loaded
      flat_frame flat fresh =
          let before = made.pixels.0 in
          let config = same_config served in
          let one_ = single (sym (mode_stays other served) ∙ flat) in
          let raw = one.painter.raw.items in
          let raw' = painter.raw.items in
          let long = unbarred_long one.bar raw' (omega (arith, before.fits, kept.count)) ∙ kept.count ∙ before.pixels in
          rw one_ (kept_served s s' sid call reply sights sights' (unbarred one.bar raw)
          (unbarred one.bar raw') raw raw' chosen other served
          (entry_painted_in false one.bar (state_of s) (entry.Call sid call reply) (state_of s')
          (rw config before.bar) dirty_painted) long is_dirty flat
          (one_copied chosen _ one.bar raw raw'
          (λ k l d. false_from_ne_true (nat_lt k one.bar) (λ e.
          let there = bar_first (state_of s) one.bar k (omega (arith, l, long)) before.bar ∙ e in
          let clean = bar_clean (state_of s) (state_of s') sid call reply (pixel s.config.width k) config there in
          let same = is_dirty k in cc))
          (λ k l d. dirty_painted.others k (λ lt. sym (is_dirty k) ∙ d)) kept.count)
          (rw one_ at (made.pixels.1 fresh)))

      -- where labels are drawn, the words of the frame stand apart before the call
      labelled_before : IsTrue (draws_labels s'.input.mode) → one.is_apart ≡ true
      labelled_before m = made.pixels.2 (rw (← mode_stays other served) m)

      frame_before : one.is_stale ≡ false → IsTrue (draws_labels s'.input.mode)
          → one.frame.items ≡ frame (scenery_of (state_of s)) one.painter.raw.items
      frame_before fresh m = rw (labelled_before m) at (made.pixels.1 fresh)

      apart_before : one.is_stale ≡ false → IsTrue (draws_labels s'.input.mode)
          → length one.frame.items ≡ length painter.raw.items
      apart_before fresh m = grind (arith, nat_tests, frame_before, length-frame)

      -- and the labels stand where they stood
      placed_before : (part : Option Rectangle) → IsPartOf part call → one.is_stale ≡ false
          → IsTrue (draws_labels s'.input.mode) → ArePlaced s' one
      placed_before part on fresh m = still_placed s s' one hb ha (same_config served) (served.seats (part_keeps part call on))
          (made.pixels.3 fresh (rw (← mode_stays other served) m))

      -- the chosen pixels of a frame apart were shown again
      part_is_shown : (now : Pixels) (part : Option Rectangle) → IsPartOf part call → one.is_stale ≡ false
          → IsTrue (draws_labels s'.input.mode) → IsPartShown s' chosen loaded now → IsShown s' loaded now
      part_is_shown now part on fresh m e =
          let apart = e.kept.0 ∙ labelled_before m in
          let same = same_scenery s s' sid call reply can.unrefused.accepted served other
          (λ stack. part_stays (layer s.config) sid part call reply stack on) in
          let area = ap (λ (sc : Scenery). sc.width * sc.height) same in
          let long = ap (λ w. length w.items) e.raw ∙ kept.count ∙ made.pixels.0.pixels in
          record {
            pixels = (
              e.can,
              λ f. rw apart (renewed (scenery_of (state_of s)) (scenery_of (state_of s')) chosen one.painter.raw.items
                  now.painter.raw.items one.frame.items now.frame.items (record {
                    size = (ap (λ (sc : Scenery). sc.width) same, ap (λ (sc : Scenery). sc.height) same);
                    count = e.shown.count ∙ ap length (frame_before fresh m)
                        ∙ length-frame (scenery_of (state_of s)) one.painter.raw.items ∙ sym area;
                    set = λ k l d. rw d at (e.shown.words k (omega (arith, l, area, long)));
                    left = λ k l d. rw d at (e.shown.words k (omega (arith, l, area, long)));
                    same = λ k l d. ap (λ (sc : Scenery). shown sc (pixel s'.config.width k)
                        (slice_index now.painter.raw.items k)) same
                        ∙ ap (shown (scenery_of (state_of s)) (pixel s'.config.width k))
                        (ap (λ w. slice_index w.items k) e.raw
                        ∙ dirty_painted.others k (λ lt. sym (is_dirty k) ∙ d));
                  }) (frame_before fresh m)),
              λ d. apart,
              λ f d. rw e.labels (placed_before part on fresh d),
              λ o. e.kept.2 ∙ fresh,
            );
            raw = rw (e.kept.0, e.kept.1, e.raw) refl;
          }

      loaded_shown : (now : Pixels) → (s'.input.mode ≡ Flat → now ≡ loaded)
          → (IsTrue (draws_labels s'.input.mode) → IsShown s' loaded now) → Done now
      loaded_shown now same labelled = all_shown made served dirty_painted
          (shown_by_mode s' loaded now can_show_call made.pixels.4 flat_frame same labelled)

      -- a frame that is still to be made stays so
      stale_shown : one.is_stale ≡ true → IsTrue (draws_labels s'.input.mode) → IsShown s' loaded loaded
      stale_shown stale m = still_shown s' loaded (
        can_show_call,
        λ f. absurd (false≢true (sym f ∙ stale)),
        labelled_before,
        λ f. absurd (false≢true (sym f ∙ stale)),
        made.pixels.4,
      )

    -- what a view owned before a call on it, or owns after it, was loaded
    pub view_call : {handle slot place : ℕ} {rect : Rectangle} → IsOn handle call
        → IsNamedBy slot sid handle s.stack.views → place ≡ place_of slot s.stack.views
        → (a : SlotView) × (slot_view_in slot s.stack.views ≡ Some a) × (a.view.rect ≡ rect)
        → ((before : StackModel) → IsViewChange slot place rect before t
        → Loaded t (λ k. slot_owns_either slot before t (pixel t.width k)))
        → CanShowBy s' loaded × ((now : Pixels) → (s'.input.mode ≡ Flat → now ≡ loaded)
        → (IsTrue (draws_labels s'.input.mode) → IsShown s' loaded now) → Done now)
    view_call {handle} {slot} {place} {rect} on by place_ seat painted =
        let none = can.unrefused.accepted in
        let other : call ≡ Close → ⊥ = λ q. subst (IsOn handle) q on in
        let is_dirty = dirty_by_change s s' sid handle slot call reply hb ha none served on by in
        let seen = (rw is at painted) s.stack
        (rw (place_, ← seat.2) (change_of_call s s' sid handle slot call reply seat.0 hb ha none served on by seat.1)) in
        (can_show_call other is_dirty seen, loaded_shown other is_dirty seen)

    -- what is wanted of a session's views was loaded
    pub part_call : (part : Option Rectangle) → IsPartOf part call → Loaded t (λ k. wanted sid part t (pixel t.width k))
        → CanShowBy s' loaded
        × (one.is_stale ≡ false → IsTrue (draws_labels s'.input.mode)
        → length one.frame.items ≡ length painter.raw.items)
        × (one.is_stale ≡ false → IsTrue (draws_labels s'.input.mode) → ArePlaced s' loaded)
        × ((now : Pixels) → (s'.input.mode ≡ Flat → now ≡ loaded) → (one.is_stale ≡ true → now ≡ loaded)
        → (one.is_stale ≡ false → IsTrue (draws_labels s'.input.mode)
        → IsPartShown s' (λ k. wanted sid part s'.stack (pixel s'.stack.width k)) loaded now) → Done now)
    part_call part on painted =
        let other : call ≡ Close → ⊥ = λ q. subst (IsPartOf part) q on in
        let is_dirty = dirty_by_views s s' sid part call reply ha can.unrefused.accepted served on in
        let seen = rw is at painted in (
          can_show_call other is_dirty seen,
          apart_before other is_dirty seen,
          placed_before other is_dirty seen part on,
          λ now flat stays labelled. loaded_shown other is_dirty seen now flat
              (λ m. elim (cases_Bool one.is_stale) [
                | inl stale ↦ rw (stays stale) (stale_shown other is_dirty seen stale m)
                | inr fresh ↦ part_is_shown other is_dirty seen now part on fresh m (labelled fresh m)
              ]),
        )

-- ---- a session closes

pub close_call : {sights sights' : ℕ → Sight} {sid : ℕ} {s s' : ServerModel} {p : Pixels} {painter : Painter}
    (mid : ServerModel) → IsServer s → IsServer s' → CanServe (screen_of s p) sid Close sights → ArePixels s p
    → sid < length mid.sessions → without_views sid mid ≡ without_views sid s → s' ≡ with_ended sid status.Closed mid
    → IsRepaint (pieces.source_of_number (without_session sid s.stack))
    (λ k. owner_passes (is_of_session sid) s.stack (pixel s.stack.width k)) sights sights' p.painter painter
    → CanShowBy s' (record p { painter = painter })
    × ((now : Pixels) → IsShown s' (record p { painter = painter }) now
    → ArePixels s' now × IsCallShown sid Close reply.Done sights sights' (screen_of s p) (screen_of s' now))
close_call {sid = sid} {s = s} {s' = s'} {p = p} {painter = painter} mid hb ha can screen within left now loaded =
    let is = ended_server sid status.Closed s mid s' can.unrefused.session within left now in
    let served : IsServed sid Close reply.Done s s' = rw is (closed s sid can.unrefused.accepted) in
    let painted = ended_painted s s' sid status.Closed _ _ _ p.painter.raw.items painter.raw.items hb ha is
    screen.0.pixels loaded.painted in (
      can_show_loaded s s' p painter (ap (λ (t : ServerModel). t.config) is)
          (ap (λ (t : ServerModel). t.stack.most) is) loaded screen.0,
      λ after' shown. all_shown (still_shown s p screen) served painted shown,
    )

-- ==== A call was served that makes no pixel dirty, and all is shown.

module _ {s s' : ServerModel} (p : Pixels) {sid : ℕ} {call : Call} {r : Reply} (hb : IsServer s)
    (ha : IsServer s') (can : CanAccept s sid call) (served : IsServed sid call r s s') (h : ArePixels s p) where
  can_be_shown : CanShowBy s' p
  can_be_shown = can_stay s s' p (same_config served) (same_most hb ha served) h.0

  pub quiet_shown : IsQuiet call → IsShown s' p p
  quiet_shown quiet =
      let same = same_scenery s s' sid call r can.accepted served (λ q. subst IsQuiet q quiet)
      (λ stack. quiet_stays (layer s.config) sid call r stack quiet) in
      still_shown s' p (
        can_be_shown,
        λ f. h.1 f ∙ ap (λ (sc : Scenery). frame sc (raw_of p)) (sym same),
        λ d. h.2 (rw (← ap (λ (sc : Scenery). sc.mode) same) d),
        λ f d. still_placed s s' p hb ha (same_config served) (served.seats (quiet_keeps call quiet))
            (h.3 f (rw (← ap (λ (sc : Scenery). sc.mode) same) d)),
        h.4,
      )

  -- the titles or the number of the views may be others, which mode Flat does not show
  pub clean_shown : (now : Pixels) → IsClean call → (s'.input.mode ≡ Flat → now ≡ p)
      → (IsTrue (draws_labels s'.input.mode) → IsShown s' p now) → IsShown s' p now
  clean_shown now clean =
      let none : ℕ → Sight = λ t. no_sight in
      let no_pixel = λ (p : Point). clean_call (state_of s) (state_of s') sid call r p clean in
      shown_by_mode s' p now can_be_shown h.4
      (λ m f. kept_served s s' sid call r none none (raw_of p) (raw_of p) (kept_frame p) (kept_frame p) (λ k. false)
      (λ q. subst IsClean q clean) served
      (unpainted (state_of s) (entry.Call sid call r) (state_of s') no_pixel)
      (raw_long p.is_apart p.bar p.painter.raw.items h.0.fits ∙ h.0.pixels)
      (λ k. sym (no_pixel (pixel s.config.width k))) m
      (nothing_set (λ k. false) (length (raw_of p)) (slice_index (raw_of p)) (kept_frame p) (λ k l. refl)) (h.1 f))
