-- A kept frame stays the frame of the state and of the raw words.
use Rattle.nit_screen.proofs.Basics.{Agrees, AreInked, AreSet, Bare, Buffer, Call, CanRepaint}
use Rattle.nit_screen.proofs.Basics.{CanShowBy, Close, Configuration, Device, Entry, Flat}
use Rattle.nit_screen.proofs.Basics.{InputState, IsClean, IsCopied, IsInkedBy, IsPartOf, IsQuiet}
use Rattle.nit_screen.proofs.Basics.{IsRawOf, IsRemovedFrom, IsRepaint, IsServed, IsWord}
use Rattle.nit_screen.proofs.Basics.{IsWordOfSource, Painted, Painter, PixelSource, Pixels, Point}
use Rattle.nit_screen.proofs.Basics.{Rectangle, Refresh, Repainted, Reply, Routed, Scenery}
use Rattle.nit_screen.proofs.Basics.{ServerModel, Sight, Size, StackModel, State, Take, Title}
use Rattle.nit_screen.proofs.Basics.{Upgrade, Word, after, after_accepted, and-false, bar_rows}
use Rattle.nit_screen.proofs.Basics.{bar_word, bare_word, black_or_word, buffer_size, deliveries_of}
use Rattle.nit_screen.proofs.Basics.{dirty, dirty_by_call, flat_same, flat_shown, frame, gone_room}
use Rattle.nit_screen.proofs.Basics.{in_bar, is_accepted, is_slot, layer, length-frame, nat_tests}
use Rattle.nit_screen.proofs.Basics.{other_count, owner, painted_more, pixel, pixel_count, refusal}
use Rattle.nit_screen.proofs.Basics.{renewed, repainted_none, route, same_config, scenery_of, serve}
use Rattle.nit_screen.proofs.Basics.{session, shown, shown_by, shown_index, source_at, source_of}
use Rattle.nit_screen.proofs.Basics.{source_of_number, source_under, state_of, taken_held}
use Rattle.nit_screen.proofs.Basics.{uncovered, wanted, without, without_session}
use Rattle.nit_events.specs.declared.call.Call.TheVariants.{View}
use Rattle.std.proofs.Common.{All, Bool, List, None, Option, Some, ap, arith, false, is_some}
use Rattle.std.proofs.Common.{length, refl, slice_index, slice_index_or, subst, sym, true, ℕ, ◌&&◌}
use Rattle.std.proofs.Common.{◌*◌, ◌+◌, ◌<◌, ◌∙◌, ◌≡◌}
use Rattle.nit_stack.specs.declared.view.View.{View as ViewOf}
use Rattle.nit_screen.proofs.CleanCalls.{call_is_clean, deliveries_are_clean, stack_called}
use Rattle.nit_screen.proofs.CleanCalls.{unrefused_reply}
use Rattle.nit_events.specs.declared.entry.Entry.TheVariants as entry

-- ---- owners and sources

abbrev has_owner : PixelSource → Bool
has_owner Bare = false
has_owner other = true

owned_source : (sizes : ℕ → Size) (p : Point) (o : Option ViewOf) → is_some o ≡ has_owner (source_under sizes p o)
owned_source sizes p None = refl
owned_source sizes p (Some v) =
    elim (shown_index (sizes v.sid) v p) as (λ i. true ≡ has_owner (black_or_word v.sid i))
    [ None ↦ refl | Some i ↦ refl ]

-- whether a pixel has an owner, by its source
owned : (t : State) (p : Point) → is_some (owner (bar_rows t.config) t.stack p) ≡ has_owner (source_of t p)
owned t p = owned_source (buffer_size t.sessions) p (owner (bar_rows t.config) t.stack p)

-- in mode Flat, below the bar, a pixel's raw word is shown, where it is the bare one if no view has the pixel
pub flat_word : (s : State) (p : Point) (w : ℕ) → s.input.mode ≡ Flat → in_bar (bar_rows s.config) p ≡ false
    → (source_of s p ≡ Bare → w ≡ bare_word) → shown (scenery_of s) p w ≡ w
flat_word s p w flat below bare = grind (arith, nat_tests, flat_shown)

-- a pixel that is bare and was loaded has the bare word
pub painted_bare : (source : ℕ → PixelSource) (marked : ℕ → Bool) (n : ℕ) (a b : ℕ → Sight) (raw raw' : List ℕ) (k : ℕ)
    → Repainted source marked n a b raw raw' → k < n → marked k ≡ true → source k ≡ Bare
    → slice_index raw' k ≡ bare_word
painted_bare source marked n a b raw raw' k p l m bare = rw bare at (p.marked k l m).0

-- ---- no call makes a pixel of the bar dirty

pub bar_clean : (s s' : State) (sid : ℕ) (call : Call) (r : Reply) (p : Point) → s'.config ≡ s.config
    → in_bar (bar_rows s.config) p ≡ true → dirty s (entry.Call sid call r) s' p ≡ false
bar_clean s s' sid call r p same e = ap (λ (b : Bool). is_accepted r && b) (no_call call) ∙ and-false (is_accepted r)
  where
    no_call : (c : Call) → dirty_by_call sid c s s' p ≡ false
    no_call View = refl
    no_call (Title v text) = refl
    no_call Take = refl
    no_call (Upgrade n) = refl
    no_call Close = rw e
    no_call other = simp (same, e)

-- ---- one call

-- no call but `Close` changes the input
pub still : (s : State) (sid : ℕ) (c : Call) (r : Reply) → (c ≡ Close → ⊥)
    → (after s (entry.Call sid c r)).input ≡ s.input
still s sid Close r other = absurd (other refl)
still s sid c r other = refl

-- in mode Flat, where the dirty pixels were set to their raw words, the frame stays the one of the state and of these
abbrev pub KeepsFlat : State → Entry → State → (ℕ → Sight) → (ℕ → Sight) → List ℕ → List ℕ → List ℕ → List ℕ
    → (ℕ → Bool) → Type 0
KeepsFlat s e s' glasses glasses' raw raw' old new chosen =
    Painted s e s' glasses glasses' raw raw' → length raw' ≡ pixel_count s
    → ((k : ℕ) → chosen k ≡ dirty s e s' (pixel s.config.width k))
    → s'.input.mode ≡ Flat → IsCopied chosen (length raw') raw' old new
    → old ≡ frame (scenery_of s) raw → new ≡ frame (scenery_of s') raw'

kept_call : (s : State) (sid : ℕ) (call : Call) (r : Reply) (glasses glasses' : ℕ → Sight)
    (raw raw' old new : List ℕ) (chosen : ℕ → Bool) → (call ≡ Close → ⊥) → r ≡ (serve (session s sid) call).reply
    → KeepsFlat s (entry.Call sid call r) (after s (entry.Call sid call r)) glasses glasses' raw raw' old new chosen
kept_call s sid call r glasses glasses' raw raw' old new chosen other replied painted many same flat copied was =
    renewed (scenery_of s) (scenery_of s') chosen raw raw' old new (record {
      size = (refl, refl);
      count = copied.count ∙ ap length was ∙ length-frame (scenery_of s) raw;
      set = λ k l d. rw d at (copied.words k (omega (arith, l, many)))
          ∙ sym (dirty_shown k l (sym (same k) ∙ d) _ refl);
      left = λ k l d. rw d at (copied.words k (omega (arith, l, many)));
      same = λ k l d. clean_shown k (sym (same k) ∙ d) _ refl;
    }) was
  where
    s' : State
    s' = after s (entry.Call sid call r)

    input_ : s'.input ≡ s.input
    input_ = still s sid call r other

    dirty_shown : (k : ℕ) → k < pixel_count s → dirty s (entry.Call sid call r) s' (pixel s.config.width k) ≡ true
        → (b : Bool) → in_bar (bar_rows s.config) (pixel s.config.width k) ≡ b
        → shown (scenery_of s') (pixel s.config.width k) (slice_index raw' k) ≡ slice_index raw' k
    dirty_shown k l d true b = let no = bar_clean s s' sid call r (pixel s.config.width k) refl b in cc
    dirty_shown k l d false b = grind (arith, nat_tests, flat_word, s', painted_bare)

    clean_shown : (k : ℕ) → dirty s (entry.Call sid call r) s' (pixel s.config.width k) ≡ false
        → (b : Bool) → in_bar (bar_rows s.config) (pixel s.config.width k) ≡ b
        → shown (scenery_of s') (pixel s.config.width k) (slice_index raw' k)
        ≡ shown (scenery_of s) (pixel s.config.width k) (slice_index raw k)
    clean_shown k d true b = rw b (λ i. bar_word (record (scenery_of s) {
      mode = (input_ i).mode;
      focus = (input_ i).focus;
    }) (pixel s.config.width k))
    clean_shown k d false b =
        let p = pixel s.config.width k in
        ap (shown (scenery_of s') p) (painted.others k (λ lt. d))
        ∙ flat_same (scenery_of s) (scenery_of s') p (slice_index raw k)
        (sym (ap (λ (i : InputState). i.mode) input_) ∙ flat) flat refl b
        (owned s' p ∙ ap has_owner (call_is_clean s sid call r p replied d) ∙ sym (owned s p))

-- ---- a call at a server

pub kept_served : (before after' : ServerModel) (sid : ℕ) (call : Call) (r : Reply) (glasses glasses' : ℕ → Sight)
    (raw raw' old new : List ℕ) (chosen : ℕ → Bool) → (call ≡ Close → ⊥) → IsServed sid call r before after'
    → KeepsFlat (state_of before) (entry.Call sid call r) (state_of after') glasses glasses' raw raw' old new chosen
kept_served before after' sid call r glasses glasses' raw raw' old new chosen other served =
    let s = state_of before in
    subst (λ (t : State). KeepsFlat s (entry.Call sid call r) t glasses glasses' raw raw' old new chosen)
    (sym served.state)
    (kept_call s sid call r glasses glasses' raw raw' old new chosen other served.replied)

-- a call that leaves the stack and the input leaves all that is shown
pub same_scenery : (before after' : ServerModel) (sid : ℕ) (call : Call) (r : Reply)
    → refusal (session (state_of before) sid) call ≡ None → IsServed sid call r before after' → (call ≡ Close → ⊥)
    → ((stack : List ViewOf) → after_accepted (layer before.config) sid call r stack ≡ stack)
    → scenery_of (state_of after') ≡ scenery_of (state_of before)
same_scenery before after' sid call r none served other stays =
    let s = state_of before in
    let yes_ = ap is_accepted served.replied ∙ unrefused_reply (session s sid) call none in
    let stack_ = stack_called (layer s.config) sid call r s.stack yes_ ∙ stays s.stack in
    let input_ = still s sid call r other in
    ap scenery_of served.state
    ∙ (λ i. record (scenery_of s) { stack = stack_ i; mode = (input_ i).mode; focus = (input_ i).focus })

pub part_stays : (layers : ℕ → ℕ) (sid : ℕ) (part : Option Rectangle) (call : Call) (r : Reply) (stack : List ViewOf)
    → IsPartOf part call → after_accepted layers sid call r stack ≡ stack
part_stays layers sid part (Buffer w h) r stack on = refl
part_stays layers sid part (Refresh x y w h) r stack on = refl
part_stays layers sid part other r stack on = absurd on

-- ---- what a frame is made by

-- it stays where the server keeps its configuration and its slots, and the words of the pixels were loaded
pub can_still : (s s' : ServerModel) (p : Pixels) (painter : Painter) → s'.config ≡ s.config
    → s'.stack.most ≡ s.stack.most → length painter.raw.items ≡ length p.painter.raw.items
    → All IsWord painter.raw.items → painter.cutter.room ≡ p.painter.cutter.room → CanShowBy s p
    → CanShowBy s' (record p { painter = painter })
can_still s s' p painter config most long words room_ h = grind (arith, nat_tests)

-- and where nothing was loaded
pub can_stay : (s s' : ServerModel) (p : Pixels) → s'.config ≡ s.config
    → s'.stack.most ≡ s.stack.most → CanShowBy s p → CanShowBy s' p
can_stay s s' p config most h = can_still s s' p p.painter config most refl h.words refl h

-- what was shown of a session's views by a look, in the words of the server
pub part_shown : (s : ServerModel) (t : StackModel) (sc : Scenery) (sid : ℕ) (part : Option Rectangle)
    (raw old new : List ℕ) → t ≡ s.stack → sc ≡ scenery_of (state_of s)
    → AreSet (λ k. wanted sid part t (pixel t.width k)) (length raw)
    (λ k. shown sc (pixel sc.width k) (slice_index raw k)) old new
    → AreSet (λ k. wanted sid part s.stack (pixel s.stack.width k)) (length raw) (shown_by (state_of s) raw) old new
part_shown s t sc sid part raw old new e f told =
    rw (e, f) at told

-- ==== A pixel that an entry does not make dirty keeps its source, and what its source allows of its raw word.

-- an entry that agrees keeps every delivery of its device event
abbrev pub DeliveriesFit : Type 0
DeliveriesFit = (s : State) (taken : ℕ) (dev : Device) (routed : Routed) → Agrees s taken (entry.Input dev routed)
    → deliveries_of routed ≡ (route s.config s.input s.stack dev).deliveries

pub keeps_source : DeliveriesFit → (s : State) (taken : ℕ) (e : Entry) (p : Point) → Agrees s taken e
    → dirty s e (after s e) p ≡ false → source_of (after s e) p ≡ source_of s p
keeps_source fit s taken (entry.Call sid call r) p agrees clean = call_is_clean s sid call r p agrees.1 clean
keeps_source fit s taken (entry.Input dev routed) p agrees clean =
    let ds = (route s.config s.input s.stack dev).deliveries in
    deliveries_are_clean ds s p (rw (fit s taken dev routed agrees) at clean)
keeps_source fit s taken (entry.Shot number) p agrees clean = refl
keeps_source fit s taken entry.Final p agrees clean = cc

-- What holds of each pixel's source and raw word, and of every word that may be held by a source, holds again when
-- the dirty pixels were loaded.
pub keeps_each : DeliveriesFit
    → (P : PixelSource → ℕ → Type 0) (s : State) (taken : ℕ) (e : Entry) (glasses glasses' : ℕ → Sight)
    (raw raw' : List ℕ) → Agrees s taken e
    → Painted s e (after s e) glasses glasses' raw raw'
    → ((source : PixelSource) (w : ℕ) → IsWordOfSource glasses source w → P source w)
    → ((k : ℕ) → k < pixel_count s → P (source_at s k) (slice_index_or raw k 0))
    → (k : ℕ) → k < pixel_count (after s e) → P (source_at (after s e) k) (slice_index_or raw' k 0)
keeps_each fit P s taken e glasses glasses' raw raw' agrees painted held before k on_screen =
    whether_dirty (dirty s e (after s e) (pixel s.config.width k)) refl
  where
    within : k < pixel_count s
    within = rw (same_config s e) at on_screen

    here : pixel (after s e).config.width k ≡ pixel s.config.width k
    here = ap (λ (config : Configuration). pixel config.width k) (same_config s e)

    whether_dirty : (b : Bool) → dirty s e (after s e) (pixel s.config.width k) ≡ b
        → P (source_at (after s e) k) (slice_index_or raw' k 0)
    whether_dirty true d = held (source_at (after s e) k) (slice_index_or raw' k 0) (painted.marked k within d).0
    whether_dirty false d =
        let same : source_at (after s e) k ≡ source_at s k = ap (source_of (after s e)) here
        ∙ keeps_source fit s taken e (pixel s.config.width k) agrees d in
        let as_before : slice_index_or raw' k 0 ≡ slice_index_or raw k 0 = painted.others k (λ lt. d) in
        rw (same, as_before) (before k within)

-- ==== What a load gives, and that loads leave the inks as they are.

pub held_is_raw : (glasses : ℕ → Sight) (source : PixelSource) (w : ℕ) → IsWordOfSource glasses source w
    → IsRawOf source w
held_is_raw glasses (Word t i) w h = h.fits
held_is_raw glasses other w h = h

-- by glasses of the same inks
same_inks : (glasses glasses' : ℕ → Sight) → ((t : ℕ) → (glasses' t).ink ≡ (glasses t).ink)
    → (source : PixelSource) (w : ℕ) → IsInkedBy glasses source w → IsInkedBy glasses' source w
same_inks glasses glasses' same (Word t i) w h = rw (same t) h
same_inks glasses glasses' same other w h = h

held_is_inked : (glasses : ℕ → Sight) (source : PixelSource) (w : ℕ) → IsWordOfSource glasses source w
    → IsInkedBy glasses source w
held_is_inked glasses (Word t i) w h = h.inked
held_is_inked glasses other w h = tt

pub keeps_inked : DeliveriesFit → (s : State) (taken : ℕ) (e : Entry) (glasses glasses' : ℕ → Sight) (raw raw' : List ℕ)
    → Agrees s taken e
    → Painted s e (after s e) glasses glasses' raw raw' → AreInked s glasses raw → AreInked (after s e) glasses' raw'
keeps_inked fit s taken e glasses glasses' raw raw' agrees painted before k on_screen =
    let same : (t : ℕ) → (glasses' t).ink ≡ (glasses t).ink =
    λ t. ap (λ (sight : Sight). sight.ink) (painted.sights t) in
    same_inks glasses glasses' same (source_at (after s e) k) (slice_index_or raw' k 0)
    (keeps_each fit (IsInkedBy glasses) s taken e glasses glasses' raw raw' agrees painted (held_is_inked glasses)
    before k on_screen)

-- ==== Calls that make nothing dirty paint nothing.

pub clean_call : (before after' : State) (sid : ℕ) (call : Call) (r : Reply) (p : Point) → IsClean call
    → dirty before (entry.Call sid call r) after' p ≡ false
clean_call before after' sid View r p is = and-false (is_accepted r)
clean_call before after' sid (Title v text) r p is = and-false (is_accepted r)
clean_call before after' sid other r p is = absurd is

pub quiet_call : (before after' : State) (sid : ℕ) (call : Call) (r : Reply) (p : Point) → IsQuiet call
    → dirty before (entry.Call sid call r) after' p ≡ false
quiet_call before after' sid Take r p is = and-false (is_accepted r)
quiet_call before after' sid (Upgrade n) r p is = and-false (is_accepted r)
quiet_call before after' sid other r p is = absurd is

pub quiet_stays : (layers : ℕ → ℕ) (sid : ℕ) (call : Call) (r : Reply) (stack : List ViewOf) → IsQuiet call
    → after_accepted layers sid call r stack ≡ stack
quiet_stays layers sid Take r stack is = refl
quiet_stays layers sid (Upgrade n) r stack is = refl
quiet_stays layers sid other r stack is = absurd is

-- ==== What a painter loads again, told by one record.

-- a painter can still load where one more view is gone
pub can_paint_gone : (sights : ℕ → Sight) (s s' : StackModel) (k : ℕ) (p : Painter)
    → s' ≡ record s { views = without (is_slot k) s.views } → CanRepaint s p sights → CanRepaint s' p sights
can_paint_gone sights s s' k p now can =
    rw now (record { room = rw now at (gone_room s s' k _ now can.room); pixels = can.pixels; held = can.held })

-- nothing is loaded
pub no_repaint : {source : ℕ → PixelSource} {chosen : ℕ → Bool} {sights : ℕ → Sight} {p : Painter}
    → ((k : ℕ) → chosen k ≡ false) → IsRepaint source chosen sights sights p p
no_repaint {source} {chosen} {p = p} none = record {
  painted = repainted_none source chosen (length p.raw.items) _ p.raw.items (λ k l. none k);
  kept = record { count = refl; room = refl };
}

-- one more view of a session is taken away
pub repaint_more : {of i : ℕ} {before now next : StackModel} {x y z : ℕ → Sight} {p q r : Painter}
    → IsRemovedFrom of (i + 1) before now → IsRemovedFrom of i now next
    → IsRepaint (source_of_number (without_session of before)) (λ k. uncovered of before now (pixel before.width k)) x y
    p q
    → IsRepaint (source_of_number (without_session of now)) (λ k. uncovered of now next (pixel now.width k)) y z q r
    → IsRepaint (source_of_number (without_session of before)) (λ k. uncovered of before next (pixel before.width k)) x z
    p r
repaint_more {of} {i} {before} {now} {next} first then one two = record {
  painted = painted_more of i _ before now next _ _ _ _ _ _ first then one.painted
      (other_count _ _ _ _ _ _ _ _ one.kept.count two.painted);
  kept = record { count = two.kept.count ∙ one.kept.count; room = two.kept.room ∙ one.kept.room };
}

-- a painter can still load where views were taken away
pub can_paint_rest : {of i : ℕ} {before now : StackModel} {source : ℕ → PixelSource} {chosen : ℕ → Bool}
    {x y : ℕ → Sight} {p q : Painter} → IsRemovedFrom of i before now → IsRepaint source chosen x y p q
    → CanRepaint before p x → CanRepaint now q y
can_paint_rest {of} {i} {before = before} {now = now} taken one can = record {
  room = let m = one.kept.room in let n = taken.fewer in let l = can.room in omega (arith, m, n, l);
  pixels = one.kept.count ∙ can.pixels ∙ ap (λ (t : StackModel). t.width * t.height) (sym taken.rest);
  held = taken_held of i before now _ _ one.painted.loads taken one.painted.sights can.held;
}
