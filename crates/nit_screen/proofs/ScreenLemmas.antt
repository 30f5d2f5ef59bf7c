-- A stack has room for its views, and as much after a call.
use Rattle.nit_screen.proofs.Basics.{Lettering}
use Rattle.nit_screen.proofs.Basics.{All-head, All-tail, AllByRecursion, All_found, AreBelowNext}
use Rattle.nit_screen.proofs.Basics.{AreGlasses, AreLabelled, AreLive, ArePlaced, AreRaw, Call}
use Rattle.nit_screen.proofs.Basics.{CanShow, CanShowBy, Configuration, Delivery, Device, Entry}
use Rattle.nit_screen.proofs.Basics.{HoldBuffers, InputState, IsForgottenIfKilled, IsKillAlone}
use Rattle.nit_screen.proofs.Basics.{IsLive, IsServed, IsServer, IsSlotView, IsStack, Item, NoPair}
use Rattle.nit_screen.proofs.Basics.{Painted, PixelSource, Pixels, Point, Repainted, Reply, Routed}
use Rattle.nit_screen.proofs.Basics.{Routing, ServerModel, Session, Sight, SlotView, StackModel}
use Rattle.nit_screen.proofs.Basics.{State, Status, View, after, bar_rows, buffer_size, by_life}
use Rattle.nit_screen.proofs.Basics.{cases_lt, covers, deliveries_of, dirty, false_from_ne_true}
use Rattle.nit_screen.proofs.Basics.{first_session, forget, forgotten_again, found_passes}
use Rattle.nit_screen.proofs.Basics.{found_some, get_or_past, is_kill, is_killed, is_session}
use Rattle.nit_screen.proofs.Basics.{killed_by, killed_in, kills, length-le_from_distinct_below}
use Rattle.nit_screen.proofs.Basics.{length-map, list_any, list_any-map, loads_at, map-set, member}
use Rattle.nit_screen.proofs.Basics.{nat_tests, no_size, opened, owner_of, pixel, pixel_count}
use Rattle.nit_screen.proofs.Basics.{repainted_none, repainted_same, route, routed_as, routing_of}
use Rattle.nit_screen.proofs.Basics.{same_slot, seen, seen_none, session, session_in, session_owns}
use Rattle.nit_screen.proofs.Basics.{size_of_buffer, source, source_at, source_of, state_of}
use Rattle.nit_screen.proofs.Basics.{sum_by-cons, times_shown, unless_it_is, views_closed, views_of}
use Rattle.nit_screen.proofs.Basics.{with_ended, with_opened, with_reopened, with_routed, without}
use Rattle.nit_screen.proofs.Basics.{word_count}
use Rattle.std.proofs.Common.{All, Bool, IfSome, List, None, Option, Some, [], ap, arith, cond, eqb}
use Rattle.std.proofs.Common.{eqb-true, ext_get_or, false, get_or-set_other, get_or-set_same, inl}
use Rattle.std.proofs.Common.{inr, length, map, ne_eqb, refl, set, set-set, suc, sym, true}
use Rattle.std.proofs.Common.{vec_capacity, zero, ℕ, ◌<◌, ◌==◌, ◌||◌, ◌∙◌, ◌∷◌, ◌≡◌, ◌≢◌, ◌≤◌}
use Rattle.std.specs.List.{IsDistinct}
use Rattle.nit_screen.proofs.OneViewChanges.{size_at, source_of_number}
use Rattle.nit_screen.proofs.CleanCalls.{alike_at, by_other_sizes, others_stay, owner_spared}
use Rattle.nit_screen.proofs.CleanCalls.{size_of}
use Rattle.nit_events.specs.declared.entry.Entry.TheVariants as entry
use Rattle.nit_paint.specs.Pieces as pieces
use Rattle.nit_events.specs.declared.event.Item.TheVariants as item
use Rattle.nit_events.specs.declared.event.Status.TheVariants as status

slots_apart : (views : List SlotView) → NoPair same_slot views → IsDistinct eqb (map (λ (s : SlotView). s.slot) views)
unfolding IsDistinct
slots_apart [] h = tt
slots_apart (x ∷ views) h = (apart views h.0, slots_apart views h.1)
  where
    apart : (ys : List SlotView) → list_any (same_slot x) ys ≡ false
        → AllByRecursion (λ (k : ℕ). eqb x.slot k ≡ false) (map (λ (s : SlotView). s.slot) ys)
    apart [] e = tt
    apart (y ∷ ys) e = (grind (arith, nat_tests, e), apart ys (grind (arith, e)))

pub few_views : (s : StackModel) → IsStack s → length s.views ≤ s.most
few_views s h =
    let n = length-map s.views (λ (a : SlotView). a.slot) in
    let m = length-le_from_distinct_below (map (λ (a : SlotView). a.slot) s.views) s.most (slots_apart s.views h.slots)
    (λ q there.
    let is : SlotView → Bool = λ a. eqb q a.slot in
    let f = found_some is s.views (sym (list_any-map (eqb q) (λ (a : SlotView). a.slot) s.views) ∙ there) in
    let seat = All_found (IsSlotView s.most (length s.sizes)) is s.views f.0 h.seats f.1 in
    rw (eqb-true q f.0.slot (found_passes is s.views f.0 f.1)) seat.slot) in
    omega (arith, n, m)

-- the stack has as many slots as before
pub same_most : {before after' : ServerModel} {sid : ℕ} {call : Call} {r : Reply} → IsServer before → IsServer after'
    → IsServed sid call r before after' → after'.stack.most ≡ before.stack.most
same_most hb ha s = grind (arith, nat_tests)

-- ==== What a call does to a screen.

-- an entry that makes nothing dirty
pub unpainted : (s : State) (e : Entry) (s' : State) {glasses : ℕ → Sight} {raw : List ℕ}
    → ((p : Point) → dirty s e s' p ≡ false) → Painted s e s' glasses glasses raw raw
unpainted s e s' clean = repainted_none _ _ _ _ _ (λ k l. clean (pixel s.config.width k))

-- ---- the glasses

-- the configuration stays
pub same_config : {sid : ℕ} {call : Call} {r : Reply} {before after' : ServerModel} → IsServed sid call r before after'
    → after'.config ≡ before.config
same_config s = ap (λ (t : State). t.config) s.state

-- places of labels stay right where the views and the screen stay
labelled_still : (l : Lettering) (t t' : StackModel) (labels : List (List ℕ)) (places : List (Option Point)) → t'.views ≡ t.views
    → t'.width ≡ t.width → t'.height ≡ t.height → t'.bar ≡ t.bar
    → AreLabelled l t labels places → AreLabelled l t' labels places
labelled_still l t t' labels places views width height bar h = rw (views, width, height, bar) h

pub still_placed : (s s' : ServerModel) (p : Pixels) → IsServer s → IsServer s' → s'.config ≡ s.config
    → s'.stack.views ≡ s.stack.views → ArePlaced s p → ArePlaced s' p
still_placed s s' p hb ha config views h =
    rw (ap (λ (c : Configuration). c.lettering) config)
    (labelled_still s.config.lettering s.stack s'.stack p.labels.texts.items p.labels.places.items views
    (ha.screen.0 ∙ ap (λ (c : Configuration). c.width) config ∙ sym hb.screen.0)
    (ha.screen.1 ∙ ap (λ (c : Configuration). c.height) config ∙ sym hb.screen.1)
    (ha.screen.2 ∙ ap (λ (c : Configuration). bar_rows c) config ∙ sym hb.screen.2) h)

-- each session has a word for each of its buffer's
pub holds : (s : ServerModel) (sights : ℕ → Sight) → IsServer s → AreGlasses s.config sights → HoldBuffers s.stack sights
holds s sights h all t = elim (cases_lt t (length s.stack.sizes)) [
  | inl l ↦
      let sessions_ = rw (ap length h.sizes ∙ length-map s.sessions size_of_buffer) at l in
      rw (ap word_count (size_at s h t), (all t (rw h.each at sessions_)).1) (h.within t sessions_)
  | inr past ↦ rw (get_or_past s.stack.sizes t no_size past) (omega arith)
]

-- all pixels loaded again are those of the last picture
pub painted_whole : (s : ServerModel) (n : ℕ) (glasses glasses' : ℕ → Sight) (raw raw' : List ℕ) → IsServer s
    → n ≡ pixel_count (state_of s)
    → Repainted (pieces.source_of_number s.stack) (λ k. true) n glasses glasses' raw raw'
    → Painted (state_of s) entry.Final (state_of s) glasses glasses' raw raw'
painted_whole s n glasses glasses' raw raw' h count painted =
    rw (← count) (repainted_same _ _ _ _ n glasses glasses glasses' glasses' raw raw' (λ k l. refl)
    (λ k l m. source_of_number s h k) (λ t. refl) (λ t. refl) painted)

-- ==== What a device event does to a screen.

-- ---- which session is killed

abbrev pub kill_of : ℕ → Delivery
kill_of sid = record { sid = sid; item = item.Kill }

-- the first delivery is the kill of this session
first_kills : (d : Delivery) (sid : ℕ) → killed_by d.sid d.item ≡ Some sid → d ≡ kill_of sid
first_kills d sid e = by_item d.item e
  where
    by_item : (i : Item) → killed_by d.sid i ≡ Some sid → record { sid = d.sid; item = i } ≡ kill_of sid
    by_item item.Kill e = let same : d.sid ≡ sid = cc in ap kill_of same
    by_item (item.Event x) e = cc

-- it is the only delivery
pub killed_alone : (ds : List Delivery) (sid : ℕ) → IsKillAlone ds → killed_in (routed_as ds).a ≡ Some sid
    → ds ≡ kill_of sid ∷ []
killed_alone [] sid alone e = cc
killed_alone (d ∷ []) sid alone e = ap (λ (x : Delivery). x ∷ []) (first_kills d sid e)
killed_alone (d ∷ f ∷ []) sid alone e = let more = alone (rw (first_kills d sid e)) in cc
killed_alone (d ∷ f ∷ g ∷ ds) sid alone e = let more = alone (rw (first_kills d sid e)) in cc

pub none_killed : (ds : List Delivery) → IsKillAlone ds → killed_in (routed_as ds).a ≡ None → kills ds ≡ false
none_killed [] alone e = refl
none_killed (d ∷ []) alone e = grind (arith, e)
none_killed (d ∷ f ∷ ds) alone e = false_from_ne_true (kills (d ∷ f ∷ ds)) (λ k. let more = alone k in cc)

-- by a law on kills
module _ (law : (config : Configuration) (i : InputState) (stack : List View) (dev : Device)
    → IsKillAlone (route config i stack dev).deliveries) (s : ServerModel) (dev : Device) {routed : Routed}
    (is : routed ≡ routed_as (routing_of s dev).deliveries) {o : Option ℕ} (found : o ≡ killed_in routed.a) where
  pub kill_alone : {sid : ℕ} → o ≡ Some sid → (routing_of s dev).deliveries ≡ kill_of sid ∷ []
  kill_alone {sid} e = killed_alone _ sid (law s.config s.input (views_of s.stack.views) dev)
      (ap (λ (r : Routed). killed_in r.a) (sym is) ∙ sym found ∙ e)

  pub no_kill : o ≡ None → kills (routing_of s dev).deliveries ≡ false
  no_kill e = grind (arith, nat_tests, none_killed)

-- ---- nobody is killed

pub none_dirty : (s : State) (p : Point) (ds : List Delivery) → kills ds ≡ false
    → list_any (λ d. is_killed s p d.sid d.item) ds ≡ false
none_dirty s p [] e = refl
none_dirty s p (d ∷ ds) e = one d.item e (none_dirty s p ds)
  where
    one : (i : Item) → (is_kill i || kills ds) ≡ false
        → (kills ds ≡ false → list_any (λ d. is_killed s p d.sid d.item) ds ≡ false)
        → (is_killed s p d.sid i || list_any (λ d. is_killed s p d.sid d.item) ds) ≡ false
    one (item.Event x) f rest = rest f
    one item.Kill f rest = cc

-- ---- a session is killed

pub kill_is_live : (s : ServerModel) (sid : ℕ) (ds : List Delivery) → ds ≡ kill_of sid ∷ []
    → All (λ d. IsLive (state_of s) d.sid) ds → IsLive (state_of s) sid
kill_is_live s sid ds alone live = grind (arith, nat_tests, All-head)

pub killed_state : (s mid s' : ServerModel) (dev : Device) (routed : Routed) (sid : ℕ) → mid ≡ with_routed dev s
    → s' ≡ with_ended sid status.Killed mid → deliveries_of routed ≡ (routing_of s dev).deliveries
    → (routing_of s dev).deliveries ≡ kill_of sid ∷ []
    → All (λ d. IsLive (state_of s) d.sid) (routing_of s dev).deliveries
    → All (λ d. IsForgottenIfKilled mid.input d.sid d.item) (deliveries_of routed)
    → state_of s' ≡ after (state_of s) (entry.Input dev routed)
killed_state s mid s' dev routed sid first second all alone live forgotten =
    let r : Routing = routing_of s dev in
    let lives : IsLive (state_of s) sid = kill_is_live s sid r.deliveries alone live in
    let machine = ap (λ (st : Status). by_life st item.Kill (session_in s.sessions sid)) lives.1 in
    let input = forgotten_again r.state sid (All-head (λ d. IsForgottenIfKilled r.state d.sid d.item) _ []
    (rw (all ∙ alone) at (rw first at forgotten))) in
    rw (second, first, alone, machine, views_closed sid s.stack.views, input)

-- they are those that the entry makes dirty
pub killed_painted : (s mid s' : ServerModel) (dev : Device) (routed : Routed) (sid : ℕ) (glasses glasses' : ℕ → Sight)
    (raw raw' : List ℕ) → mid ≡ with_routed dev s → deliveries_of routed ≡ kill_of sid ∷ []
    → Repainted (source_at (state_of s')) (λ k. session_owns sid (state_of mid) (pixel mid.config.width k))
    (pixel_count (state_of mid)) glasses glasses' raw raw'
    → Painted (state_of s) (entry.Input dev routed) (state_of s') glasses glasses' raw raw'
killed_painted s mid s' dev routed sid glasses glasses' raw raw' first alone painted =
    repainted_same _ _ _ _ (pixel_count (state_of s)) glasses glasses glasses' glasses' raw raw'
    (λ k l. is_dirty (pixel s.config.width k)) (λ k l m. refl) (λ t. refl) (λ t. refl)
    (rw first at painted)
  where
    is_dirty : (p : Point) → session_owns sid (state_of s) p ≡ dirty (state_of s) (entry.Input dev routed) (state_of s')
        p
    is_dirty p = grind (arith, nat_tests)

-- ==== A session that is over opens again: what stays, where whoever has a view is live.

module _ (s : State) (sid : ℕ) (over : (session s sid).status ≢ status.Live) where
  -- it is none of those that are live
  apart : (t : ℕ) → IsLive s t → t ≢ sid
  apart t live e = over (rw e at live.1)

  -- it has no view
  pub no_views : (stack : List View) → All (λ v. IsLive s v.sid) stack → without (λ v. v.sid == sid) stack ≡ stack
  no_views [] all = refl
  no_views (v ∷ rest) all =
      let other = ne_eqb v.sid sid (apart v.sid (All-head (λ v. IsLive s v.sid) v rest all)) in
      let same = no_views rest (All-tail (λ v. IsLive s v.sid) v rest all) in
      rw (other, same)

  -- and the input does not know it
  not_known : (o : Option ℕ) → IfSome o (IsLive s) → unless_it_is sid o ≡ o
  not_known None k = refl
  not_known (Some t) k = let other = ne_eqb sid t (λ e. apart t k (sym e)) in rw other

  module _ (h : AreLive s) where
    pub forgotten : forget s.input sid ≡ s.input
    forgotten = grind (arith, nat_tests, not_known)

    -- so it owns no pixel
    pub owns_none : (p : Point) → session_owns sid s p ≡ false
    owns_none p = owner_spared (is_session sid) (bar_rows s.config) s.stack p (λ v e. ne_eqb v.sid sid
        (apart v.sid (All_found (λ v. IsLive s v.sid) (λ v. covers v.rect p) s.stack v h.views e)))

    module _ (label : List ℕ) where
      abbrev begun : Session
      begun = first_session (member s.config sid).donation

      -- each pixel has the same source
      pub opens_sources : (p : Point) → source_of (opened sid label s) p ≡ source_of s p
      opens_sources p = by_other_sizes sid (buffer_size s.sessions) (buffer_size (set s.sessions sid begun)) p
          (owner_of s p) (others_stay s.sessions sid begun) (owns_none p)

      pub opens_raw : (raw : List ℕ) → AreRaw s raw → AreRaw (opened sid label s) raw
      opens_raw raw all = λ k l. rw (opens_sources (pixel s.config.width k)) (all k l)

      -- and each view's handle is below the same one
      pub opens_below : AreBelowNext s → AreBelowNext (opened sid label s)
      opens_below all = grind (arith, nat_tests, get_or-set_other)

-- ---- at a screen

-- nothing goes before it opens
pub only_opens : (s s' : ServerModel) (sid : ℕ) (label : List ℕ) → s' ≡ with_reopened sid label s
    → (session (state_of s) sid).status ≢ status.Live → AreLive (state_of s)
    → state_of s' ≡ opened sid label (state_of s)
only_opens s s' sid label is over h =
    let no_view = no_views (state_of s) sid over (views_of s.stack.views) h.views in
    rw (is, set-set, views_closed, no_view, forgotten (state_of s) sid over h)

-- ---- where no pixel is marked

-- no raw word changes
pub clean_words : (source : ℕ → PixelSource) (is_marked : ℕ → Bool) (n : ℕ) (a b : ℕ → Sight) (raw raw' : List ℕ)
    → ((k : ℕ) → is_marked k ≡ false) → length raw' ≡ length raw → Repainted source is_marked n a b raw raw'
    → raw' ≡ raw
clean_words source is_marked n a b raw raw' clean long painted =
    ext_get_or 0 raw' raw long (λ k l. painted.others k (λ m. clean k))

none_shown : (source : ℕ → PixelSource) (is_marked : ℕ → Bool) (t i n : ℕ) → ((k : ℕ) → is_marked k ≡ false)
    → times_shown source is_marked t i n ≡ 0
none_shown source is_marked t i zero clean = refl
none_shown source is_marked t i (suc n) clean = grind (arith, nat_tests, none_shown source is_marked t i n clean)

no_loads : (loads : List (ℕ × ℕ)) → ((i : ℕ) → loads_at i loads ≡ 0) → loads ≡ []
no_loads [] none = refl
no_loads (load ∷ rest) none =
    let count = sum_by-cons (λ (x : ℕ × ℕ). cond (x.0 == load.0) 1 0) load rest in
    grind (arith, nat_tests, none load.0, count)

-- and no glass tells a load
pub clean_seen : (source : ℕ → PixelSource) (is_marked : ℕ → Bool) (n : ℕ) (a b : ℕ → Sight) (raw raw' : List ℕ)
    → ((k : ℕ) → is_marked k ≡ false) → Repainted source is_marked n a b raw raw' → (t : ℕ) → b t ≡ a t
clean_seen source is_marked n a b raw raw' clean painted t =
    let none = no_loads (painted.loads t) (λ i. painted.counts t i ∙ none_shown source is_marked t i n clean) in
    painted.sights t ∙ ap (seen (a t)) none ∙ sym (seen_none (a t))

-- ==== What holds of a screen stays so when a session, of which nothing is left, opens again.

-- a frame can still be made, with the new label
pub can_relabel : (mid s' : ServerModel) (sid : ℕ) (label : List ℕ) (p : Pixels)
    → s' ≡ with_opened sid label mid → CanShowBy mid p
    → CanShow s' p.painter.raw.items (length p.frame.items) (vec_capacity p.frame) p.painter.cutter.room
    (set p.labels.texts.items sid label) (length p.labels.places.items) p.labels.owners p.bar
can_relabel mid s' sid label p is h = grind (arith, nat_tests, map-set)

-- a session that is over has no buffer, and none when it opens, so each pixel has the same source
pub same_source : (s mid s' : ServerModel) (sid : ℕ) (label : List ℕ) → mid ≡ with_ended sid status.Killed s
    → s' ≡ with_opened sid label mid → sid < length s.sessions → source_at (state_of s') ≡ source_at (state_of mid)
same_source s mid s' sid label over is lt =
    ap (λ (z : ServerModel). source_at (state_of z)) is
    ∙ (λ i k. source (sizes i) (bar_rows mid.config) (views_of mid.stack.views) (pixel mid.config.width k))
  where
    fresh : Session
    fresh = first_session (member mid.config sid).donation

    none : size_of_buffer (session_in mid.sessions sid) ≡ no_size
    none = grind (arith, nat_tests, get_or-set_same)

    sizes : buffer_size (set mid.sessions sid fresh) ≡ buffer_size mid.sessions
    sizes = λ i t. alike_at size_of mid.sessions sid fresh (sym none) t i
