-- Accepted calls that change the machine of one session.
use Rattle.nit_server.proofs.Basics.{AreServerParts, Call, Configuration, Event, InputState}
use Rattle.nit_server.proofs.Basics.{IsNamedBy, IsPaid, IsPlace, IsRectInRange, IsServed}
use Rattle.nit_server.proofs.Basics.{IsSlotView, IsStack, KeptSessionModel, Rectangle, Reply}
use Rattle.nit_server.proofs.Basics.{ServerModel, Session, Size, SlotView, SlotsModel, StackModel}
use Rattle.nit_server.proofs.Basics.{Status, View, accepted, after_accepted, agree_by, and_parts}
use Rattle.nit_server.proofs.Basics.{answered, buffer_left, buffer_need, by_life, changed}
use Rattle.nit_server.proofs.Basics.{first_session, has-name, has_slot, input_after_call, is_place}
use Rattle.nit_server.proofs.Basics.{is_rectangle, is_slot, is_view, keeps_above, keeps_back}
use Rattle.nit_server.proofs.Basics.{keeps_changed, keeps_front, keeps_size, kept_session_at, layer}
use Rattle.nit_server.proofs.Basics.{layer_of, map-set, moved, moved_above, name-above, name-back}
use Rattle.nit_server.proofs.Basics.{name-changed, name-front, name_in, name_of, nat_tests, on_view}
use Rattle.nit_server.proofs.Basics.{put_own_back, put_own_front, receive, rectangle, refusal}
use Rattle.nit_server.proofs.Basics.{server_of, session_in, set-get_or, size_of_buffer, slot_layer}
use Rattle.nit_server.proofs.Basics.{slot_view_in, slot_view_layer, some_pair_parts, taking}
use Rattle.nit_server.proofs.Basics.{views_above, views_backed, views_changed, views_fronted}
use Rattle.nit_server.proofs.Basics.{views_of, with_delivered, with_offset, with_rect, with_title}
use Rattle.nit_server.proofs.Basics.{KeepsViews, within_quota}
use Rattle.std.proofs.Common.{List, None, Option, Some, [], ap, arith, get_or, is_some, leb-true}
use Rattle.std.proofs.Common.{length, map, option_map, refl, set, sym, true, ℕ, ℤ, ◌*◌, ◌+◌, ◌-◌}
use Rattle.std.proofs.Common.{◌<◌, ◌∙◌, ◌∷◌, ◌≡◌, ◌≤◌}
use Rattle.nit_journal.specs.StackAfter.{stack_after_call}
use Rattle.nit_server.proofs.ServerLemmas.{IsDone, IsRepaid, has_member, layers_are, machine_is}
use Rattle.nit_server.proofs.ServerLemmas.{own_member, repaid, restacked, same_sizes, served_by}
use Rattle.nit_server.proofs.ServerLemmas.{session_of_member, sizes_set}
use Rattle.nit_events.specs.declared.call.Call.TheVariants as call
use Rattle.nit_events.specs.declared.call.Reply.TheVariants as reply
use Rattle.nit_events.specs.declared.event.Item.TheVariants as item
use Rattle.nit_events.specs.declared.event.Status.TheVariants as status

-- ---- what the calls leave of a machine

buffer_pays : (m : KeptSessionModel) (w h : ℕ) → refusal m.session (call.Buffer w h) ≡ None → IsPaid m.session
    → IsRepaid m (record m { session = record m.session { bw = w; bh = h } })
buffer_pays m w h free paid =
    let s = m.session in
    let cost : buffer_need w h ≤ buffer_left s.donation (length s.handles) =
    within_quota _ _ (grind (arith, free)) in
    let used = pays (w * h) (length s.handles) s.donation (s.bw * s.bh) cost paid.used in
    record { pairs = refl; most = refl; sum = refl; paid = record { used = used; bounded = paid.bounded } }
  where
    pays : (words views donation old : ℕ) → 8 * words ≤ donation - 256 * views → 256 * views + 8 * old ≤ donation
        → 256 * views + 8 * words ≤ donation
    pays words views donation old cost used = omega arith

-- a machine that changed in its queue and its count of lost events alone
abbrev IsQueued : Session → Session → Type 0
IsQueued old new = new ≡ record old { queue = new.queue; lost = new.lost }

queue_pays : (m : KeptSessionModel) (new : Session) → IsQueued m.session new → IsPaid m.session
    → IsRepaid m (record m { session = new })
queue_pays m new left paid = rw left (record { pairs = refl; most = refl; sum = refl; paid = assumption paid })

take_leaves : (s : Session) (queue : List Event) → IsQueued s (taking queue s).session
take_leaves s [] = refl
take_leaves s (e ∷ es) = refl

life_leaves : (was : Status) (e : Event) (s : Session) → IsQueued s (by_life was (item.Event e) s)
life_leaves status.Live e s = grind arith
life_leaves other e s = refl

module _ {config : Configuration} {stack : StackModel} {members : List KeptSessionModel} {slots : SlotsModel}
    {user : InputState} {now : ServerModel} {sid : ℕ} {m : KeptSessionModel}
    (s : AreServerParts config stack members slots) (is : server_of config stack members user ≡ now)
    (below : sid < length now.sessions) (at : m ≡ get_or members sid m) where
  abbrev old : KeptSessionModel
  old = kept_session_at members sid

  within : sid < length members
  within = has_member s is below

  own_free : (c : Call) → refusal (session_in now.sessions sid) c ≡ None → refusal old.session c ≡ None
  own_free c free = rw (machine_is s is sid) at free

  own_paid : IsPaid old.session
  own_paid = (s.clients sid within).paid

  served_alone : {stack' : StackModel} {m' : KeptSessionModel} {r : Reply} (c : Call) (sizes : List Size)
      → refusal (session_in now.sessions sid) c ≡ None
      → m' ≡ record m { session = (accepted m.session c).session }
      → r ≡ (accepted m.session c).reply
      → stack' ≡ record stack { sizes = sizes }
      → IsRepaid old (record old { session = (accepted old.session c).session })
      → IsStack (record stack { sizes = sizes })
      → sizes ≡ map (λ n. size_of_buffer n.session)
      (set members sid (record old { session = (accepted old.session c).session }))
      → after_accepted (layer config) sid c r (views_of stack.views) ≡ views_of stack.views
      → ((i : InputState) → input_after_call sid c r i ≡ i)
      → IsDone config stack' (set members sid m') slots user sid c r now
  unfolding stack_after_call
  served_alone {r = r} c sizes free same replied sized pays standing set_sizes views input =
      let mine = own_member s is below at in
      let next : KeptSessionModel = record old { session = (accepted old.session c).session } in
      rw (same, sized, mine, ← is) (record {
        server = repaid s within pays standing set_sizes;
        served = served_by (rw (← is) at free)
            (rw (session_of_member members sid) (rw mine at replied))
            refl
            (rw (map-set (λ (x : KeptSessionModel). x.session) members sid next, session_of_member members sid))
            (grind (arith, views))
            (sym (input user))
            (λ k handle n. agree_by k sid handle stack.views n) (λ keeps. refl);
      })

  pub buffered : {stack' : StackModel} {m' : KeptSessionModel} {w h : ℕ}
      → refusal (session_in now.sessions sid) (call.Buffer w h) ≡ None
      → m' ≡ record m { session = (accepted m.session (call.Buffer w h)).session }
      → stack' ≡ record stack { sizes = set stack.sizes sid (record { w = w; h = h }) }
      → IsDone config stack' (set members sid m') slots user sid (call.Buffer w h) reply.Done now
  buffered {w = w} {h} free same sized =
      let own = own_free (call.Buffer w h) free in
      served_alone (call.Buffer w h) _ free same refl sized (buffer_pays old w h own own_paid)
      (keeps_size stack sid (record { w = w; h = h }) s.standing
      (grind (arith, nat_tests, own), grind (arith, nat_tests, own)))
      (sizes_set s sid _) refl (λ i. refl)

  pub taken : {m' : KeptSessionModel} {r : Reply}
      → refusal (session_in now.sessions sid) call.Take ≡ None
      → m' ≡ record m { session = (accepted m.session call.Take).session }
      → r ≡ (accepted m.session call.Take).reply
      → IsDone config stack (set members sid m') slots user sid call.Take r now
  taken free same replied =
      let left = take_leaves old.session old.session.queue in
      served_alone call.Take stack.sizes free same replied refl (queue_pays old _ left own_paid) s.standing
      (same_sizes s sid _ (ap size_of_buffer left))
      refl (λ i. refl)

  pub upgraded : {m' : KeptSessionModel} {n : ℕ}
      → refusal (session_in now.sessions sid) (call.Upgrade n) ≡ None
      → m' ≡ record m { session = (accepted m.session (call.Upgrade n)).session }
      → IsDone config stack (set members sid m') slots user sid (call.Upgrade n) reply.Done now
  upgraded {n = n} free same =
      let few : n ≤ old.session.reserve = grind (arith, nat_tests, own_free (call.Upgrade n) free) in
      let was = own_paid in
      served_alone (call.Upgrade n) stack.sizes free same refl refl (record {
        pairs = refl;
        most = refl;
        sum = omega arith;
        paid = record { used = omega (arith, was.used); bounded = omega (arith, was.bounded) };
      })
      s.standing (same_sizes s sid _ refl) refl (λ i. refl)

  -- an event leaves what the session pays for
  pub told : {m' : KeptSessionModel} (e : Event) → m' ≡ record m { session = receive m.session (item.Event e) }
      → AreServerParts config stack (set members sid m') slots
      × (server_of config stack (set members sid m') user
      ≡ with_delivered (record { sid = sid; item = item.Event e } ∷ []) now)
  told e same =
      let left = life_leaves old.session.status e old.session in
      let next : KeptSessionModel = record old { session = receive old.session (item.Event e) } in
      rw (same, own_member s is below at, ← is) (
        repaid s within (queue_pays old _ left own_paid) s.standing (same_sizes s sid next (ap size_of_buffer left)),
        rw (map-set (λ (x : KeptSessionModel). x.session) members sid next, session_of_member members sid),
      )

-- ==== Accepted calls that change one view of a session.

-- ---- ranges, from the tests of a refusal

pub place_range : (z : ℤ) → is_place z ≡ true → IsPlace z
place_range z e = grind (arith, nat_tests, and_parts)

pub rectangle_range : (x y : ℤ) (w h : ℕ) → is_rectangle x y w h ≡ true → IsRectInRange (rectangle x y w h)
rectangle_range x y w h e = grind (arith, nat_tests, and_parts, place_range, leb-true)

-- ---- calls that leave the machine as it is

-- the layer of a slot's view, by its name
layer_by_name : (s : StackModel) (k : ℕ) {sid handle : ℕ} → name_in k s.views ≡ Some (sid, handle)
    → slot_layer s k ≡ Some (layer_of s.layers sid)
layer_by_name s k {sid} {handle} e = where_found (slot_view_in k s.views) e
  where
    where_found : (o : Option SlotView) → option_map name_of o ≡ Some (sid, handle)
        → option_map (slot_view_layer s.layers) o
        ≡ Some (layer_of s.layers sid)
    where_found None e = cc
    where_found (Some a) e = rw (some_pair_parts a.view.sid sid a.view.handle handle e).0

changed_by : {config : Configuration} {stack stack' : StackModel} {members : List KeptSessionModel}
    {slots : SlotsModel} {user : InputState} {now : ServerModel} {sid : ℕ} (c : Call) (views : List SlotView)
    → AreServerParts config stack members slots
    → server_of config stack members user ≡ now
    → refusal (session_in now.sessions sid) c ≡ None
    → (KeepsViews c → ⊥)
    → ((s : Session) → accepted s c ≡ answered reply.Done s)
    → ((i : InputState) → input_after_call sid c reply.Done i ≡ i)
    → stack' ≡ record stack { views = views }
    → IsStack (record stack { views = views })
    → ((k : ℕ) → name_in k views ≡ name_in k stack.views)
    → views_of views ≡ after_accepted (layer_of stack.layers) sid c reply.Done (views_of stack.views)
    → IsDone config stack' members slots user sid c reply.Done now
unfolding stack_after_call
changed_by {config} {stack = stack} {members = members} {user = user} {sid = sid} c views s is free not_kept same input
    becomes standing names along =
    let own : Session = session_in (map (λ m. m.session) members) sid in
    rw (becomes, ← is) (record {
      server = restacked s standing names;
      served = served_by (rw (← is) at free) (sym (ap (λ a. a.reply) (same own))) refl
          (rw (same own) (sym (set-get_or (map (λ m. m.session) members) sid (first_session 0))))
          (rw (layers_are config stack.layers s.layers) at along) (sym (input user))
          (λ k handle n. agree_by k sid handle views
          (record { slots = standing.slots; names = standing.names; name = names k ∙ n.name }))
          (λ keeps. absurd (not_kept keeps));
    })

module _ {config : Configuration} {stack : StackModel} {members : List KeptSessionModel} {slots : SlotsModel}
    {user : InputState} {now : ServerModel} {k sid handle : ℕ} (s : AreServerParts config stack members slots)
    (is : server_of config stack members user ≡ now) (named : IsNamedBy k sid handle now.stack.views) where
  here : IsNamedBy k sid handle stack.views
  here = rw (← is) at named

  pub there : has_slot k stack.views ≡ true
  there = has-name k stack.views ∙ ap is_some here.name

  -- the view in its slot is another, of the same name
  changes : {stack' : StackModel} (c : Call) (change : View → View)
      → refusal (session_in now.sessions sid) c ≡ None
      → (KeepsViews c → ⊥)
      → ((z : Session) → accepted z c ≡ answered reply.Done z)
      → ((i : InputState) → input_after_call sid c reply.Done i ≡ i)
      → stack' ≡ record stack { views = changed (is_slot k) (on_view change) stack.views }
      → ((v : View) → ((change v).sid ≡ v.sid) × ((change v).handle ≡ v.handle))
      → ((a : SlotView) → IsSlotView stack.most (length stack.sizes) a
      → IsSlotView stack.most (length stack.sizes) (on_view change a))
      → ((views : List View) → changed (is_view sid handle) change views
      ≡ after_accepted (layer_of stack.layers) sid c reply.Done views)
      → IsDone config stack' members slots user sid c reply.Done now
  changes c change free not_kept same input becomes name sound along =
      changed_by c _ s is free not_kept same input becomes (keeps_changed stack k change s.standing name sound)
      (λ j. name-changed j k change stack.views name)
      (views_changed k sid handle change stack.views here ∙ along (views_of stack.views))

  pub placed : {stack' : StackModel} {left top x y : ℤ} {r : Rectangle} {w h : ℕ}
      → refusal (session_in now.sessions sid) (call.Place handle x y w h) ≡ None
      → left ≡ x
      → top ≡ y
      → r ≡ rectangle left top w h
      → stack' ≡ record stack { views = changed (is_slot k) (on_view (with_rect r)) stack.views }
      → IsDone config stack' members slots user sid (call.Place handle x y w h) reply.Done now
  placed {x = x} {y} {r} {w} {h} free across down is_rect becomes =
      let same : r ≡ rectangle x y w h = rw (across, down) at is_rect in
      let range : IsRectInRange r = rw same (rectangle_range x y w h (grind (arith, free))) in
      changes _ (with_rect r) free (λ keeps. keeps) (λ z. refl) (λ i. refl) becomes (λ v. (refl, refl))
      (λ a f. assumption (range, f))
      (λ views. ap (λ (z : Rectangle). changed (is_view sid handle) (with_rect z) views) same)

  pub offset_range : {column row ox oy : ℤ}
      → refusal (session_in now.sessions sid) (call.Offset handle ox oy) ≡ None
      → column ≡ ox → row ≡ oy → IsPlace column × IsPlace row
  offset_range {ox = ox} {oy} free across down =
      let both = and_parts (is_place ox) (is_place oy) (grind (arith, free)) in
      rw (across, down) (place_range ox both.0, place_range oy both.1)

  pub offset_by : {stack' : StackModel} {column row ox oy : ℤ}
      → refusal (session_in now.sessions sid) (call.Offset handle ox oy) ≡ None
      → column ≡ ox
      → row ≡ oy
      → stack' ≡ record stack { views = changed (is_slot k) (on_view (with_offset column row)) stack.views }
      → IsDone config stack' members slots user sid (call.Offset handle ox oy) reply.Done now
  offset_by {column = column} {row} free across down becomes =
      let range = offset_range free across down in
      changes _ (with_offset column row) free (λ keeps. keeps) (λ z. refl) (λ i. refl) becomes (λ v. (refl, refl))
      (λ a f. assumption (range, f))
      (λ views. λ i. changed (is_view sid handle) (with_offset (across i) (down i)) views)

  pub titled : {stack' : StackModel} {text title : List ℕ}
      → refusal (session_in now.sessions sid) (call.Title handle text) ≡ None
      → title ≡ text
      → stack' ≡ record stack { views = changed (is_slot k) (on_view (with_title title)) stack.views }
      → IsDone config stack' members slots user sid (call.Title handle text) reply.Done now
  titled {title = title} free same becomes =
      changes _ (with_title title) free (λ keeps. keeps) (λ z. refl) (λ i. refl) becomes (λ v. (refl, refl))
      (λ a f. assumption f) (λ views. ap (λ (z : List ℕ). changed (is_view sid handle) (with_title z) views) same)

  pub fronted : {stack' : StackModel}
      → refusal (session_in now.sessions sid) (call.Front handle) ≡ None
      → stack' ≡ record stack { views = moved (is_slot k) (put_own_front (slot_view_layer stack.layers)) stack.views }
      → IsDone config stack' members slots user sid (call.Front handle) reply.Done now
  fronted free becomes =
      changed_by (call.Front handle) _ s is free (λ keeps. keeps) (λ z. refl) (λ i. refl) becomes
      (keeps_front stack k s.standing there)
      (λ j. name-front j k (slot_view_layer stack.layers) stack.views there)
      (views_fronted k sid handle (layer_of stack.layers) stack.views here)

  pub backed : {stack' : StackModel}
      → refusal (session_in now.sessions sid) (call.Back handle) ≡ None
      → stack' ≡ record stack { views = moved (is_slot k) (put_own_back (slot_view_layer stack.layers)) stack.views }
      → IsDone config stack' members slots user sid (call.Back handle) reply.Done now
  backed free becomes =
      changed_by (call.Back handle) _ s is free (λ keeps. keeps) (λ z. refl) (λ i. refl) becomes
      (keeps_back stack k s.standing there)
      (λ j. name-back j k (slot_view_layer stack.layers) stack.views there)
      (views_backed k sid handle (layer_of stack.layers) stack.views here)

  -- two views of a session have one layer
  pub same_layer : {n next : ℕ} → IsNamedBy n sid next now.stack.views → slot_layer stack k ≡ slot_layer stack n
  same_layer other = layer_by_name stack k here.name ∙ sym (layer_by_name stack _ (rw (← is) at other.name))

  pub put_above_next : {stack' : StackModel} {n next : ℕ}
      → IsNamedBy n sid next now.stack.views
      → refusal (session_in now.sessions sid) (call.Above handle next) ≡ None
      → stack' ≡ record stack { views = moved_above k n stack.views }
      → IsDone config stack' members slots user sid (call.Above handle next) reply.Done now
  put_above_next {n = n} {next} other free becomes =
      let also : IsNamedBy n sid next stack.views = rw (← is) at other in
      changed_by (call.Above handle next) _ s is free (λ keeps. keeps) (λ z. refl) (λ i. refl) becomes
      (keeps_above stack k n s.standing there (has-name n stack.views ∙ ap is_some also.name) (same_layer other))
      (λ j. name-above j k n stack.views there) (views_above k n sid handle next stack.views here also)

-- nothing of a server changes
pub refreshed : (now : ServerModel) (sid : ℕ) (x y : ℤ) (w h : ℕ)
    → refusal (session_in now.sessions sid) (call.Refresh x y w h) ≡ None
    → IsServed sid (call.Refresh x y w h) reply.Done now now
unfolding stack_after_call
refreshed now sid x y w h free =
    served_by free refl refl (sym (set-get_or now.sessions sid (first_session 0))) refl refl
    (λ k handle n. agree_by k sid handle now.stack.views n) (λ keeps. refl)
