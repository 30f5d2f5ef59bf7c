-- A server to which a view comes, and one from which views go.
use Rattle.nit_server.proofs.Basics.{AllByRecursion, AreServerParts, Close, Configuration, Destroy}
use Rattle.nit_server.proofs.Basics.{InputState, IsPaid, IsServed, IsStack, KeptSessionModel}
use Rattle.nit_server.proofs.Basics.{ServerModel, Session, SlotView, SlotsModel, StackModel, Status}
use Rattle.nit_server.proofs.Basics.{accepted, agree_by, count_by-le-length, ended}
use Rattle.nit_server.proofs.Basics.{false_from_ne_true, first_session, forget, found_in_slot}
use Rattle.nit_server.proofs.Basics.{found_passes, found_some, fresh, fresh_in, has-name}
use Rattle.nit_server.proofs.Basics.{has-put_front, has-without, has_handle, has_slot, is_named}
use Rattle.nit_server.proofs.Basics.{is_of_session, is_slot, is_slot_taken, is_view, keeps_push}
use Rattle.nit_server.proofs.Basics.{keeps_remove, keeps_size, kept_session_at, layer_of}
use Rattle.nit_server.proofs.Basics.{length-filter, length-map, list_any, map-set, map-without}
use Rattle.nit_server.proofs.Basics.{name-put_front, name-without, name_has_slot, name_in, name_of}
use Rattle.nit_server.proofs.Basics.{nat_tests, no_size, pairs_of, put_front, refusal, server_of}
use Rattle.nit_server.proofs.Basics.{session_in, set-get_or, size_of_buffer, slot_of}
use Rattle.nit_server.proofs.Basics.{slot_view_layer, view_layer, views_closed, views_of}
use Rattle.nit_server.proofs.Basics.{views_put_front, with_ended, with_slot, without}
use Rattle.nit_server.proofs.Basics.{without_handle, without_none, without_slot, without_view}
use Rattle.nit_server.proofs.Basics.{without_views}
use Rattle.nit_events.specs.declared.call.Call.TheVariants.{View}
use Rattle.std.proofs.Common.{Bool, List, None, Some, [], ap, arith, cond, eqb-true, false, filter}
use Rattle.std.proofs.Common.{get_or-set_same, is_some, length, length-append, not, option_map}
use Rattle.std.proofs.Common.{refl, set, set-set, slice_set, sym, true, ℕ, ◌++◌, ◌+◌, ◌<◌, ◌==◌}
use Rattle.std.proofs.Common.{◌∙◌, ◌∷◌, ◌≡◌, ◌≤◌}
use Rattle.nit_journal.specs.StackAfter.{stack_after_call}
use Rattle.nit_server.proofs.ServerLemmas.{among_less, among_more, layers_are, repaid, same_sizes}
use Rattle.nit_server.proofs.ServerLemmas.{served_by, session_of_member, sizes_set, slot_of-none}
use Rattle.nit_server.proofs.ServerLemmas.{slots_less, slots_more, stepped}
use Rattle.nit_server.proofs.Lists.{without_same}
use Rattle.nit_events.specs.declared.call.Reply.TheVariants as reply
use Rattle.nit_events.specs.declared.event.Status.TheVariants as status

module _ {config : Configuration} {stack : StackModel} {members : List KeptSessionModel} {slots : SlotsModel}
    (h : AreServerParts config stack members slots) where
  -- no view has the name of a handle that is not held
  pub new_name : (sid handle : ℕ) → has_handle (pairs_of members sid) handle ≡ false
      → list_any (is_named sid handle) stack.views ≡ false
  new_name sid handle unheld = false_from_ne_true _ (λ e.
      let j = name_has_slot sid handle stack.views h.standing.slots e in
      let kept = (h.seated.kept sid handle j.0 j.1).1 in
      cc (slot_of-none (pairs_of members sid) handle unheld))

  -- a session without a view in its table has none on the stack
  pub no_view_left : (sid : ℕ) → pairs_of members sid ≡ [] → list_any (is_of_session sid) stack.views ≡ false
  no_view_left sid none = false_from_ne_true _ (λ e.
      let f = found_some (is_of_session sid) stack.views e in
      let in_slot = found_in_slot (is_of_session sid) stack.views f.0 h.standing.slots f.1 in
      let its = eqb-true f.0.view.sid sid (found_passes (is_of_session sid) stack.views f.0 f.1) in
      let kept = h.seated.kept f.0.view.sid f.0.view.handle f.0.slot (ap (option_map name_of) in_slot) in
      let held = rw (its, none) at kept.1 in
      cc)

  -- a view that is held stands in its slot
  pub stands : {sid k : ℕ} (handle : ℕ) → sid < length members → slot_of (pairs_of members sid) handle ≡ Some k
      → has_slot k stack.views ≡ true
  stands {sid} {k} handle there held = has-name k stack.views ∙ ap is_some (h.seated.named sid handle k there held)

-- what a session's table and the slots tell of a new view: its handle, and the slot that it got
pub record IsNewView (slots : SlotsModel) (old new : KeptSessionModel) (handle k : ℕ) : Type 0 where
  pub session : new.session ≡ (accepted old.session View).session
  pub pairs : new.pairs ≡ old.pairs ++ (handle, k) ∷ []
  pub most : new.most ≡ old.most
  pub few : length new.pairs ≤ new.most
  pub paid : IsPaid new.session
  pub next : handle ≡ old.session.next
  pub unheld : has_handle old.pairs handle ≡ false
  pub below : k < slots.total
  pub free : is_slot_taken slots k ≡ false
  pub counted : length (with_slot slots.taken k) ≡ length slots.taken + 1

module _ {config : Configuration} {stack : StackModel} {members : List KeptSessionModel} {slots : SlotsModel}
    {sid handle k : ℕ} {m : KeptSessionModel} (h : AreServerParts config stack members slots)
    (there : sid < length members) (it : IsNewView slots (kept_session_at members sid) m handle k) where
  abbrev more : List SlotView
  more = put_front (slot_view_layer stack.layers) (layer_of stack.layers sid) (fresh_in k sid handle) stack.views

  free : has_slot k stack.views ≡ false
  free = sym (h.seated.taken k) ∙ it.free

  nameless : name_in k stack.views ≡ None
  nameless = grind (arith, has-name k stack.views, free)

  standing : IsStack (record stack { views = more })
  standing = grind (arith, nat_tests, length-map, keeps_push, new_name)

  -- the names of all views
  names : (j : ℕ) → name_in j more ≡ cond (k == j) (Some (sid, handle)) (name_in j stack.views)
  names j = grind (arith, nat_tests, name-put_front)

  -- the server with the new view
  pub view_comes : AreServerParts config (record stack { views = more }) (set members sid m)
      (record slots { taken = with_slot slots.taken k })
  view_comes =
      stepped h there standing (same_sizes h sid m (ap size_of_buffer it.session))
      (assumption (ap (λ (s : Session). s.donation + s.reserve) it.session, it))
      (omega (arith, it.counted, ap length it.pairs, length-append (pairs_of members sid) ((handle, k) ∷ [])))
      (record {
        named = λ t other j lt found.
            let now = slots_more members sid m handle k t other there it.unheld it.pairs in
            grind (arith, nat_tests, now, names j, h.seated.named t other j lt, nameless);
        kept = λ t other j found.
            let now = slots_more members sid m handle k t other there it.unheld it.pairs in
            let none = slot_of-none (pairs_of members sid) handle it.unheld in
            grind (arith, nat_tests, now, names j, h.seated.kept t other j, none);
        taken = λ j.
            let to = has-put_front (slot_view_layer stack.layers) (layer_of stack.layers sid) (fresh_in k sid handle) in
            cc (among_more slots.taken k j, h.seated.taken j, to j stack.views);
      })

  -- the call is served, by what contracts see before and after it
  pub created : {user : InputState} {s : ServerModel} {stack' : StackModel}
      → server_of config stack members user ≡ s → stack' ≡ record stack { views = more }
      → refusal (session_in s.sessions sid) View ≡ None
      → IsServed sid View (reply.Handle handle) s (server_of config stack' (set members sid m) user)
  unfolding stack_after_call
  created before now accepts = rw (now, ← before)
      (served_by (rw (← before) at accepts)
      (rw (session_of_member members sid) (ap (λ (n : ℕ). reply.Handle n) it.next)) refl
      (rw (map-set (λ (n : KeptSessionModel). n.session) members sid m, it.session, session_of_member members sid))
      (views_put_front (layer_of stack.layers) (layer_of stack.layers sid) (fresh_in k sid handle) stack.views
      ∙ ap (λ (f : ℕ → ℕ). put_front (view_layer f) (f sid) (fresh sid handle) (views_of stack.views))
      (layers_are config stack.layers h.layers)) refl
      (λ j other by. agree_by j sid other more (record {
        slots = standing.slots;
        names = standing.names;
        name = grind (arith, nat_tests, names j, nameless, by.name);
      }))
      (λ keeps. absurd keeps))

-- ==== A server from which views go.

-- ---- lists of views

-- two tests that mean the same view mean it among some of the views
agree_without : (p q is : SlotView → Bool) (xs : List SlotView) → AllByRecursion (λ x. p x ≡ q x) xs
    → AllByRecursion (λ x. p x ≡ q x) (without is xs)
agree_without p q is [] h = tt
agree_without p q is (x ∷ xs) h = grind (arith, agree_without p q is xs)

-- a view of a session goes, and then all that are left
without_rest : (sid handle : ℕ) (xs : List SlotView) → without (is_of_session sid) (without (is_named sid handle) xs)
    ≡ without (is_of_session sid) xs
without_rest sid handle [] = refl
without_rest sid handle (x ∷ xs) = grind (arith, without_rest sid handle xs)

-- a handle that is there goes
pub fewer : (v : ℕ) (hs : List ℕ) → list_any (λ h. h == v) hs ≡ true
    → length (filter (λ h. not (h == v)) hs) < length hs
fewer v [] there = cc
fewer v (x ∷ hs) there =
    let kept = length-filter (λ h. not (h == v)) hs in
    grind (arith, fewer v hs, kept, count_by-le-length (λ h. not (h == v)) hs)

-- ---- what contracts see

-- a call that takes a view away is served
pub destroyed : (s : ServerModel) (sid handle : ℕ) → refusal (session_in s.sessions sid) (Destroy handle) ≡ None
    → IsServed sid (Destroy handle) reply.Done s (without_view sid handle s)
unfolding stack_after_call
destroyed s sid handle none =
    served_by none refl refl refl (map-without (λ (a : SlotView). a.view) (is_view sid handle) s.stack.views) refl
    (λ k other by. agree_without (is_slot k) (is_named sid other) (is_named sid handle) s.stack.views
    (agree_by k sid other s.stack.views by)) (λ keeps. absurd keeps)

-- a call that ends a session is served
pub closed : (s : ServerModel) (sid : ℕ) → refusal (session_in s.sessions sid) Close ≡ None
    → IsServed sid Close reply.Done s (with_ended sid status.Closed s)
unfolding stack_after_call
closed s sid none =
    served_by none refl refl refl (views_closed sid s.stack.views) refl
    (λ k other by. agree_without (is_slot k) (is_named sid other) (is_of_session sid) s.stack.views
    (agree_by k sid other s.stack.views by)) (λ keeps. absurd keeps)

-- the views of a session go one by one
pub one_less : (sid handle : ℕ) (s : ServerModel) → sid < length s.sessions
    → without_views sid (without_view sid handle s) ≡ without_views sid s
one_less sid handle s there = grind (arith, nat_tests, set-set, get_or-set_same, without_rest)

pub none_left : (sid : ℕ) (s : ServerModel) → (session_in s.sessions sid).handles ≡ []
    → list_any (is_of_session sid) s.stack.views ≡ false → s ≡ without_views sid s
none_left sid s no_handle no_view =
    let same : s.sessions ≡ set s.sessions sid (record (session_in s.sessions sid) { handles = [] }) =
    sym (set-get_or s.sessions sid (first_session 0))
    ∙ ap (λ (hs : List ℕ). set s.sessions sid (record (session_in s.sessions sid) { handles = hs })) no_handle in
    rw (without_none sid s.stack.views no_view, ← same)

-- ---- what holds of a server

-- what a session's table and the slots tell of a view that goes
pub record IsGoneView (slots : SlotsModel) (old new : KeptSessionModel) (handle k : ℕ) : Type 0 where
  pub session : new.session ≡ (accepted old.session (Destroy handle)).session
  pub held : slot_of old.pairs handle ≡ Some k
  pub pairs : new.pairs ≡ without_handle old.pairs handle
  pub most : new.most ≡ old.most
  pub few : length new.pairs ≤ new.most
  pub paid : IsPaid new.session
  pub fewer : length new.pairs + 1 ≡ length old.pairs
  pub counted : length (without_slot slots.taken k) + 1 ≡ length slots.taken

module _ {config : Configuration} {stack : StackModel} {members : List KeptSessionModel} {slots : SlotsModel}
    {sid handle k : ℕ} {m : KeptSessionModel} (h : AreServerParts config stack members slots)
    (there : sid < length members) (it : IsGoneView slots (kept_session_at members sid) m handle k) where
  own_name : name_in k stack.views ≡ Some (sid, handle)
  own_name = h.seated.named sid handle k there it.held

  -- the server without the view
  pub view_goes : AreServerParts config (record stack { views = without (is_slot k) stack.views }) (set members sid m)
      (record slots { taken = without_slot slots.taken k })
  view_goes =
      stepped h there (keeps_remove stack k h.standing) (same_sizes h sid m (ap size_of_buffer it.session))
      (assumption (ap (λ (s : Session). s.donation + s.reserve) it.session, it))
      (omega (arith, it.counted, it.fewer))
      (record {
        named = λ t other j lt found.
            let now = slots_less members sid m handle t other there it.pairs in
            grind (arith, nat_tests, now, name-without j k stack.views, h.seated.named t other j lt, own_name);
        kept = λ t other j found.
            let now = slots_less members sid m handle t other there it.pairs in
            grind (arith, nat_tests, now, name-without j k stack.views, h.seated.kept t other j, it.held);
        taken = λ j. cc (among_less slots.taken k j, h.seated.taken j, has-without j k stack.views);
      })

  -- contracts see it by its name
  pub view_gone : (user : InputState)
      → server_of config (record stack { views = without (is_slot k) stack.views }) (set members sid m) user
      ≡ without_view sid handle (server_of config stack members user)
  view_gone user = grind (arith, nat_tests, without_same, agree_by, own_name, map-set, session_of_member)

-- ---- a session that is over

module _ {config : Configuration} {stack : StackModel} {members : List KeptSessionModel} {slots : SlotsModel}
    {sid : ℕ} {how : Status} {m : KeptSessionModel} (h : AreServerParts config stack members slots)
    (there : sid < length members)
    (over : m ≡ record (kept_session_at members sid) { session = ended how (kept_session_at members sid).session })
  where
    abbrev no_buffer : StackModel
    no_buffer = record stack { sizes = slice_set stack.sizes sid no_size }

    pub session_ends : IsPaid m.session → AreServerParts config no_buffer (set members sid m) slots
    session_ends paid =
        rw over (repaid h there (record { pairs = refl; most = refl; sum = refl; paid = rw over at paid })
        (keeps_size stack sid no_size h.standing (omega arith, omega arith)) (sizes_set h sid _))

    pub session_over : (user : InputState) (s : ServerModel) → server_of config stack members user ≡ without_views sid s
        → sid < length s.sessions → server_of config no_buffer (set members sid m) (forget user sid)
        ≡ with_ended sid how s
    session_over user s bare there' =
        rw (map-set (λ (n : KeptSessionModel). n.session) members sid m, over, ← session_of_member members sid)
        (ap (λ (t : ServerModel). record t {
          sessions = set t.sessions sid (ended how (session_in t.sessions sid));
          stack = record t.stack { sizes = slice_set t.stack.sizes sid no_size };
          input = forget t.input sid;
        }) bare ∙ rw (set-set, get_or-set_same s.sessions sid _ (first_session 0) there'))
