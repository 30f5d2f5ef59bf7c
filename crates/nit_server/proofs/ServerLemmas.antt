-- What holds of a server, and what stays so when one session, the views and the taken slots change.
use Rattle.nit_server.proofs.Basics.{AreServerParts, AreSlotsNamed, Call, Configuration, FocusModel}
use Rattle.nit_server.proofs.Basics.{InputState, IsNamedBy, IsPaid, IsServed, IsServer}
use Rattle.nit_server.proofs.Basics.{IsServerInput, IsSessionOfClient, IsStack, KeptSessionModel}
use Rattle.nit_server.proofs.Basics.{KeepsViews, MeanSame, Member, Reply, ServerModel, Size, SlotView}
use Rattle.nit_server.proofs.Basics.{SlotsModel, StackModel, accepted, any-filter_same, get_or-map}
use Rattle.nit_server.proofs.Basics.{get_or-set_at, get_or_default, has-name, has_handle}
use Rattle.nit_server.proofs.Basics.{input_after_call, is_slot_among, kept_session_at, layer}
use Rattle.nit_server.proofs.Basics.{layer_of, length-map, map-map, map-set, map-set_same, member}
use Rattle.nit_server.proofs.Basics.{name_in, nat_tests, no_kept_session, pairs_of, refusal, serve}
use Rattle.nit_server.proofs.Basics.{serve_accepted, server_of, session_in, size_of_buffer, slot_of}
use Rattle.nit_server.proofs.Basics.{spare, stack_after_call, sum-map, sum_by-cons, sum_by-set}
use Rattle.nit_server.proofs.Basics.{view_slots, views_of, with_slot, without_handle, without_slot}
use Rattle.std.proofs.Common.{Bool, List, None, Some, [], ap, arith, cond, eqb-true, false, get_or}
use Rattle.std.proofs.Common.{get_or-set_other, length, length-set, map, not, refl, set, suc, sum}
use Rattle.std.proofs.Common.{sym, true, ℕ, ◌&&◌, ◌*◌, ◌++◌, ◌+◌, ◌/◌, ◌<◌, ◌==◌, ◌||◌, ◌∙◌, ◌∷◌}
use Rattle.std.proofs.Common.{◌≡◌, ◌≤◌}

-- ---- one table, and one list of taken slots

-- a new pair at the end
slot_of-more : (pairs : List (ℕ × ℕ)) (h k handle : ℕ) → has_handle pairs h ≡ false
    → slot_of (pairs ++ (h, k) ∷ []) handle ≡ cond (h == handle) (Some k) (slot_of pairs handle)
slot_of-more [] h k handle none = grind arith
slot_of-more (p ∷ pairs) h k handle none = grind (arith, nat_tests, slot_of-more pairs h k handle)

-- a pair taken out
slot_of-less : (pairs : List (ℕ × ℕ)) (h handle : ℕ) → slot_of (without_handle pairs h) handle
    ≡ cond (handle == h) None (slot_of pairs handle)
slot_of-less [] h handle = grind arith
slot_of-less (p ∷ pairs) h handle = grind (arith, nat_tests, slot_of-less pairs h handle)

-- no handle that is not held has a slot
pub slot_of-none : (pairs : List (ℕ × ℕ)) (h : ℕ) → has_handle pairs h ≡ false → slot_of pairs h ≡ None
slot_of-none [] h none = refl
slot_of-none (p ∷ pairs) h none = grind (arith, slot_of-none pairs h)

-- one slot more
pub among_more : (slots : List ℕ) (k j : ℕ) → is_slot_among (with_slot slots k) j ≡ ((k == j) || is_slot_among slots j)
among_more [] k j = refl
among_more (s ∷ rest) k j = grind (arith, among_more rest k j)

-- one slot less
pub among_less : (slots : List ℕ) (k j : ℕ) → is_slot_among (without_slot slots k) j ≡ (not (j == k) && is_slot_among slots j)
among_less slots k j = grind (arith, nat_tests, any-filter_same, eqb-true)

-- ---- the tables of all sessions

-- another member in the place of one
pub member_set : (members : List KeptSessionModel) (sid : ℕ) (m : KeptSessionModel) (t : ℕ) → sid < length members
    → kept_session_at (set members sid m) t ≡ cond (t == sid) m (kept_session_at members t)
member_set members sid m t there = grind (arith, nat_tests, get_or-set_other, get_or-set_at)

-- the slot of each handle when a session gets a view, and when it loses one
pub slots_more : (members : List KeptSessionModel) (sid : ℕ) (m : KeptSessionModel) (h k t handle : ℕ)
    → sid < length members → has_handle (pairs_of members sid) h ≡ false → m.pairs ≡ pairs_of members sid ++ (h, k) ∷ []
    → slot_of (pairs_of (set members sid m) t) handle
    ≡ cond ((t == sid) && (h == handle)) (Some k) (slot_of (pairs_of members t) handle)
slots_more members sid m h k t handle there none more = grind (arith, nat_tests, member_set, slot_of-more)

pub slots_less : (members : List KeptSessionModel) (sid : ℕ) (m : KeptSessionModel) (h t handle : ℕ)
    → sid < length members → m.pairs ≡ without_handle (pairs_of members sid) h
    → slot_of (pairs_of (set members sid m) t) handle
    ≡ cond ((t == sid) && (handle == h)) None (slot_of (pairs_of members t) handle)
slots_less members sid m h t handle there less = grind (arith, nat_tests, member_set, slot_of-less)

-- ==== What holds of a server stays so when one session, the views and the taken slots change.

-- ---- what a state sees of a server's parts

-- the machine of a member is the one of its session
pub session_of_member : (members : List KeptSessionModel) (t : ℕ) → session_in (map (λ m. m.session) members) t
    ≡ (kept_session_at members t).session
session_of_member members t = get_or-map (λ (m : KeptSessionModel). m.session) members t no_kept_session

module _ {config : Configuration} {stack : StackModel} {members : List KeptSessionModel} {slots : SlotsModel}
    {user : InputState} {s : ServerModel} (h : AreServerParts config stack members slots)
    (is : server_of config stack members user ≡ s) where
  -- so it is, by what contracts see of the server
  pub machine_is : (sid : ℕ) → session_in s.sessions sid ≡ (kept_session_at members sid).session
  machine_is sid = rw (← is) (session_of_member members sid)

  -- each session has its member
  pub has_member : {sid : ℕ} → sid < length s.sessions → sid < length members
  has_member lt = rw (← length-map members (λ (m : KeptSessionModel). m.session)) (rw (← is) at lt)

  -- and each member its session
  pub has_session : {sid : ℕ} → sid < length members → sid < length s.sessions
  has_session lt = rw (← is, length-map members (λ (m : KeptSessionModel). m.session)) lt

  -- the member that is read at its index
  pub own_member : {sid : ℕ} {m : KeptSessionModel} → sid < length s.sessions → m ≡ get_or members sid m
      → m ≡ kept_session_at members sid
  own_member {sid} {m} lt at = at ∙ get_or_default members sid m no_kept_session (has_member lt)

  -- its machine is the session's
  pub own_machine : {sid : ℕ} {m : KeptSessionModel} → sid < length s.sessions → m ≡ get_or members sid m
      → m.session ≡ session_in s.sessions sid
  own_machine {sid} lt at = ap (λ (n : KeptSessionModel). n.session) (own_member lt at) ∙ sym (machine_is sid)

-- the client of no session
abbrev pub no_client : Member
no_client = record { label = []; donation = 0; script = []; layer = 0; clicks = false }

-- the layers of the stack are those of the configuration
pub layers_are : (config : Configuration) (layers : List ℕ) → layers ≡ map (λ m. m.layer) config.clients
    → layer_of layers ≡ layer config
layers_are config layers e = λ i t. (ap (λ (ls : List ℕ). layer_of ls t) e
    ∙ get_or-map (λ (m : Member). m.layer) config.clients t no_client) i

-- ---- what holds of a server

-- a session pays as before, for what it has now
pub record PaysAgain (old new : KeptSessionModel) : Type 0 where
  pub account : new.session.donation + new.session.reserve ≡ old.session.donation + old.session.reserve
  pub paid : IsPaid new.session
  pub most : new.most ≡ old.most
  pub few : length new.pairs ≤ new.most

-- a session has the same views, as much to spend and to come as before, and pays for what it has
pub record IsRepaid (old new : KeptSessionModel) : Type 0 where
  pub pairs : new.pairs ≡ old.pairs
  pub most : new.most ≡ old.most
  pub sum : new.session.donation + new.session.reserve ≡ old.session.donation + old.session.reserve
  pub paid : IsPaid new.session

-- numbers that are none greater than others have no greater sum
sum-le : (xs ys : List ℕ) → length xs ≡ length ys → ((t : ℕ) → t < length xs → get_or xs t 0 ≤ get_or ys t 0)
    → sum xs ≤ sum ys
sum-le [] ys e h = omega arith
sum-le (x ∷ xs) [] e h = absurd (omega arith)
sum-le (x ∷ xs) (y ∷ ys) e h =
    let rest = sum-le xs ys (omega (arith, e)) (λ t lt. h (suc t) (omega (arith, lt))) in
    let first : x ≤ y = h 0 (omega arith) in
    omega (arith, rest, first, sum_by-cons (λ (n : ℕ). n) x xs, sum_by-cons (λ (n : ℕ). n) y ys)

words_within : (donation reserve whole used n : ℕ) → donation + reserve ≡ whole → used + 8 * n ≤ donation
    → n ≤ whole / 8
words_within donation reserve whole used n all paid = omega arith

module _ {config : Configuration} {stack : StackModel} {members : List KeptSessionModel} {slots : SlotsModel}
    (h : AreServerParts config stack members slots) where
  -- the sizes of the buffers, where one session's buffer keeps its size, and where it gets another
  pub same_sizes : (sid : ℕ) (m : KeptSessionModel)
      → size_of_buffer m.session ≡ size_of_buffer (kept_session_at members sid).session
      → stack.sizes ≡ map (λ n. size_of_buffer n.session) (set members sid m)
  same_sizes sid m e =
      h.sizes ∙ sym (map-set_same (λ (n : KeptSessionModel). size_of_buffer n.session) members sid m no_kept_session e)

  pub sizes_set : (sid : ℕ) (m : KeptSessionModel)
      → set stack.sizes sid (size_of_buffer m.session) ≡ map (λ n. size_of_buffer n.session) (set members sid m)
  sizes_set sid m = rw (h.sizes, map-set (λ (n : KeptSessionModel). size_of_buffer n.session) members sid m)

  -- a session changes, and with it the views, the sizes of the buffers and the taken slots
  pub stepped : {sid : ℕ} {m : KeptSessionModel} {views : List SlotView} {sizes : List Size} {taken : List ℕ}
      → sid < length members → IsStack (record stack { views = views; sizes = sizes })
      → sizes ≡ map (λ n. size_of_buffer n.session) (set members sid m)
      → PaysAgain (kept_session_at members sid) m
      → length taken + length (pairs_of members sid) ≡ length slots.taken + length m.pairs
      → AreSlotsNamed (pairs_of (set members sid m)) (length members) views (record slots { taken = taken })
      → AreServerParts config (record stack { views = views; sizes = sizes }) (set members sid m)
      (record slots { taken = taken })
  stepped {sid} {m} there standing sized pays counted seated =
      let before = h.counted ∙ sum-map held members in
      let now = sum-map held (set members sid m) in
      let change = sum_by-set held members sid m no_kept_session there in
      record {
        configured = h.configured;
        standing = standing;
        screen = h.screen;
        layers = h.layers;
        each = as_many ∙ h.each;
        sizes = sized;
        clients = λ t lt. rw (member_set members sid m t there) (client t (rw as_many at lt) (t == sid) refl);
        seated = rw as_many seated;
        counted = omega (arith, before, now, change, counted);
        places = h.places;
      }
    where
      as_many : length (set members sid m) ≡ length members
      as_many = length-set members sid m

      client : (t : ℕ) → t < length members → (b : Bool) → (t == sid) ≡ b
          → IsSessionOfClient (member config t).donation (cond b m (kept_session_at members t))
      client t lt true e = grind (arith, nat_tests, eqb-true)
      client t lt false e = h.clients t lt

      held : KeptSessionModel → ℕ
      held n = length n.pairs

  -- where a session has a place for one more view, a slot is free
  pub slot_is_free : {sid : ℕ} → sid < length members
      → length (pairs_of members sid) < (kept_session_at members sid).most → 0 < spare slots
  slot_is_free {sid} there place =
      let more = sum-le counts places as_many few in
      let set_one = sum_by-set (λ (n : ℕ). n) (map held members) sid (suc (length (pairs_of members sid))) 0 at in
      omega (arith, more, set_one, count_at sid, h.counted, h.places.1)
    where
      held : KeptSessionModel → ℕ
      held m = length m.pairs

      counts : List ℕ
      counts = set (map held members) sid (suc (length (pairs_of members sid)))

      places : List ℕ
      places = map (λ m. view_slots m.donation) config.clients

      same_length : length (map held members) ≡ length members
      same_length = length-map members held

      at : sid < length (map held members)
      at = rw same_length there

      as_many : length counts ≡ length places
      as_many = rw (length-set, same_length, length-map config.clients (λ (m : Member). view_slots m.donation)) h.each

      count_at : (t : ℕ) → get_or (map held members) t 0 ≡ length (pairs_of members t)
      count_at t = get_or-map held members t no_kept_session

      few : (t : ℕ) → t < length counts → get_or counts t 0 ≤ get_or places t 0
      few t lt =
          let own = h.clients t (rw (length-set, same_length) at lt) in
          let has_place = get_or-map (λ (m : Member). view_slots m.donation) config.clients t no_client in
          let one = get_or-set_at (map held members) sid t (suc (length (pairs_of members sid))) 0 in
          let others = get_or-set_other (map held members) sid t (suc (length (pairs_of members sid))) 0 in
          grind (arith, nat_tests, at, one, others, count_at t, has_place, own.most, own.few)

  -- what callers of a server see of it
  pub is_serving : {focus : FocusModel} → IsServerInput config focus
      → IsServer (server_of config stack members focus.input)
  is_serving attending = grind (arith, nat_tests, length-map, map-map, session_of_member, words_within)

  -- other views in the same slots
  pub restacked : {views : List SlotView} → IsStack (record stack { views = views })
      → ((k : ℕ) → name_in k views ≡ name_in k stack.views)
      → AreServerParts config (record stack { views = views }) members slots
  restacked {views} standing names = assumption (standing, seated, h)
    where
      seated : AreSlotsNamed (pairs_of members) (length members) views slots
      seated = record {
        named = λ t handle k l e. names k ∙ h.seated.named t handle k l e;
        kept = λ t handle k e. h.seated.kept t handle k (sym (names k) ∙ e);
        taken = λ k. cc (h.seated.taken k, has-name k stack.views, names k, has-name k views);
      }

  -- another machine of one session
  pub repaid : {sid : ℕ} {m : KeptSessionModel} {sizes : List Size} → sid < length members
      → IsRepaid (kept_session_at members sid) m
      → IsStack (record stack { sizes = sizes })
      → sizes ≡ map (λ n. size_of_buffer n.session) (set members sid m)
      → AreServerParts config (record stack { sizes = sizes }) (set members sid m) slots
  repaid {sid} {m} l r standing sized =
      stepped l standing sized (assumption (few, r)) (omega (arith, ap length r.pairs)) (rw same_pairs h.seated)
    where
      few : length m.pairs ≤ m.most
      few = omega (arith, ap length r.pairs, r.most, (h.clients sid l).few)

      pairs_at : (t : ℕ) → pairs_of (set members sid m) t ≡ pairs_of members t
      pairs_at t = grind (arith, nat_tests, r.pairs, member_set members sid m t l)

      same_pairs : pairs_of (set members sid m) ≡ pairs_of members
      same_pairs = λ i t. pairs_at t i

-- ---- what stays so when an accepted call was served

-- A call that is not refused was served, if its reply, the machine of its session, the views and the input are those
-- that it leaves, and each view of the session that was named by its slot still means the same.
pub served_by : {before after' : ServerModel} {sid : ℕ} {call : Call} {reply : Reply}
    → refusal (session_in before.sessions sid) call ≡ None
    → reply ≡ (accepted (session_in before.sessions sid) call).reply
    → after'.config ≡ before.config
    → after'.sessions ≡ set before.sessions sid (accepted (session_in before.sessions sid) call).session
    → views_of after'.stack.views ≡ stack_after_call (layer before.config) sid call reply (views_of before.stack.views)
    → after'.input ≡ input_after_call sid call reply before.input
    → ((k handle : ℕ) → IsNamedBy k sid handle before.stack.views → MeanSame k sid handle after'.stack.views)
    → (KeepsViews call → after'.stack.views ≡ before.stack.views)
    → IsServed sid call reply before after'
served_by {before} {sid = sid} {call} free replied config sessions views input named seats =
    let served : serve (session_in before.sessions sid) call ≡ accepted (session_in before.sessions sid) call =
    serve_accepted _ call free in
    record {
      replied = replied ∙ ap (λ a. a.reply) (sym served);
      state = λ i. record {
        config = config i;
        sessions = (sessions ∙ ap (λ a. set before.sessions sid a.session) (sym served)) i;
        stack = views i;
        input = input i;
      };
      named = named;
      seats = seats;
    }

-- an accepted call left what holds of a server, and was served
pub record IsDone (config : Configuration) (stack : StackModel) (members : List KeptSessionModel) (slots : SlotsModel)
    (user : InputState) (sid : ℕ) (call : Call) (reply : Reply) (now : ServerModel) : Type 0 where
  pub server : AreServerParts config stack members slots
  pub served : IsServed sid call reply now (server_of config stack members user)
