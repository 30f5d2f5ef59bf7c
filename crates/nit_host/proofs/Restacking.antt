-- What the user's restacking of a view leaves.
use Rattle.std.proofs.Common.{Bool, List, None, Option, Some, [], ap, false, find, length}
use Rattle.std.proofs.Common.{nat_lt, not, refl, set, sym, true, ℕ, ◌&&◌, ◌-◌, ◌==◌, ◌∙◌, ◌∷◌}
use Rattle.std.proofs.Common.{◌≡◌}
use Rattle.nit_host.proofs.Basics.{Answered, Client, Foremost, HostModel, IsRestacked}
use Rattle.nit_host.proofs.Basics.{NoPair, NoPair-back, NoPair-filter, NoPair-front, Puts, Rearmost}
use Rattle.nit_host.proofs.Basics.{Reply, Session, Side, State, Status, View, after_act, and_parts}
use Rattle.nit_host.proofs.Basics.{answered, arith, by_status, called, cond_both, eqb-true, falls}
use Rattle.nit_host.proofs.Basics.{first_session, found_passes, has_view, is_client, is_live}
use Rattle.nit_host.proofs.Basics.{is_some, is_view, layer, moved, nat_tests, put}
use Rattle.nit_host.proofs.Basics.{put_back, put_front, refusal, restacked, serve, serve_accepted}
use Rattle.nit_host.proofs.Basics.{session, set-get_or, has_live_view, unless_for, unserved_restack}
use Rattle.nit_host.proofs.Basics.{without}
use Rattle.nit_host.proofs.Beginnings.{passed}
use Rattle.nit_events.specs.declared.call.Call.TheVariants as call
use Rattle.nit_events.specs.declared.call.Reply.TheVariants as reply
use Rattle.nit_events.specs.declared.event.Status.TheVariants as status
use Rattle.nit_journal.specs.StackAfter.{stack_after_call}

-- ---- the client would not be refused to move the view itself

by_life : (st : Status) (has : Bool) (v : ℕ)
    → is_some (Rattle.nit_journal.specs.Session.◌orelse◌ (by_status st)
    (Rattle.nit_journal.specs.Session.unless has (reply.NoSuchView v))) ≡ not (is_live st && has)
by_life status.Live true v = refl
by_life status.Live false v = refl
by_life status.Closed has v = refl
by_life status.Killed has v = refl

pub refused_to_move : (s : Session) (v : ℕ) → is_some (refusal s (call.Front v)) ≡ not (has_live_view s v)
refused_to_move s v = by_life s.status (has_view s v) v

none_if : (o : Option Reply) (b : Bool) → is_some o ≡ not b → b ≡ true → o ≡ None
none_if None b is shown = refl
none_if (Some r) b is shown = let wrong = is ∙ ap not shown in cc

pub may_move : (s : Session) (v : ℕ) → has_live_view s v ≡ true → refusal s (call.Front v) ≡ None
may_move s v is = none_if (refusal s (call.Front v)) (has_live_view s v) (refused_to_move s v) is

-- the user may put the view elsewhere
pub stands_if : (h : HostModel) (client : Client) (v : ℕ) → None ≡ unserved_restack h client v
    → has_live_view (session h.state client.seat) v ≡ true
stands_if h client v is =
    let known = passed (nat_lt client.seat (length h.state.sessions)) _ _ (sym is) in
    let own = passed (is_client h client) _ _ known.1 in
    (passed (has_live_view (session h.state client.seat) v) _ _ own.1).0

-- ---- the host behind a call of the kind that the client makes

module _ (h : HostModel) (seat v : ℕ) (is : has_live_view (session h.state seat) v ≡ true) where
  abbrev u : Session
  u = session h.state seat

  front_done : serve u (call.Front v) ≡ answered reply.Done u
  front_done = serve_accepted u (call.Front v) (may_move u v is)

  back_done : serve u (call.Back v) ≡ answered reply.Done u
  back_done = serve_accepted u (call.Back v) (may_move u v is)

  -- the session is as it was
  same_sessions : {a : Answered} → a ≡ answered reply.Done u → set h.state.sessions seat a.session ≡ h.state.sessions
  same_sessions done =
      ap (λ (a : Answered). set h.state.sessions seat a.session) done ∙ set-get_or h.state.sessions seat (first_session 0)

  front_stack : {a : Answered} → a ≡ answered reply.Done u
      → stack_after_call (layer h.state.config) seat (call.Front v) a.reply h.state.stack
      ≡ (restacked Foremost seat v h.state).stack
  unfolding stack_after_call
  front_stack done =
      ap (λ (a : Answered). stack_after_call (layer h.state.config) seat (call.Front v) a.reply h.state.stack) done

  back_stack : {a : Answered} → a ≡ answered reply.Done u
      → stack_after_call (layer h.state.config) seat (call.Back v) a.reply h.state.stack
      ≡ (restacked Rearmost seat v h.state).stack
  unfolding stack_after_call
  back_stack done =
      ap (λ (a : Answered). stack_after_call (layer h.state.config) seat (call.Back v) a.reply h.state.stack) done

  pub put_in_front : record (called seat (call.Front v) h) { last = None } ≡ put Foremost seat v h
  put_in_front = λ i. record h {
    state = record h.state { sessions = same_sessions front_done i; stack = front_stack front_done i };
    left = h.left - 1;
    last = None;
  }

  pub put_behind : record (called seat (call.Back v) h) { last = None } ≡ put Rearmost seat v h
  put_behind = λ i. record h {
    state = record h.state { sessions = same_sessions back_done i; stack = back_stack back_done i };
    left = h.left - 1;
    last = None;
  }

-- ---- the order of the others

module _ (is : View → Bool) (number : View → ℕ) (l : ℕ) where
  less_front : (a : View) → is a ≡ true → (xs : List View) → without is (put_front number l a xs) ≡ without is xs
  less_front a own [] = grind (arith, nat_tests)
  less_front a own (x ∷ xs) = grind (arith, nat_tests, cond_both, less_front a own xs)

  less_back : (a : View) → is a ≡ true → (xs : List View) → without is (put_back number l a xs) ≡ without is xs
  less_back a own [] = grind (arith, nat_tests)
  less_back a own (x ∷ xs) = grind (arith, nat_tests, cond_both, less_back a own xs)

  less_twice : (xs : List View) → without is (without is xs) ≡ without is xs
  less_twice [] = refl
  less_twice (x ∷ xs) = grind (arith, nat_tests, cond_both, less_twice xs)

-- ---- the law

module _ (s : State) (seat v : ℕ) where
  abbrev is : View → Bool
  is = is_view seat v

  abbrev number : View → ℕ
  number u = layer s.config u.sid

  abbrev l : ℕ
  l = layer s.config seat

  -- what holds of the stack and of each that the view is put into holds of the stack then
  by_found : (put : View → List View → List View) (P : List View → Type 0) → P s.stack
      → ((a : View) → is a ≡ true → P (put a (without is s.stack))) → P (moved is put s.stack)
  by_found put P stays goes = found (find is s.stack) refl
    where
      found : (o : Option View) → find is s.stack ≡ o → P (Rattle.nit_stack.specs.Orders.put_again put (without is s.stack) s.stack o)
      found None e = stays
      found (Some a) e = goes a (found_passes is s.stack a e)

  own_layer : (a : View) → is a ≡ true → number a ≡ l
  own_layer a own =
      ap (layer s.config) (eqb-true a.sid seat (and_parts (a.sid == seat) (a.handle == v) own).0)

  pub others_front : without is (moved is (put_front number l) s.stack) ≡ without is s.stack
  others_front =
      by_found (put_front number l) (λ xs. without is xs ≡ without is s.stack) refl
      (λ a own. less_front is number l a own (without is s.stack) ∙ less_twice is number l s.stack)

  pub others_back : without is (moved is (put_back number l) s.stack) ≡ without is s.stack
  others_back =
      by_found (put_back number l) (λ xs. without is xs ≡ without is s.stack) refl
      (λ a own. less_back is number l a own (without is s.stack) ∙ less_twice is number l s.stack)

  pub layers_front : NoPair (falls number) s.stack → NoPair (falls number) (moved is (put_front number l) s.stack)
  layers_front all =
      by_found (put_front number l) (NoPair (falls number)) all
      (λ a own. rw (← own_layer a own)
      (NoPair-front number a (without is s.stack) (NoPair-filter (falls number) (λ u. not (is u)) s.stack all)))

  pub layers_back : NoPair (falls number) s.stack → NoPair (falls number) (moved is (put_back number l) s.stack)
  layers_back all =
      by_found (put_back number l) (NoPair (falls number)) all
      (λ a own. rw (← own_layer a own)
      (NoPair-back number a (without is s.stack) (NoPair-filter (falls number) (λ u. not (is u)) s.stack all)))

by_reason : {A : Type 0} (o : Option A) (h served : HostModel) (seat v : ℕ) → IsRestacked h served seat v
    → IsRestacked h (unless_for o served h) seat v
by_reason None h served seat v is = is
by_reason (Some why) h served seat v is = record {
  sessions = refl;
  input = refl;
  config = refl;
  sheets = refl;
  turns = refl;
  others = refl;
  layers = λ all. all;
}

by_side : (h : HostModel) (side : Side) (seat v : ℕ) → IsRestacked h (put side seat v h) seat v
by_side h Foremost seat v = record {
  sessions = refl;
  input = refl;
  config = refl;
  sheets = refl;
  turns = refl;
  others = others_front h.state seat v;
  layers = layers_front h.state seat v;
}
by_side h Rearmost seat v = record {
  sessions = refl;
  input = refl;
  config = refl;
  sheets = refl;
  turns = refl;
  others = others_back h.state seat v;
  layers = layers_back h.state seat v;
}

pub only_restacked : (h : HostModel) (side : Side) (client : Client) (v : ℕ)
    → IsRestacked h (after_act h (Puts side client v)) client.seat v
only_restacked h side client v =
    by_reason (unserved_restack h client v) h (put side client.seat v h) client.seat v (by_side h side client.seat v)
