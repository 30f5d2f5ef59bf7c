-- What a stack of views keeps at every entry, where it keeps it as views are taken out, changed under their names,
-- moved, and put in.
use Rattle.std.proofs.Common.{All, Bool, List, None, Option, Some, [], ap, arith, cond, eqb-true}
use Rattle.std.proofs.Common.{false, find, get_or, get_or-set_same, not, refl, set, suc, sym, true}
use Rattle.std.proofs.Common.{zero, ℕ, ◌+◌, ◌<◌, ◌∙◌, ◌∷◌, ◌≡◌, ◌≤◌}
use Rattle.nit_screen.proofs.Basics.{Above, Agrees, All-changed, All-filter, All-head, All-nil}
use Rattle.nit_screen.proofs.Basics.{All-put, All-tail, All-weaker, All_found, AreBelowNext, Back}
use Rattle.nit_screen.proofs.Basics.{Call, Close, Configuration, Delivery, Destroy, Entry, Event}
use Rattle.nit_screen.proofs.Basics.{Front, HaveOwnNames, IsLegal, IsNewlyNamed, IsPutIn, Item}
use Rattle.nit_screen.proofs.Basics.{LegalFrom, NoPair-map, NoPair-put, NoPair-without, Offset}
use Rattle.nit_screen.proofs.Basics.{Place, Reply, Session, State, Take, Title, accepted, after}
use Rattle.nit_screen.proofs.Basics.{after_accepted, after_deliveries, after_delivery, and_parts}
use Rattle.nit_screen.proofs.Basics.{by_refusal, changed, delivered, first_session, first_state}
use Rattle.nit_screen.proofs.Basics.{flip, found_passes, is_session, is_view, layer, list_any}
use Rattle.nit_screen.proofs.Basics.{moved, nat_tests, new_view, none_left, put_again, puts_above}
use Rattle.nit_screen.proofs.Basics.{puts_back, puts_front, receive, refusal, refused_reply, replay}
use Rattle.nit_screen.proofs.Basics.{replay_from, route, session, session_in, taking, without}
use Rattle.nit_events.specs.declared.call.Call.TheVariants.{View}
use Rattle.nit_journal.specs.StackAfter.{stack_after_call}
use Rattle.nit_stack.specs.declared.view.View.{View as ViewOf}
use Rattle.nit_journal.specs.Session.{serve}
use Rattle.nit_screen.proofs.CleanCalls.{alike_at, event_keeps}
use Rattle.nit_events.specs.declared.event.Item.TheVariants as item
use Rattle.nit_events.specs.declared.call.Reply.TheVariants as reply
use Rattle.nit_events.specs.declared.entry.Entry.TheVariants as entry

-- a change that leaves the session and the handle
abbrev pub KeepsName : (ViewOf → ViewOf) → Type 0
KeepsName change = (v : ViewOf) → ((change v).sid ≡ v.sid) × ((change v).handle ≡ v.handle)

pub record IsKept (Q : List ViewOf → Type 0) : Type 0 where
  pub out : (is : ViewOf → Bool) (xs : List ViewOf) → Q xs → Q (without is xs)
  pub change : (is : ViewOf → Bool) (change : ViewOf → ViewOf) → KeepsName change → (xs : List ViewOf) → Q xs
      → Q (changed is change xs)
  pub again : (sid v : ℕ) (a : ViewOf) (xs now : List ViewOf) → find (is_view sid v) xs ≡ Some a
      → IsPutIn a (without (is_view sid v) xs) now → Q xs → Q now

-- it holds of the stack with the entry's new view as well
abbrev pub TakesNew : (List ViewOf → Type 0) → Entry → List ViewOf → Type 0
TakesNew Q (entry.Call sid View (reply.Handle h)) stack = (xs : List ViewOf) → IsPutIn (new_view sid h) stack xs → Q xs
TakesNew Q other stack = Unit {0}

module _ (Q : List ViewOf → Type 0) (k : IsKept Q) where
  moved_keeps : (sid v : ℕ) (put : ViewOf → List ViewOf → List ViewOf)
      → ((x : ViewOf) (xs : List ViewOf) → IsPutIn x xs (put x xs)) → (stack : List ViewOf) → Q stack
      → Q (moved (is_view sid v) put stack)
  moved_keeps sid v put puts stack q = where_found (find (is_view sid v) stack) refl
    where
      where_found : (o : Option ViewOf) → find (is_view sid v) stack ≡ o
          → Q (put_again put (without (is_view sid v) stack) stack o)
      where_found None found = q
      where_found (Some a) found = k.again sid v a stack _ found (puts a (without (is_view sid v) stack)) q

  accepted_keeps : (layers : ℕ → ℕ) (sid : ℕ) (call : Call) (r : Reply) (stack : List ViewOf)
      → TakesNew Q (entry.Call sid call r) stack → Q stack → Q (after_accepted layers sid call r stack)
  accepted_keeps layers sid View (reply.Handle h) stack new q = grind (arith, nat_tests, puts_front)
  accepted_keeps layers sid View other stack new q = q
  accepted_keeps layers sid (Place v x y w h) r stack new q = k.change (is_view sid v) _ (λ view. (refl, refl)) stack q
  accepted_keeps layers sid (Offset v ox oy) r stack new q = k.change (is_view sid v) _ (λ view. (refl, refl)) stack q
  accepted_keeps layers sid (Title v text) r stack new q = k.change (is_view sid v) _ (λ view. (refl, refl)) stack q
  accepted_keeps layers sid (Front v) r stack new q = grind (arith, nat_tests, moved_keeps, puts_front)
  accepted_keeps layers sid (Back v) r stack new q = grind (arith, nat_tests, moved_keeps, puts_back)
  accepted_keeps layers sid (Above v n) r stack new q = grind (arith, nat_tests, moved_keeps, puts_above)
  accepted_keeps layers sid (Destroy v) r stack new q = k.out (is_view sid v) stack q
  accepted_keeps layers sid Close r stack new q = k.out (is_session sid) stack q
  accepted_keeps layers sid other r stack new q = q

  call_keeps : (layers : ℕ → ℕ) (sid : ℕ) (call : Call) (r : Reply) (stack : List ViewOf)
      → TakesNew Q (entry.Call sid call r) stack → Q stack → Q (stack_after_call layers sid call r stack)
  unfolding stack_after_call
  call_keeps layers sid call r stack new q = grind (arith, nat_tests, accepted_keeps)

  deliveries_keep : (ds : List Delivery) (stack : List ViewOf) → Q stack → Q (after_deliveries ds stack)
  deliveries_keep [] stack q = q
  deliveries_keep (d ∷ ds) stack q = deliveries_keep ds (after_delivery d stack)
      (elim d.item as (λ i. Q (after_delivery (record { sid = d.sid; item = i }) stack))
      [ item.Event e ↦ q | item.Kill ↦ k.out (is_session d.sid) stack q ])

  pub entry_keeps : (s : State) (e : Entry) → TakesNew Q e s.stack → Q s.stack → Q (after s e).stack
  entry_keeps s (entry.Call sid call r) new q = call_keeps (layer s.config) sid call r s.stack new q
  entry_keeps s (entry.Input dev routed) new q = grind (arith, nat_tests, deliveries_keep)
  entry_keeps s other new q = q

-- ==== No two views have the same session and handle.

-- the two have one name
abbrev same_name : ViewOf → ViewOf → Bool
same_name v other = is_view v.sid v.handle other

both_ways : (a b : ViewOf) → same_name a b ≡ same_name b a
both_ways a b = grind (arith, nat_tests, flip)

-- a view of this name has it for its own
pub its_name : (sid handle : ℕ) (v : ViewOf) → is_view sid handle v ≡ true → (v.sid ≡ sid) × (v.handle ≡ handle)
its_name sid handle v named = grind (arith, nat_tests, and_parts, eqb-true)

own_is_kept : IsKept HaveOwnNames
own_is_kept = record {
  out = λ is xs own. NoPair-without same_name is xs own;
  change = λ is change same xs own. NoPair-map same_name (λ v. cond (is v) (change v) v)
      (λ a b. grind (arith, (same a).0, (same a).1, (same b).0, (same b).1)) xs own;
  again = λ sid handle v xs now found put own.
      let name = its_name sid handle v (found_passes (is_view sid handle) xs v found) in
      NoPair-put same_name both_ways v (without (is_view sid handle) xs) now put
      (rw (name.0, name.1) (none_left (is_view sid handle) xs)) (NoPair-without same_name (is_view sid handle) xs own);
}

own_takes_new : (e : Entry) (stack : List ViewOf) → HaveOwnNames stack → IsNewlyNamed e stack
    → TakesNew HaveOwnNames e stack
own_takes_new (entry.Call sid View (reply.Handle h)) stack own new =
    λ xs puts. NoPair-put same_name both_ways _ stack xs puts new own
own_takes_new other stack own new = tt

pub keeps_own : (s : State) (e : Entry) → HaveOwnNames s.stack → IsNewlyNamed e s.stack → HaveOwnNames (after s e).stack
keeps_own s e own new = entry_keeps HaveOwnNames own_is_kept s e (own_takes_new e s.stack own new) own

-- ==== Handles count up: each view's is below the next one of its session.

-- ---- the next handle of one session

pub taking_keeps_next : (queue : List Event) (t : Session) → (taking queue t).session.next ≡ t.next
taking_keeps_next [] t = refl
taking_keeps_next (e ∷ es) t = refl

accepted_counts : (t : Session) (call : Call) → t.next ≤ (accepted t call).session.next
accepted_counts t View = omega arith
accepted_counts t Take = omega (arith, taking_keeps_next t.queue t)
accepted_counts t other = omega arith

serve_counts : (t : Session) (call : Call) → t.next ≤ (serve t call).session.next
unfolding serve
serve_counts t call = grind (arith, nat_tests, accepted_counts)

receive_keeps_next : (t : Session) (i : Item) → (receive t i).next ≡ t.next
receive_keeps_next t (item.Event e) = ap (λ (u : Session). u.next) (event_keeps t.status e t)
receive_keeps_next t item.Kill = grind arith

-- ---- the handle that is answered

-- the new handle is the next one, and the next one counts up
new_handle : (t : Session) (h : ℕ) → (serve t View).reply ≡ reply.Handle h
    → (h ≡ t.next) × ((serve t View).session.next ≡ t.next + 1)
unfolding serve
new_handle t h e = unless_refused (refusal t View) refl e
  where
    unless_refused : (refused : Option Reply) → refusal t View ≡ refused
        → (by_refusal t View refused).reply ≡ reply.Handle h
        → (h ≡ t.next) × ((by_refusal t View refused).session.next ≡ t.next + 1)
    unless_refused None is e = (cc, refl)
    unless_refused (Some r) is e = grind (arith, nat_tests, refused_reply)

-- ---- all sessions

-- a larger number in one place of a list
grows_at : {A : Type 0} (f : A → ℕ) (xs : List A) (i : ℕ) (y d : A) → f (get_or xs i d) ≤ f y → (j : ℕ)
    → f (get_or xs j d) ≤ f (get_or (set xs i y) j d)
grows_at f [] i y d h j = omega arith
grows_at f (x ∷ xs) zero y d h zero = h
grows_at f (x ∷ xs) (suc i) y d h (suc j) = grows_at f xs i y d h j
grows_at f (x ∷ xs) i y d h j = omega arith

pub delivered_keeps_next : (ds : List Delivery) (sessions : List Session) (t : ℕ)
    → (session_in (delivered ds sessions) t).next ≡ (session_in sessions t).next
delivered_keeps_next [] sessions t = refl
delivered_keeps_next (d ∷ ds) sessions t =
    delivered_keeps_next ds (set sessions d.sid (receive (session_in sessions d.sid) d.item)) t
    ∙ alike_at (λ (u : Session). u.next) sessions d.sid (receive (session_in sessions d.sid) d.item)
    (receive_keeps_next (session_in sessions d.sid) d.item) t

counts_up : (s : State) (e : Entry) (t : ℕ) → (session s t).next ≤ (session (after s e) t).next
counts_up s (entry.Call sid call r) t =
    grows_at (λ (u : Session). u.next) s.sessions sid (serve (session s sid) call).session (first_session 0)
    (serve_counts (session s sid) call) t
counts_up s (entry.Input dev routed) t = let same =
    delivered_keeps_next (route s.config s.input s.stack dev).deliveries s.sessions t in omega arith
counts_up s other t = omega arith

-- ---- new names

-- a view whose handle is below a bound at its session has no name from there on
none_named : (bound : ℕ → ℕ) (sid h : ℕ) (views : List ViewOf) → h ≡ bound sid → All (λ v. v.handle < bound v.sid) views
    → list_any (is_view sid h) views ≡ false
none_named bound sid h [] at all = refl
none_named bound sid h (v ∷ views) at all =
    let below = All-head (λ (v : ViewOf). v.handle < bound v.sid) v views all in
    let rest = none_named bound sid h views at (All-tail (λ (v : ViewOf). v.handle < bound v.sid) v views all) in
    grind (arith, nat_tests, below, rest)

pub names_anew : (s : State) (taken : ℕ) (e : Entry) → AreBelowNext s → Agrees s taken e → IsNewlyNamed e s.stack
names_anew s taken (entry.Call sid View (reply.Handle h)) below agrees =
    none_named (λ t. (session s t).next) sid h s.stack (new_handle (session s sid) h (sym agrees.1)).0 below
names_anew s taken other below agrees = tt

-- ---- below the next

-- the handle is below the next one of the view's session
abbrev IsBelow : State → ViewOf → Type 0
IsBelow s v = v.handle < (session s v.sid).next

below_is_kept : (s : State) → IsKept (All (IsBelow s))
below_is_kept s = record {
  out = λ is xs all. All-filter (λ v. not (is v)) (IsBelow s) xs all;
  change = λ is change same xs all. All-changed (IsBelow s) is change (renamed change same) xs all;
  again = λ sid v a xs now found put all. All-put (IsBelow s) a (without (is_view sid v) xs) now put
      (All_found (IsBelow s) (is_view sid v) xs a all found)
      (All-filter (λ x. not (is_view sid v x)) (IsBelow s) xs all);
}
  where
    renamed : (change : ViewOf → ViewOf) → KeepsName change → (v : ViewOf) → IsBelow s v → IsBelow s (change v)
    renamed change same v below = let name = same v in rw (name.0, name.1) below

below_takes_new : (s : State) (taken : ℕ) (e : Entry) → Agrees s taken e → All (IsBelow (after s e)) s.stack
    → TakesNew (All (IsBelow (after s e))) e s.stack
below_takes_new s taken (entry.Call sid View (reply.Handle h)) agrees all =
    λ xs puts. All-put (IsBelow (after s (entry.Call sid View (reply.Handle h)))) (new_view sid h) s.stack xs puts here
    all
  where
    here : h < (session (after s (entry.Call sid View (reply.Handle h))) sid).next
    here = grind (arith, nat_tests, new_handle, get_or-set_same)
below_takes_new s taken other agrees all = tt

pub keeps_below : (s : State) (taken : ℕ) (e : Entry) → AreBelowNext s → Agrees s taken e → AreBelowNext (after s e)
keeps_below s taken e below agrees =
    grind (arith, nat_tests, All-weaker, counts_up, entry_keeps, below_is_kept, below_takes_new)

-- ---- a whole journal

abbrev AreNamed : State → Type 0
AreNamed s = HaveOwnNames s.stack × AreBelowNext s

replayed : (s : State) (taken : ℕ) (journal : List Entry) → LegalFrom s taken journal → AreNamed s
    → AreNamed (replay_from s journal)
replayed s taken [] legal named = named
replayed s taken (entry.Shot number ∷ rest) legal named = replayed s (taken + 1) rest legal.1 named
replayed s taken (entry.Final ∷ rest) legal named = rw legal named
replayed s taken (other ∷ rest) legal named =
    replayed (after s other) taken rest legal.1
    (keeps_own s other named.0 (names_anew s taken other named.1 legal.0), keeps_below s taken other named.1 legal.0)

pub named_throughout : (config : Configuration) (journal : List Entry) → IsLegal config journal
    → HaveOwnNames (replay config journal).stack × AreBelowNext (replay config journal)
named_throughout config journal legal =
    replayed (first_state config) 0 journal legal (tt, All-nil (IsBelow (first_state config)))
