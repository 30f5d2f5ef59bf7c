-- The sizes of the sessions' buffers after a call or an item, and the sources of pixels by them.
use Rattle.nit_screen.proofs.Basics.{Above, Back, Buffer, Call, Close, Delivery, Destroy, Event}
use Rattle.nit_screen.proofs.Basics.{Front, InputState, IsPutIn, IsSpared, Item, Offset, Place}
use Rattle.nit_screen.proofs.Basics.{Point, Reply, Session, Size, State, Status, Take, Title}
use Rattle.nit_screen.proofs.Basics.{accepted, accepted_reply, after, after_accepted}
use Rattle.nit_screen.proofs.Basics.{after_deliveries, after_delivery, bar_rows, buffer_size}
use Rattle.nit_screen.proofs.Basics.{by_life, by_refusal, changed, covers, delivered, dirty_by_call}
use Rattle.nit_screen.proofs.Basics.{eqb-false, find-alike, find-changed, find-moved}
use Rattle.nit_screen.proofs.Basics.{find-put_failing, find-spared, first_session, get_or-map}
use Rattle.nit_screen.proofs.Basics.{in_bar, input_after_call, is_accepted, is_killed, is_session}
use Rattle.nit_screen.proofs.Basics.{is_view, layer, list_any, map-set_same, moved, nat_tests}
use Rattle.nit_screen.proofs.Basics.{new_view, nothing_spanned, option_map_or, or_parts, owner}
use Rattle.nit_screen.proofs.Basics.{owner_of, put_above, put_front, puts_above, puts_back}
use Rattle.nit_screen.proofs.Basics.{puts_front, receive, refusal, refused_reply, serve_accepted}
use Rattle.nit_screen.proofs.Basics.{serve_refused, session, session_in, set-get_or, source}
use Rattle.nit_screen.proofs.Basics.{source_of, source_under, spans, with_new, without}
use Rattle.nit_events.specs.declared.call.Call.TheVariants.{View}
use Rattle.std.proofs.Common.{Bool, List, None, Option, Some, [], ap, arith, cond, false, find}
use Rattle.std.proofs.Common.{get_or, get_or-set_other, if◌then◌else◌, option_map, pos, refl, set}
use Rattle.std.proofs.Common.{subst, sym, true, ℕ, ◌&&◌, ◌==◌, ◌||◌, ◌∙◌, ◌∷◌, ◌≡◌}
use Rattle.nit_journal.specs.Session.{serve}
use Rattle.nit_stack.specs.declared.view.View.{View as ViewOf}
use Rattle.nit_journal.specs.StackAfter.{stack_after_call}
use Rattle.nit_events.specs.declared.event.Item.TheVariants as item
use Rattle.nit_events.specs.declared.event.Status.TheVariants as status
use Rattle.nit_events.specs.declared.entry.Entry.TheVariants as entry
use Rattle.nit_events.specs.declared.call.Reply.TheVariants as reply

-- ---- one session

-- the size of a machine's buffer
abbrev pub size_of : Session → Size
size_of t = record { w = t.bw; h = t.bh }

-- the calls that change the size of the buffer
abbrev pub resizes : Call → Bool
resizes (Buffer w h) = true
resizes Close = true
resizes other = false

accepted_keeps_size : (t : Session) (call : Call) → resizes call ≡ false → size_of (accepted t call).session ≡ size_of t
accepted_keeps_size t (Buffer w h) no_resize = cc
accepted_keeps_size t Close no_resize = cc
accepted_keeps_size t Take no_resize = grind arith
accepted_keeps_size t other no_resize = refl

pub serve_keeps_size : (t : Session) (call : Call) → resizes call ≡ false → size_of (serve t call).session ≡ size_of t
unfolding serve
serve_keeps_size t call no_resize = grind (arith, nat_tests, accepted_keeps_size)

-- a call that is refused changes nothing
pub refused_is_unchanged : (t : Session) (call : Call) → is_accepted (serve t call).reply ≡ false
    → (serve t call).session ≡ t
unfolding serve
refused_is_unchanged t call h = unless_refused (refusal t call) h
  where
    unless_refused : (refused : Option Reply) → is_accepted (by_refusal t call refused).reply ≡ false
        → (by_refusal t call refused).session ≡ t
    unless_refused (Some r) h = refl
    unless_refused None h = let yes_ = accepted_reply t call in cc

-- a session but for its events
abbrev pub eventless : Session → Session
eventless t = record t { queue = []; lost = 0 }

-- an event changes no more
pub event_keeps : (was : Status) (e : Event) (t : Session) → eventless (by_life was (item.Event e) t) ≡ eventless t
event_keeps status.Live e t = grind arith
event_keeps other e t = refl

-- ---- all sessions

-- what does not tell one session of a list from another
pub alike_at : {B : Type 0} (f : Session → B) (sessions : List Session) (sid : ℕ) (now : Session)
    → f now ≡ f (session_in sessions sid) → (t : ℕ) → f (session_in (set sessions sid now) t)
    ≡ f (session_in sessions t)
alike_at {B} f sessions sid now same t =
    sym (get_or-map f (set sessions sid now) t (first_session 0))
    ∙ ap (λ (all : List B). get_or all t (f (first_session 0))) (map-set_same f sessions sid now (first_session 0) same)
    ∙ get_or-map f sessions t (first_session 0)

pub others_stay : (sessions : List Session) (sid : ℕ) (now : Session) (t : ℕ) → (t ≡ sid → ⊥)
    → buffer_size (set sessions sid now) t ≡ buffer_size sessions t
others_stay sessions sid now t other = ap size_of (get_or-set_other sessions sid t now (first_session 0) other)

-- ---- sources

-- by the same sizes
pub by_sizes : (sizes sizes' : ℕ → Size) (p : Point) (o : Option ViewOf) → ((t : ℕ) → sizes' t ≡ sizes t)
    → source_under sizes' p o ≡ source_under sizes p o
by_sizes sizes sizes' p o same = ap (λ (f : ℕ → Size). source_under f p o) (λ i t. same t i)

-- by the same sizes but for one session, where the owner is of another
pub by_other_sizes : (sid : ℕ) (sizes sizes' : ℕ → Size) (p : Point) (o : Option ViewOf)
    → ((t : ℕ) → (t ≡ sid → ⊥) → sizes' t ≡ sizes t) → IsSpared (is_session sid) o
    → source_under sizes' p o ≡ source_under sizes p o
by_other_sizes sid sizes sizes' p None same spared = refl
by_other_sizes sid sizes sizes' p (Some v) same spared = rw (same v.sid (eqb-false v.sid sid spared)) refl

-- the owner of a pixel is spared where each view that is found there is
pub owner_spared : (is : ViewOf → Bool) (rows : ℕ) (stack : List ViewOf) (p : Point)
    → ((v : ViewOf) → find (λ v. covers v.rect p) stack ≡ Some v → is v ≡ false) → IsSpared is (owner rows stack p)
owner_spared is rows stack p each = by_owner (in_bar rows p) (find (λ v. covers v.rect p) stack) refl
  where
    by_owner : (b : Bool) (o : Option ViewOf) → find (λ v. covers v.rect p) stack ≡ o → IsSpared is (cond b None o)
    by_owner true o e = refl
    by_owner false None e = refl
    by_owner false (Some v) e = each v e

-- ==== A call that a refusal meets, and one that none meets.

-- the stack after a call, by whether it was accepted
pub stack_called : (layers : ℕ → ℕ) (sid : ℕ) (call : Call) (r : Reply) (stack : List ViewOf) {b : Bool}
    → is_accepted r ≡ b
    → stack_after_call layers sid call r stack ≡ (if b then after_accepted layers sid call r stack else stack)
unfolding stack_after_call
stack_called layers sid call r stack e = rw e

-- a call that no refusal meets has the reply of an acceptance
pub unrefused_reply : (s : Session) (call : Call) → refusal s call ≡ None → is_accepted (serve s call).reply ≡ true
unrefused_reply s call e = ap (λ a. is_accepted a.reply) (serve_accepted s call e) ∙ accepted_reply s call

same_input : (sid : ℕ) (call : Call) (r : Reply) (i : InputState) → is_accepted r ≡ false
    → i ≡ input_after_call sid call r i
same_input sid Close r i e = rw e
same_input sid other r i e = refl

-- a call that is not accepted leaves the state as it was
pub unaccepted_state : (s : State) (sid : ℕ) (call : Call) (r : Reply) → r ≡ (serve (session s sid) call).reply
    → is_accepted r ≡ false → s ≡ after s (entry.Call sid call r)
unaccepted_state s sid call r agrees no_ =
    let unchanged = refused_is_unchanged (session s sid) call (sym (ap is_accepted agrees) ∙ no_) in
    let sessions_ = sym (set-get_or s.sessions sid (first_session 0)) ∙ ap (set s.sessions sid) (sym unchanged) in
    λ i. record {
      config = s.config;
      sessions = sessions_ i;
      stack = sym (stack_called (layer s.config) sid call r s.stack no_) i;
      input = same_input sid call r s.input no_ i;
    }

pub refused_state : (s : State) (sid : ℕ) (call : Call) (r : Reply) → refusal (session s sid) call ≡ Some r
    → s ≡ after s (entry.Call sid call r)
refused_state s sid call r e = grind (arith, nat_tests, unaccepted_state, serve_refused, refused_reply)

-- ==== The owner and the source of a pixel that a call does not make dirty.

-- ---- owners

-- the views that a pixel's owner is looked for among
abbrev over : Point → ViewOf → Bool
over p v = covers v.rect p

-- what is found first is found again, where no view of this kind is found before or after: so it is with owners
owned_alike : (is : ViewOf → Bool) (rows : ℕ) (p : Point) (stack stack' : List ViewOf)
    → (IsSpared is (find (over p) stack) → IsSpared is (find (over p) stack')
    → find (over p) stack' ≡ find (over p) stack)
    → (option_map_or is (owner rows stack p) false || option_map_or is (owner rows stack' p) false) ≡ false
    → owner rows stack' p ≡ owner rows stack p
owned_alike is rows p stack stack' same h = grind (arith, same, h)

pub owner-without : (is : ViewOf → Bool) (rows : ℕ) (p : Point) (stack : List ViewOf) → IsSpared is (owner rows stack p)
    → owner rows (without is stack) p ≡ owner rows stack p
owner-without is rows p stack h = grind (arith, find-spared is (over p) stack, h)

-- a new view has no extent, and covers no pixel
owner-new : (layers : ℕ → ℕ) (sid : ℕ) (r : Reply) (rows : ℕ) (p : Point) (stack : List ViewOf)
    → owner rows (with_new layers sid r stack) p ≡ owner rows stack p
owner-new layers sid (reply.Handle h) rows p stack =
    ap (λ (o : Option ViewOf). cond (in_bar rows p) None o)
    (find-put_failing (over p) (new_view sid h) stack
    (put_front (λ v. layers v.sid) (layers sid) (new_view sid h) stack)
    (puts_front (λ v. layers v.sid) (layers sid) (new_view sid h) stack)
    (ap (λ b. b && spans (pos 0) 0 p.y) (nothing_spanned p.x)))
owner-new layers sid other rows p stack = refl

-- ---- what an accepted call does to the stack

moved_spared : (sid v : ℕ) (put : ViewOf → List ViewOf → List ViewOf)
    → ((x : ViewOf) (xs : List ViewOf) → IsPutIn x xs (put x xs)) → (rows : ℕ) (p : Point) (stack : List ViewOf)
    → (option_map_or (is_view sid v) (owner rows stack p) false
    || option_map_or (is_view sid v) (owner rows (moved (is_view sid v) put stack) p) false) ≡ false
    → owner rows (moved (is_view sid v) put stack) p ≡ owner rows stack p
moved_spared sid v put puts rows p stack = grind (arith, nat_tests, owned_alike, find-moved)

-- a source does not tell the title
titled_alike : (sizes : ℕ → Size) (rows : ℕ) (p : Point) (is : ViewOf → Bool) (text : List ℕ) (stack : List ViewOf)
    → source sizes rows (changed is (λ v. record v { title = text }) stack) p ≡ source sizes rows stack p
titled_alike sizes rows p is text stack =
    ap (λ (o : Option ViewOf). source_under sizes p (cond (in_bar rows p) None o))
    (find-alike (over p) f (λ v. grind arith) stack)
    ∙ by_owner (in_bar rows p) (find (over p) stack)
  where
    f : ViewOf → ViewOf
    f v = if is v then record v { title = text } else v

    by_owner : (b : Bool) (o : Option ViewOf)
        → source_under sizes p (cond b None (option_map f o)) ≡ source_under sizes p (cond b None o)
    by_owner true o = refl
    by_owner false None = refl
    by_owner false (Some v) = grind arith

-- the state with the stack after an accepted call, these sessions and this input
abbrev accepting : State → ℕ → Call → Reply → List Session → InputState → State
accepting s sid call r sessions input =
    record s { sessions = sessions; stack = after_accepted (layer s.config) sid call r s.stack; input = input }

-- the stack changes, by the sizes of before
restacked : (s : State) (sid : ℕ) (call : Call) (r : Reply) (sessions : List Session) (input : InputState) (p : Point)
    → dirty_by_call sid call s (accepting s sid call r sessions input) p ≡ false
    → source_of (record (accepting s sid call r sessions input) { sessions = s.sessions }) p ≡ source_of s p
restacked s sid (Place v x y w h) r sessions input p clean = grind (arith, nat_tests, owned_alike, find-changed)
restacked s sid (Offset v ox oy) r sessions input p clean = grind (arith, nat_tests, owned_alike, find-changed)
restacked s sid (Front v) r sessions input p clean = grind (arith, nat_tests, moved_spared, puts_front)
restacked s sid (Back v) r sessions input p clean = grind (arith, nat_tests, moved_spared, puts_back)
restacked s sid (Above v n) r sessions input p clean = whether_itself (v == n) clean
  where
    whether_itself : (same : Bool) → dirty_by_call sid (Front v) s (record s {
      stack = cond same s.stack (moved (is_view sid v) (put_above (is_view sid n)) s.stack);
    }) p ≡ false → source (buffer_size s.sessions) (bar_rows s.config)
        (cond same s.stack (moved (is_view sid v) (put_above (is_view sid n)) s.stack)) p ≡ source_of s p
    whether_itself true h = refl
    whether_itself false h = grind (arith, nat_tests, moved_spared, puts_above)
restacked s sid (Destroy v) r sessions input p clean = grind (arith, nat_tests, owner-without)
restacked s sid Close r sessions input p clean = grind (arith, nat_tests, owner-without)
restacked s sid View r sessions input p clean = grind (arith, nat_tests, owner-new)
restacked s sid (Title v text) r sessions input p clean = grind (arith, nat_tests, titled_alike)
restacked s sid other r sessions input p clean = refl

-- the owner after a call that changes a buffer's size is of another session
resized_spares : (s : State) (sid : ℕ) (call : Call) (r : Reply) (sessions : List Session) (input : InputState)
    (p : Point) → resizes call ≡ true
    → dirty_by_call sid call s (accepting s sid call r sessions input) p ≡ false
    → IsSpared (is_session sid) (owner_of (accepting s sid call r sessions input) p)
resized_spares s sid (Buffer w h) r sessions input p resized clean = clean
resized_spares s sid Close r sessions input p resized clean = grind (arith, nat_tests, owner-without)
resized_spares s sid other r sessions input p resized clean = cc

-- the sessions after a call
abbrev served : State → ℕ → Call → List Session
served s sid call = set s.sessions sid (serve (session s sid) call).session

-- the sizes change, by the stack of after
accepted_is_clean : (s : State) (sid : ℕ) (call : Call) (r : Reply) (input : InputState) (p : Point)
    → dirty_by_call sid call s (accepting s sid call r (served s sid call) input) p ≡ false
    → source_of (accepting s sid call r (served s sid call) input) p ≡ source_of s p
accepted_is_clean s sid call r input p clean =
    resized (resizes call) refl ∙ restacked s sid call r (served s sid call) input p clean
  where
    resized : (b : Bool) → resizes call ≡ b → source_of (accepting s sid call r (served s sid call) input) p
        ≡ source_of (accepting s sid call r s.sessions input) p
    resized true e = grind (arith, nat_tests, by_other_sizes, others_stay, resized_spares)
    resized false e =
        by_sizes (buffer_size s.sessions) (buffer_size (served s sid call)) p
        (owner_of (accepting s sid call r s.sessions input) p)
        (alike_at size_of s.sessions sid (serve (session s sid) call).session
        (serve_keeps_size (session s sid) call e))

-- ---- any call

pub call_is_clean : (s : State) (sid : ℕ) (call : Call) (r : Reply) (p : Point) → r ≡ (serve (session s sid) call).reply
    → (is_accepted r && dirty_by_call sid call s (after s (entry.Call sid call r)) p) ≡ false
    → source_of (after s (entry.Call sid call r)) p ≡ source_of s p
call_is_clean s sid call r p replied clean = whether_accepted (is_accepted r) refl
  where
    whether_accepted : (b : Bool) → is_accepted r ≡ b → source_of (after s (entry.Call sid call r)) p ≡ source_of s p
    whether_accepted false no_ = ap (λ (t : State). source_of t p) (sym (unaccepted_state s sid call r replied no_))
    whether_accepted true yes_ =
        let sessions = served s sid call in
        let input = input_after_call sid call r s.input in
        subst
        (λ (stack : List ViewOf). dirty_by_call sid call s
        (record s { sessions = sessions; stack = stack; input = input }) p ≡ false
        → source_of (record s { sessions = sessions; stack = stack; input = input }) p ≡ source_of s p)
        (sym (stack_called (layer s.config) sid call r s.stack yes_))
        (accepted_is_clean s sid call r input p)
        (rw yes_ at clean)

-- ==== The source of a pixel that no killed session owned.

-- ---- one delivery

-- the state after it, but for the user's input
abbrev handed : ℕ → Item → State → State
handed sid i s = record s {
  sessions = set s.sessions sid (receive (session s sid) i);
  stack = after_delivery (record { sid = sid; item = i }) s.stack;
}

owner_stays : (s : State) (sid : ℕ) (i : Item) (p : Point) → is_killed s p sid i ≡ false
    → owner_of (handed sid i s) p ≡ owner_of s p
owner_stays s sid (item.Event e) p clean = refl
owner_stays s sid item.Kill p clean = owner-without (is_session sid) (bar_rows s.config) p s.stack clean

source_stays : (s : State) (sid : ℕ) (i : Item) (p : Point) → is_killed s p sid i ≡ false
    → source_of (handed sid i s) p ≡ source_of s p
source_stays s sid (item.Event e) p clean =
    let same = ap size_of (event_keeps (session s sid).status e (session s sid)) in
    by_sizes (buffer_size s.sessions) (buffer_size (handed sid (item.Event e) s).sessions) p (owner_of s p)
    (alike_at size_of s.sessions sid (receive (session s sid) (item.Event e)) same)
source_stays s sid item.Kill p clean =
    ap (source_under (buffer_size (handed sid item.Kill s).sessions) p) (owner_stays s sid item.Kill p clean)
    ∙ by_other_sizes sid (buffer_size s.sessions) (buffer_size (handed sid item.Kill s).sessions) p (owner_of s p)
    (others_stay s.sessions sid (receive (session s sid) item.Kill)) clean

-- who is killed is told by the owner
same_killed : (s t : State) (p : Point) (sid : ℕ) (i : Item) → owner_of t p ≡ owner_of s p
    → is_killed t p sid i ≡ is_killed s p sid i
same_killed s t p sid (item.Event e) same = refl
same_killed s t p sid item.Kill same = ap (λ (o : Option ViewOf). option_map_or (is_session sid) o false) same

-- ---- all deliveries

none_killed : (s t : State) (p : Point) (ds : List Delivery) → owner_of t p ≡ owner_of s p
    → list_any (λ d. is_killed t p d.sid d.item) ds ≡ list_any (λ d. is_killed s p d.sid d.item) ds
none_killed s t p [] same = refl
none_killed s t p (d ∷ ds) same = rw (same_killed s t p d.sid d.item same, none_killed s t p ds same)

pub deliveries_are_clean : (ds : List Delivery) (s : State) (p : Point) → list_any (λ d. is_killed s p d.sid d.item) ds
    ≡ false
    → source_of (record s { sessions = delivered ds s.sessions; stack = after_deliveries ds s.stack }) p ≡ source_of s p
deliveries_are_clean [] s p clean = refl
deliveries_are_clean (d ∷ ds) s p clean =
    let parts = or_parts (is_killed s p d.sid d.item) (list_any (λ e. is_killed s p e.sid e.item) ds) clean in
    let t = handed d.sid d.item s in
    deliveries_are_clean ds t p (none_killed s t p ds (owner_stays s d.sid d.item p parts.0) ∙ parts.1)
    ∙ source_stays s d.sid d.item p parts.0
