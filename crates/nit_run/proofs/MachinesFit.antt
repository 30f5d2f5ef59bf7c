-- What the machine of a session answers, and what the user's input delivers, is within the format of texts.
use Rattle.std.proofs.Common.{Bool, List, None, Option, Some, [], add-zero, add_assoc, arith, cond}
use Rattle.std.proofs.Common.{false, length, nat_le, nat_lt, refl, rules, true, ℕ, ◌&&◌, ◌++◌, ◌+◌}
use Rattle.std.proofs.Common.{◌-◌, ◌<◌, ◌^◌, ◌∷◌, ◌≡◌, ◌≤◌}
use Rattle.nit_run.proofs.Basics.{AllByRecursion, Answered, Buffer, Call, Calls, Delivery, Device}
use Rattle.nit_run.proofs.Basics.{Event, FitsCall, FitsDevice, FitsEvent, FitsItem, FitsReply, Flat}
use Rattle.nit_run.proofs.Basics.{Gets, InputState, IsCode, Item, Kill, Mode, Observation, Reply}
use Rattle.nit_run.proofs.Basics.{Routing, Session, Status, Take, Upgrade, Xray, accepted}
use Rattle.nit_run.proofs.Basics.{after_observations, all_append, buffer_left, buffer_need, by_call}
use Rattle.nit_run.proofs.Basics.{by_life, by_quota, by_refusal, by_status, either, first_press}
use Rattle.nit_run.proofs.Basics.{first_session, focusing, hovering, ignored, is_side, killing}
use Rattle.nit_run.proofs.Basics.{leaving, letting_go, moving, mul-le, nat_tests, pointer_after}
use Rattle.nit_run.proofs.Basics.{press, pressing, receive, received, refusal, release, routing}
use Rattle.nit_run.proofs.Basics.{second_none, switching, taking, to, unless, with_held, ◌orelse◌}
use Rattle.nit_events.specs.declared.call.Call.TheVariants.{View}
use Rattle.nit_journal.specs.Session.{serve}
use Rattle.nit_events.specs.declared.call.Reply.TheVariants as reply
use Rattle.nit_events.specs.declared.device.Device.TheVariants as device
use Rattle.nit_events.specs.declared.event.Event.TheVariants as event
use Rattle.nit_events.specs.declared.event.Item.TheVariants as item
use Rattle.nit_events.specs.declared.event.Status.TheVariants as status

-- what is known of a machine that was called at most so often
pub record IsFine (t : Session) (n : ℕ) : Type 0 where
  pub sum : t.donation + t.reserve ≤ 8388608
  pub next : t.next ≤ n + 1
  pub queue : AllByRecursion FitsEvent t.queue

pub opens_fine : (donation : ℕ) → donation ≤ 8388608 → IsFine (first_session donation) 0
opens_fine donation most = grind (arith, nat_tests)

-- ---- refusals

abbrev RefusalFits : Option Reply → Type 0
RefusalFits None = Unit {0}
RefusalFits (Some r) = FitsReply r

fits_unless : (b : Bool) (r : Reply) → FitsReply r → RefusalFits (unless b r)
fits_unless true r f = tt
fits_unless false r f = f

fits_first : (p q : Option Reply) → RefusalFits p → RefusalFits q → RefusalFits (p orelse q)
fits_first (Some r) q f g = f
fits_first None q f g = g

need_small : (w h : ℕ) → (is_side w && is_side h) ≡ true → buffer_need w h < 10 ^ 9
need_small w h is = grind (arith, nat_tests, mul-le)

fits_buffer : (b : Bool) (t : Session) (n w h : ℕ) → IsFine t n → (is_side w && is_side h) ≡ b
    → RefusalFits (unless b reply.BadSize orelse by_quota (buffer_need w h) (buffer_left t.donation (length t.handles)))
fits_buffer false t n w h f is = tt
fits_buffer true t n w h f is = grind (arith, nat_tests, fits_unless, need_small)

fits_by_call : (t : Session) (n : ℕ) (call : Call) → IsFine t n → FitsCall call → RefusalFits (by_call t call)
fits_by_call t n (Buffer w h) f c = fits_buffer (is_side w && is_side h) t n w h f refl
fits_by_call t n View f c = grind (arith, nat_tests, fits_first, fits_unless)
fits_by_call t n (Upgrade m) f c = fits_unless (nat_le m t.reserve) _ (c, omega (arith, f.sum))
fits_by_call t n other f c = search (rules, fits_first, fits_unless)

fits_status : (s : Status) → RefusalFits (by_status s)
fits_status status.Live = tt
fits_status other = tt

refusal_fits : (t : Session) (n : ℕ) (call : Call) → IsFine t n → FitsCall call → RefusalFits (refusal t call)
refusal_fits t n call f c = fits_first (by_status t.status) (by_call t call) (fits_status t.status)
    (fits_by_call t n call f c)

-- ---- a call that is not refused

-- what it answers, and what it leaves
pub record AnswerFits (a : Answered) (n : ℕ) : Type 0 where
  pub reply_fits : FitsReply a.reply
  pub fine : IsFine a.session (n + 1)

later : (t : Session) (n : ℕ) → IsFine t n → IsFine t (n + 1)
later t n f = record { sum = f.sum; next = omega (arith, f.next); queue = f.queue }

taking_fits : (queue : List Event) (t : Session) (n : ℕ) → IsFine t n → AllByRecursion FitsEvent queue
    → AnswerFits (taking queue t) n
taking_fits [] t n f q = record { reply_fits = tt; fine = later t n f }
taking_fits (e ∷ es) t n f q = grind (arith, nat_tests)

accepted_fits : (t : Session) (n : ℕ) (call : Call) → IsFine t n → n ≤ 2000000 → by_call t call ≡ None
    → AnswerFits (accepted t call) n
accepted_fits t n View f few none = grind (arith, nat_tests)
accepted_fits t n Take f few none = taking_fits t.queue t n f f.queue
accepted_fits t n (Upgrade m) f few none = grind (arith, nat_tests)
accepted_fits t n other f few none = record { reply_fits = tt; fine = assumption (tt, later t n f) }

pub served : (t : Session) (n : ℕ) (call : Call) → IsFine t n → n ≤ 2000000 → FitsCall call
    → AnswerFits (serve t call) n
unfolding serve
served t n call f few c = unless_refused (refusal t call) refl (refusal_fits t n call f c)
  where
    unless_refused : (o : Option Reply) → refusal t call ≡ o → RefusalFits o → AnswerFits (by_refusal t call o) n
    unless_refused (Some r) is g = record { reply_fits = g; fine = later t n f }
    unless_refused None is g = accepted_fits t n call f few (second_none (by_status t.status) (by_call t call) is)

-- ---- items, and moments

queued_fine : (b : Bool) (t : Session) (n : ℕ) (e : Event) → IsFine t n → FitsEvent e
    → IsFine (cond b (record t { queue = t.queue ++ e ∷ [] }) (record t { lost = t.lost + 1 })) n
queued_fine true t n e f g = grind (arith, nat_tests, all_append)
queued_fine false t n e f g = record { sum = f.sum; next = f.next; queue = f.queue }

receive_fine : (s : Status) (t : Session) (n : ℕ) (i : Item) → IsFine t n → FitsItem i → IsFine (by_life s i t) n
receive_fine status.Live t n (item.Event e) f g = queued_fine (nat_lt (length t.queue) 64) t n e f g
receive_fine status.Live t n item.Kill f g = record { sum = f.sum; next = f.next; queue = tt }
receive_fine other t n i f g = f

-- a call or an item within the format
abbrev pub MomentFits : Observation → Type 0
MomentFits (Calls call) = FitsCall call
MomentFits (Gets i) = FitsItem i

-- how many calls are among moments
abbrev pub calls_among : List Observation → ℕ
calls_among [] = 0
calls_among (Calls call ∷ rest) = 1 + calls_among rest
calls_among (Gets i ∷ rest) = calls_among rest

pub moments_fine : (t : Session) (n : ℕ) (moments : List Observation) → IsFine t n → n + calls_among moments ≤ 2000000
    → AllByRecursion MomentFits moments → IsFine (after_observations t moments) (n + calls_among moments)
moments_fine t n [] f few g = rw add-zero f
moments_fine t n (Calls call ∷ rest) f few g =
    rw (← add_assoc n 1 (calls_among rest))
    (moments_fine (serve t call).session (n + 1) rest (served t n call f (omega arith) g.0).fine (omega arith) g.1)
moments_fine t n (Gets i ∷ rest) f few g = moments_fine (receive t i) n rest (receive_fine t.status t n i f g.0) few g.1

-- ---- what the user's input delivers is within the format of texts

-- each item is within the format
abbrev pub ItemsFit : List Delivery → Type 0
ItemsFit ds = AllByRecursion (λ d. FitsItem d.item) ds

both : (xs ys : List Delivery) → ItemsFit xs → ItemsFit ys → ItemsFit (xs ++ ys)
both xs ys f g = all_append (λ d. FitsItem d.item) xs ys f g

-- what is delivered fits, and the pointer stays where it is
pub record RouteFits (i : InputState) (r : Routing) : Type 0 where
  pub items : ItemsFit r.deliveries
  pub x : r.state.x ≡ i.x
  pub y : r.state.y ≡ i.y

to_fits : (o : Option ℕ) (e : Event) → FitsEvent e → ItemsFit (to o e)
to_fits None e f = tt
to_fits (Some s) e f = (f, tt)

ignored_fits : (i : InputState) → RouteFits i (ignored i)
ignored_fits i = record { items = tt; x = refl; y = refl }

hovering_fits : (m : Mode) (pointed : Option ℕ) (i : InputState) (e : Event) → FitsEvent e
    → RouteFits i (hovering m pointed i e)
hovering_fits Flat pointed i e f = grind (arith, nat_tests, either, to_fits, both)
hovering_fits other pointed i e f = ignored_fits i

moving_fits : (held : List ℕ) (pointed : Option ℕ) (i : InputState) (e : Event) → FitsEvent e
    → RouteFits i (moving held pointed i e)
moving_fits [] pointed i e f = hovering_fits i.mode pointed i e f
moving_fits (k ∷ ks) pointed i e f = record { items = to_fits i.receiver e f; x = refl; y = refl }

leaving_fits : (m : Mode) (i : InputState) (new : Mode) → RouteFits i (leaving m i new)
leaving_fits Flat i new = record { items = to_fits i.hover event.Leave tt; x = refl; y = refl }
leaving_fits other i new = record { items = tt; x = refl; y = refl }

switching_fits : (held : List ℕ) (i : InputState) (new : Mode) → RouteFits i (switching held i new)
switching_fits [] i new = leaving_fits i.mode i new
switching_fits (k ∷ ks) i new = ignored_fits i

focusing_fits : (clicks : Bool) (pointed : Option ℕ) (i : InputState) → RouteFits i (focusing clicks pointed i)
focusing_fits clicks pointed i = grind (arith, nat_tests, either, both, to_fits, ignored_fits)

received_fits : {i : InputState} {r : Routing} (s : Option ℕ) (e : Event) → FitsEvent e → RouteFits i r
    → RouteFits i (received s e r)
received_fits {r = r} s e f h =
    record { items = both r.deliveries (to s e) h.items (to_fits s e f); x = h.x; y = h.y }

killing_fits : (pointed : Option ℕ) (i : InputState) → RouteFits i (killing pointed i)
killing_fits None i = record { items = tt; x = refl; y = refl }
killing_fits (Some s) i = record { items = (tt, tt); x = refl; y = refl }

first_press_fits : (m : Mode) (clicks : Bool) (pointed : Option ℕ) (i : InputState) (k : ℕ) → IsCode k
    → RouteFits i (first_press m clicks pointed i k)
first_press_fits Flat clicks pointed i k f =
    grind (arith, nat_tests, either, received_fits, focusing_fits, ignored_fits)
first_press_fits Xray clicks pointed i k f = grind (arith, nat_tests, either, focusing_fits, ignored_fits)
first_press_fits Kill clicks pointed i k f = grind (arith, nat_tests, either, killing_fits, ignored_fits)

pressing_fits : (held : List ℕ) (clicks : Bool) (pointed : Option ℕ) (i : InputState) (k : ℕ) → IsCode k
    → RouteFits i (pressing held clicks pointed i k)
pressing_fits [] clicks pointed i k f = assumption (first_press_fits i.mode clicks pointed (with_held i k) k f)
pressing_fits (j ∷ js) clicks pointed i k f = grind (arith, nat_tests, to_fits)

press_fits : (clicks : Bool) (pointed : Option ℕ) (i : InputState) (k : ℕ) → IsCode k
    → RouteFits i (press clicks pointed i k)
press_fits clicks pointed i k f = grind (arith, nat_tests, either, switching_fits, ignored_fits, pressing_fits)

letting_go_fits : (held : List ℕ) (i : InputState) (ds : List Delivery) → ItemsFit ds
    → RouteFits i (record { state = letting_go held i; deliveries = ds })
letting_go_fits [] i ds f = record { items = f; x = refl; y = refl }
letting_go_fits (j ∷ js) i ds f = record { items = f; x = refl; y = refl }

release_fits : (i : InputState) (k : ℕ) → IsCode k → RouteFits i (release i k)
release_fits i k f = grind (arith, nat_tests, either, letting_go_fits, to_fits, ignored_fits)

pub routing_fits : (clicks : Bool) (pointed : Option ℕ) (i : InputState) (dev : Device) → FitsDevice dev → i.x ≤ 65535
    → i.y ≤ 65535 → RouteFits i (routing clicks pointed i dev)
routing_fits clicks pointed i (device.Motion x y) f a b = moving_fits i.held pointed i (event.Motion i.x i.y) (a, b)
routing_fits clicks pointed i (device.Wheel n) f a b = moving_fits i.held pointed i (event.Wheel n) f
routing_fits clicks pointed i (device.Press k) f a b = press_fits clicks pointed i k f
routing_fits clicks pointed i (device.Release k) f a b = release_fits i k f

-- the pointer is at a place of the format
pub record PointsFit (i : InputState) : Type 0 where
  pub x : i.x ≤ 65535
  pub y : i.y ≤ 65535

pub moved_fits : (width height : ℕ) (i : InputState) (dev : Device) → FitsDevice dev → PointsFit i
    → PointsFit (pointer_after width height i dev)
moved_fits width height i (device.Motion x y) f p = record { x = omega (arith, f.0); y = omega (arith, f.1) }
moved_fits width height i other f p = p
