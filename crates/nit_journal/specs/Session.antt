-- The machine of one session. It knows no other session, no stack and no slots.
use Rattle.std.specs.Prelude.{ℕ, ◌+◌, ◌-◌, ◌*◌, Bool, ◌&&◌, not, nat_lt, nat_le, ◌==◌, List, []}
use Rattle.std.specs.Prelude.{◌∷◌, ◌++◌, length, filter, fold, Option, Some, None, if◌then◌else◌}
use Rattle.nit_journal.specs.Below.{Above, Back, Buffer, Call, Close, Destroy, Event, Front, Item}
use Rattle.nit_journal.specs.Below.{Offset, Place, Refresh, Reply, Status, Take, Title, Upgrade}
use Rattle.nit_journal.specs.Below.{View, buffer_left, buffer_need, is_place, is_rectangle}
use Rattle.nit_journal.specs.Below.{is_title, list_any, most_side, most_views, most_waiting, room}
use Rattle.nit_journal.specs.Below.{view_left, view_need}
use Rattle.nit_events.specs.declared.event.Item.TheVariants as item
use Rattle.nit_events.specs.declared.event.Status.TheVariants as status
use Rattle.nit_events.specs.declared.call.Reply.TheVariants as reply

-- its donation and reserve in units; whether it is served; the width and height of its buffer; the
-- handle of its next view; its handles; its queued events; how many events were lost
pub record Session : Type 0 where
  pub donation : ℕ
  pub reserve : ℕ
  pub status : Status
  pub bw : ℕ
  pub bh : ℕ
  pub next : ℕ
  pub handles : List ℕ
  pub queue : List Event
  pub lost : ℕ

-- a session as it opens with a donation
abbrev pub first_session : ℕ → Session
first_session donation =
    record {
      donation = donation;
      reserve = room donation - donation;
      status = status.Live;
      bw = 0;
      bh = 0;
      next = 1;
      handles = [];
      queue = [];
      lost = 0;
    }

-- ---- refusals

-- the first of two refusals
infixr 10 ◌orelse◌
abbrev pub ◌orelse◌ : Option Reply → Option Reply → Option Reply
(Some r) orelse q = Some r
None orelse q = q

-- refused so, unless this holds
abbrev pub unless : Bool → Reply → Option Reply
unless holds r = if holds then None else Some r

abbrev pub by_status : Status → Option Reply
by_status status.Live = None
by_status status.Closed = Some reply.Closed
by_status status.Killed = Some reply.Killed

-- the session has a view of this handle
abbrev pub has_view : Session → ℕ → Bool
has_view s v = list_any (λ h. h == v) s.handles

abbrev pub by_handle : Session → ℕ → Option Reply
by_handle s v = unless (has_view s v) (reply.NoSuchView v)

-- a side of a buffer is 1..=4096
abbrev pub is_side : ℕ → Bool
is_side n = nat_le 1 n && nat_le n most_side

-- need is not over what is left of the donation
abbrev pub by_quota : ℕ → ℕ → Option Reply
by_quota need left = unless (nat_le need left) (reply.OutOfQuota need left)

abbrev pub by_reserve : ℕ → ℕ → Option Reply
by_reserve need left = unless (nat_le need left) (reply.NoReserve need left)

-- the first refusal that a call meets at a live session
abbrev pub by_call : Session → Call → Option Reply
by_call s (Buffer w h) =
    unless (is_side w && is_side h) reply.BadSize
    orelse by_quota (buffer_need w h) (buffer_left s.donation (length s.handles))
by_call s View =
    unless (nat_lt (length s.handles) most_views) reply.TooManyViews
    orelse by_quota view_need (view_left s.donation (length s.handles) (s.bw * s.bh))
by_call s (Place v x y w h) = by_handle s v orelse unless (is_rectangle x y w h) reply.BadRect
by_call s (Offset v ox oy) = by_handle s v orelse unless (is_place ox && is_place oy) reply.BadRect
by_call s (Front v) = by_handle s v
by_call s (Back v) = by_handle s v
by_call s (Above v n) = by_handle s v orelse by_handle s n
by_call s (Title v text) = by_handle s v orelse unless (is_title text) reply.BadTitle
by_call s (Destroy v) = by_handle s v
by_call s (Refresh x y w h) = unless (is_rectangle x y w h) reply.BadRect
by_call s Take = None
by_call s (Upgrade n) = by_reserve n s.reserve
by_call s Close = None

abbrev pub refusal : Session → Call → Option Reply
refusal s call = by_status s.status orelse by_call s call

-- ---- what a call answers and leaves

pub record Answered : Type 0 where
  pub reply : Reply
  pub session : Session

abbrev pub answered : Reply → Session → Answered
answered r s = record { reply = r; session = s }

-- nothing is left of it but what it was given, its next handle and its losses
abbrev pub ended : Status → Session → Session
ended how s = record s { status = how; bw = 0; bh = 0; handles = []; queue = [] }

-- the oldest event is taken out
abbrev pub taking : List Event → Session → Answered
taking [] s = answered reply.NoEvent s
taking (e ∷ es) s = answered (reply.Event e) (record s { queue = es })

-- a call that is not refused
abbrev pub accepted : Session → Call → Answered
accepted s (Buffer w h) = answered reply.Done (record s { bw = w; bh = h })
accepted s View =
    answered (reply.Handle s.next)
    (record s { next = s.next + 1; handles = s.handles ++ s.next ∷ [] })
accepted s (Destroy v) =
    answered reply.Done (record s { handles = filter (λ h. not (h == v)) s.handles })
accepted s Take = taking s.queue s
accepted s (Upgrade n) =
    answered reply.Done (record s { donation = s.donation + n; reserve = s.reserve - n })
accepted s Close = answered reply.Done (ended status.Closed s)
accepted s other = answered reply.Done s

-- a refused call changes nothing
abbrev pub by_refusal : Session → Call → Option Reply → Answered
by_refusal s call (Some r) = answered r s
by_refusal s call None = accepted s call

-- what a session answers to a call, and what the call leaves of it
unfoldable pub serve : Session → Call → Answered
serve s call = by_refusal s call (refusal s call)

-- what these calls leave of a session that gets nothing else
abbrev pub after_calls : Session → List Call → Session
after_calls s calls = fold (λ t call. (serve t call).session) s calls

-- ---- what the user's input does to it

-- an event is queued, and lost where 64 are queued
abbrev pub queued : Event → Session → Session
queued e s =
    if nat_lt (length s.queue) most_waiting
    then record s { queue = s.queue ++ e ∷ [] }
    else record s { lost = s.lost + 1 }

abbrev pub given : Item → Session → Session
given (item.Event e) s = queued e s
given item.Kill s = ended status.Killed s

-- an item changes a live session alone
abbrev pub by_life : Status → Item → Session → Session
by_life status.Live i s = given i s
by_life other i s = s

abbrev pub receive : Session → Item → Session
receive s i = by_life s.status i s
