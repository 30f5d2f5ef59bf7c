-- Entries of a journal read from left to right, each as its value and the rest.
use Rattle.std.specs.Prelude.{ℕ, zero, suc, Bool, ◌&&◌, nat_le, List, [], ◌∷◌, Option, Some, None}
use Rattle.std.specs.Prelude.{codes}
use Rattle.nit_report.specs.Below.{Call, Delivery, Device, Entry, Event, Item, Reply, Routed}
use Rattle.nit_report.specs.Below.{at_both, at_ended, at_kind, at_made, at_spaced, at_tested}
use Rattle.nit_report.specs.Below.{call_at, device_at, first_of, most_lines, nat_field, nothing_at}
use Rattle.nit_report.specs.Below.{routed_as}
use Rattle.nit_events.specs.declared.call.Reply.TheVariants as reply
use Rattle.nit_events.specs.declared.device.Device.TheVariants as device
use Rattle.nit_events.specs.declared.event.Event.TheVariants as event
use Rattle.nit_events.specs.declared.event.Item.TheVariants as item
use Rattle.nit_events.specs.declared.entry.Entry.TheVariants as entry

-- ---- numbers

-- the number of a session
abbrev pub is_session_number : ℕ → Bool
is_session_number n = nat_le n 15

-- the number of a shot
abbrev pub is_shot_number : ℕ → Bool
is_shot_number n = nat_le 1 n && nat_le n most_lines

-- a session's number after a space
abbrev pub session_field : List ℕ → Option (ℕ × List ℕ)
session_field = at_tested is_session_number nat_field

-- a shot's number after a space
abbrev pub shot_field : List ℕ → Option (ℕ × List ℕ)
shot_field = at_tested is_shot_number nat_field

-- ---- events and items

-- what a session is told of a device
abbrev pub event_told : Device → Event
event_told (device.Press k) = event.Press k
event_told (device.Release k) = event.Release k
event_told (device.Motion x y) = event.Motion x y
event_told (device.Wheel n) = event.Wheel n

-- `leave`
abbrev pub leave_at : List ℕ → Option (Event × List ℕ)
leave_at = at_kind (codes "leave") nothing_at (λ _. event.Leave)

-- `focus-enter`
abbrev pub focus_enter_at : List ℕ → Option (Event × List ℕ)
focus_enter_at = at_kind (codes "focus-enter") nothing_at (λ _. event.FocusEnter)

-- `focus-leave`
abbrev pub focus_leave_at : List ℕ → Option (Event × List ℕ)
focus_leave_at = at_kind (codes "focus-leave") nothing_at (λ _. event.FocusLeave)

-- any event
unfoldable pub event_at : List ℕ → Option (Event × List ℕ)
event_at bytes =
    first_of (at_made event_told device_at bytes)
    (first_of (leave_at bytes) (first_of (focus_enter_at bytes) (focus_leave_at bytes)))

-- `kill`
unfoldable pub kill_at : List ℕ → Option (Item × List ℕ)
kill_at = at_kind (codes "kill") nothing_at (λ _. item.Kill)

-- an event, or `kill`
unfoldable pub item_at : List ℕ → Option (Item × List ℕ)
item_at bytes = first_of (at_made item.Event event_at bytes) (kill_at bytes)

-- ` >`, a session's number and an item
unfoldable pub delivery_at : List ℕ → Option (Delivery × List ℕ)
delivery_at =
    at_kind (codes " >") (at_both session_field (at_spaced item_at))
    (λ p. record { sid = p.0; item = p.1 })

-- one more in front of what is read after it, where it is there
abbrev pub one_in_front : Option (Delivery × List ℕ) → (List ℕ → List Delivery × List ℕ) → List ℕ
    → List Delivery × List ℕ
one_in_front (Some (d, rest)) behind bytes = (d ∷ (behind rest).0, (behind rest).1)
one_in_front None behind bytes = ([], bytes)

-- the deliveries in front, at most so many
abbrev pub deliveries_at : ℕ → List ℕ → List Delivery × List ℕ
deliveries_at zero bytes = ([], bytes)
deliveries_at (suc n) bytes = one_in_front (delivery_at bytes) (deliveries_at n) bytes

-- up to three deliveries
unfoldable pub routed_at : List ℕ → Option (Routed × List ℕ)
routed_at bytes = Some (routed_as (deliveries_at 3 bytes).0, (deliveries_at 3 bytes).1)

-- ---- replies

-- a reply that is one word
abbrev pub plain_at : List ℕ → Reply → List ℕ → Option (Reply × List ℕ)
plain_at w r = at_kind w nothing_at (λ _. r)

-- a reply with what is needed and what is left
abbrev pub lacking_at : List ℕ → (ℕ × ℕ → Reply) → List ℕ → Option (Reply × List ℕ)
lacking_at w make = at_kind w (at_both nat_field nat_field) make

-- a call was done, or nothing is queued, or the session is not served
unfoldable pub done_at : List ℕ → Option (Reply × List ℕ)
done_at bytes =
    first_of (plain_at (codes "done") reply.Done bytes)
    (first_of (plain_at (codes "no-event") reply.NoEvent bytes)
    (first_of (plain_at (codes "closed") reply.Closed bytes)
    (plain_at (codes "killed") reply.Killed bytes)))

-- what was asked for is out of range
unfoldable pub bad_at : List ℕ → Option (Reply × List ℕ)
bad_at bytes =
    first_of (plain_at (codes "bad-rect") reply.BadRect bytes)
    (first_of (plain_at (codes "bad-size") reply.BadSize bytes)
    (first_of (plain_at (codes "bad-title") reply.BadTitle bytes)
    (plain_at (codes "too-many-views") reply.TooManyViews bytes)))

-- the event that was taken
unfoldable pub event_reply_at : List ℕ → Option (Reply × List ℕ)
event_reply_at = at_kind (codes "event") (at_spaced event_at) (λ e. reply.Event e)

-- the handle of the new view
unfoldable pub handle_at : List ℕ → Option (Reply × List ℕ)
handle_at = at_kind (codes "handle") nat_field (λ h. reply.Handle h)

-- there is no view of this handle
unfoldable pub no_view_at : List ℕ → Option (Reply × List ℕ)
no_view_at = at_kind (codes "no-such-view") nat_field (λ h. reply.NoSuchView h)

-- more is needed than is left of the donation
unfoldable pub quota_at : List ℕ → Option (Reply × List ℕ)
quota_at = lacking_at (codes "out-of-quota") (λ p. reply.OutOfQuota p.0 p.1)

-- more is needed than is left of the reserve
unfoldable pub reserve_at : List ℕ → Option (Reply × List ℕ)
reserve_at = lacking_at (codes "no-reserve") (λ p. reply.NoReserve p.0 p.1)

-- a reply with an event or with numbers
unfoldable pub holding_at : List ℕ → Option (Reply × List ℕ)
holding_at bytes =
    first_of (event_reply_at bytes)
    (first_of (handle_at bytes)
    (first_of (no_view_at bytes) (first_of (quota_at bytes) (reserve_at bytes))))

-- any reply
unfoldable pub reply_at : List ℕ → Option (Reply × List ℕ)
reply_at bytes = first_of (done_at bytes) (first_of (bad_at bytes) (holding_at bytes))

-- ---- entries

-- the call after its reply
unfoldable pub behind_reply_at : List ℕ → Option (Call × List ℕ)
behind_reply_at = at_kind (codes " < ") call_at (λ c. c)

-- `call`, a session, a reply and a call
unfoldable pub answered_at : List ℕ → Option (Entry × List ℕ)
answered_at =
    at_kind (codes "call") (at_both session_field (at_both (at_spaced reply_at) behind_reply_at))
    (λ p. entry.Call p.0 p.1.1 p.1.0)

-- `input`, a device event and its deliveries
unfoldable pub input_entry_at : List ℕ → Option (Entry × List ℕ)
input_entry_at = at_kind (codes "input ") (at_both device_at routed_at) (λ p. entry.Input p.0 p.1)

-- `shot` and its number
unfoldable pub shot_entry_at : List ℕ → Option (Entry × List ℕ)
shot_entry_at = at_kind (codes "shot") shot_field (λ n. entry.Shot n)

-- `final`
unfoldable pub final_at : List ℕ → Option (Entry × List ℕ)
final_at = at_kind (codes "final") nothing_at (λ _. entry.Final)

-- an entry's line up to its line feed
unfoldable pub entry_front_at : List ℕ → Option (Entry × List ℕ)
entry_front_at bytes =
    first_of (answered_at bytes)
    (first_of (input_entry_at bytes) (first_of (shot_entry_at bytes) (final_at bytes)))

-- an entry's line with its line feed
unfoldable pub entry_at : List ℕ → Option (Entry × List ℕ)
entry_at = at_ended entry_front_at
