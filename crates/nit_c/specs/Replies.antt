-- Replies and events as C reads them, and calls of the clients.
use Rattle.std.specs.Prelude.{◌≡◌, ℕ, ℤ, pos, ◌==◌, IsTrue, false, not, nat_lt, List, length}
use Rattle.std.specs.Prelude.{Option, Result, Ok, Err, if◌then◌else◌}
use Rattle.nit_c.specs.Below.{Call, Client, Event, HostModel, NitEvent, NitReply, Reply, Unserved}
use Rattle.nit_c.specs.Below.{called, is_client, is_text, refreshed, reply_to, unserved_call}
use Rattle.nit_c.specs.Below.{unserved_refresh}
use Rattle.nit_events.specs.declared.call.Call.TheVariants as call
use Rattle.nit_events.specs.declared.call.Reply.TheVariants as reply
use Rattle.nit_events.specs.declared.event.Event.TheVariants as event
use Rattle.nit_c.specs.Clients.{client_named}
use Rattle.nit_c.specs.Numbers.{unserved_number}
use Rattle.nit_c.specs.declared.handle.NitServer.{NitServer}
use Rattle.nit_c.specs.Steps.{Steps, Unless}

abbrev pub no_event : NitEvent
no_event = record { kind = 0; code = 0; x = 0; y = 0; turn = pos 0 }

-- an event as C reads it
abbrev pub c_event : Event → NitEvent
c_event (event.Press k) = record no_event { kind = 1; code = k }
c_event (event.Release k) = record no_event { kind = 2; code = k }
c_event (event.Motion x y) = record no_event { kind = 3; x = x; y = y }
c_event (event.Wheel n) = record no_event { kind = 4; turn = n }
c_event event.Leave = record no_event { kind = 5 }
c_event event.FocusEnter = record no_event { kind = 6 }
c_event event.FocusLeave = record no_event { kind = 7 }

-- an answer that is its kind alone
abbrev pub only_kind : ℕ → NitReply
only_kind kind = record { kind = kind; handle = 0; event = no_event; need = 0; left = 0 }

-- a reply as C reads it
abbrev pub c_reply : Reply → NitReply
c_reply reply.Done = only_kind 1
c_reply (reply.Handle h) = record (only_kind 2) { handle = h }
c_reply (reply.Event e) = record (only_kind 3) { event = c_event e }
c_reply reply.NoEvent = only_kind 4
c_reply (reply.NoSuchView h) = record (only_kind 5) { handle = h }
c_reply reply.BadRect = only_kind 6
c_reply reply.BadSize = only_kind 7
c_reply reply.BadTitle = only_kind 8
c_reply reply.TooManyViews = only_kind 9
c_reply (reply.OutOfQuota need left) = record (only_kind 10) { need = need; left = left }
c_reply (reply.NoReserve need left) = record (only_kind 11) { need = need; left = left }
c_reply reply.Closed = only_kind 12
c_reply reply.Killed = only_kind 13

-- what a host answers, as C reads it
abbrev pub c_answer : Result Reply Unserved → NitReply
c_answer (Ok r) = c_reply r
c_answer (Err why) = only_kind (unserved_number why)

-- a step of a host that this refuses or nothing does: what it answers, and the host behind it
abbrev pub IsAnswered : Option Unserved → Reply → HostModel → HostModel → HostModel → NitReply
    → Type 0
IsAnswered refusal reply behind old new answer =
    Unless refusal ((new ≡ behind) × (answer ≡ c_reply reply))
    (λ why. (new ≡ old) × (answer ≡ only_kind (unserved_number why)))

-- a call of a client by a handle
abbrev pub IsCalled : NitServer → NitServer → ℕ → Call → NitReply → Type 0
IsCalled old new client call answer =
    let c = client_named client in
    Steps old new (answer ≡ only_kind 0)
    (λ h g. IsAnswered (unserved_call h c call) (reply_to h c.seat call) (called c.seat call h) h g
    answer)

-- a refresh of a part of its buffer
abbrev pub IsRedrawn : HostModel → HostModel → Client → ℤ → ℤ → ℕ → ℕ → List ℕ → NitReply → Type 0
IsRedrawn old new c x y w h words answer =
    IsAnswered (unserved_refresh old c words) (reply_to old c.seat (call.Refresh x y w h))
    (refreshed c.seat x y w h words old) old new answer

-- what a refresh of a part does by a handle
abbrev pub IsRefreshed : NitServer → NitServer → ℕ → ℤ → ℤ → ℕ → ℕ → List ℕ → NitReply
    → Type 0
IsRefreshed old new client x y w h words answer =
    Steps old new (answer ≡ only_kind 0)
    (λ host g. IsRedrawn host g (client_named client) x y w h words answer)

-- ---- titles

-- why a title that is no text is not served
abbrev pub untitled : HostModel → Client → ℕ
untitled h client =
    if not (nat_lt client.seat (length h.state.sessions)) then 32
    else if not (is_client h client) then 46
    else if h.left == 0 then 41
    else 36

-- a title that is no text, by a handle
abbrev pub IsUntitled : NitServer → NitServer → ℕ → NitReply → Type 0
IsUntitled old new client answer =
    Steps old new (answer ≡ only_kind 0)
    (λ h g. (g ≡ h) × (answer ≡ only_kind (untitled h (client_named client))))

-- a title by a handle: a call where the bytes are a text, and else nothing but a refusal
pub record IsTitled (old new : NitServer) (client view : ℕ) (text : List ℕ) (r : NitReply)
    : Type 0 where
  pub called : IsTrue (is_text text) → IsCalled old new client (call.Title view text) r
  pub refused : is_text text ≡ false → IsUntitled old new client r
