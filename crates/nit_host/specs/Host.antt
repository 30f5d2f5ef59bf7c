-- A host as a value, and what each of its calls makes of it.
use Rattle.std.specs.Prelude.{◌≡◌, ◌⊎◌, ℕ, ◌-◌, ◌≤◌, ◌*◌, ◌^◌, ℤ, Bool, true, false, ◌&&◌, ◌==◌}
use Rattle.std.specs.Prelude.{nat_le, nat_lt, negsuc, int_le, not, List, [], ◌∷◌, length, map}
use Rattle.std.specs.Prelude.{slice_index_or, replicate, slice_set, Option, Some, None}
use Rattle.std.specs.Prelude.{if◌then◌else◌}
use Rattle.nit_host.specs.Below.{Call, Client, Configuration, Device, Entry, Rectangle, Reply}
use Rattle.nit_host.specs.Below.{Routed, Session, Side, State, Status, Turns, Unserved, after}
use Rattle.nit_host.specs.Below.{asks_view, covers, first_state, frame, has_view, is_accepted}
use Rattle.nit_host.specs.Below.{journal_text, most_code, most_sessions, pixel, rectangle}
use Rattle.nit_host.specs.Below.{restacked, route, routed_as, scenery_of, serve, session, set_where}
use Rattle.nit_host.specs.Below.{source_at, table_size, vacant_state, word_from, words_of, zeros}
use Rattle.nit_events.specs.declared.call.Call.TheVariants as call
use Rattle.nit_events.specs.declared.device.Device.TheVariants as device
use Rattle.nit_events.specs.declared.entry.Entry.TheVariants as entry
use Rattle.nit_events.specs.declared.event.Status.TheVariants as status
use Rattle.nit_host.specs.Sheet.{low_bytes}
use Rattle.nit_host.specs.Shown.{LastLook, is_moved, no_look, nobody_came}
use Rattle.nit_host.specs.declared.refusal.Unserved.TheVariants as unserved

-- the state; the words that each seat's client handed in, by their places in its buffer; which
-- client each seat has; how many more entries are served; the last entry, where the last step was
-- one; and what is remembered of the last look
pub record HostModel : Type 0 where
  pub state : State
  pub sheets : List (List ℕ)
  pub turns : Turns
  pub left : ℕ
  pub last : Option Entry
  pub seen : LastLook

-- the words of a seat
abbrev pub sheet_in : List (List ℕ) → ℕ → List ℕ
sheet_in sheets seat = slice_index_or sheets seat []

-- The word of each pixel, before the mode lays anything over it: the one that its session handed in
-- last for the place, 0 where a view is larger than its buffer, and the bare word where no view is.
abbrev pub picture_from : State → List (List ℕ) → List ℕ
picture_from s sheets = words_of s (λ k. word_from (sheet_in sheets) (source_at s k))

abbrev pub picture_now : HostModel → List ℕ
picture_now h = picture_from h.state h.sheets

-- the frame: what the screen shows of it
abbrev pub frame_by : State → List (List ℕ) → List ℕ
frame_by s sheets = frame (scenery_of s) (picture_from s sheets)

abbrev pub frame_shown : HostModel → List ℕ
frame_shown h = frame_by h.state h.sheets

-- ---- before the first step

-- the words of each seat are 0, and there are as many as its table has places
abbrev pub blank_sheets : Configuration → List (List ℕ)
blank_sheets config = map (λ m. zeros (table_size m.donation)) config.clients

-- so many clients may come to a host
abbrev pub most_comings : ℕ
most_comings = 2 ^ 48 - 1

-- no turn is over how many have come, and these are not too many
pub record AreTurns (turns : Turns) : Type 0 where
  pub given : turns.given ≤ most_comings
  pub each : (seat : ℕ) → slice_index_or turns.of seat 0 ≤ turns.given

-- no client has come
abbrev pub no_turns : Turns
no_turns = record { of = replicate most_sessions 0; given = 0 }

-- a host in this state that has served nothing
abbrev pub first_host : State → Configuration → HostModel
first_host s config =
    record {
      state = s;
      sheets = blank_sheets config;
      turns = no_turns;
      left = 2 ^ 62;
      last = None;
      seen = no_look;
    }

-- a host as it opens by a configuration: its seats are all free, or all taken
abbrev pub IsFirst : HostModel → Type 0
IsFirst h =
    (config : Configuration)
    × ((h ≡ first_host (vacant_state config) config) ⊎ (h ≡ first_host (first_state config) config))

-- ---- one entry

-- the host behind an entry
abbrev pub behind : Entry → HostModel → HostModel
behind e h = record h { state = after h.state e; left = h.left - 1; last = Some e }

-- the text of the last step: its line in the journal, or nothing where it was no entry
abbrev pub last_text : Option Entry → List ℕ
last_text None = []
last_text (Some e) = journal_text (e ∷ [])

-- ---- clients

-- the turn of the client that sits on a seat, or sat there last
abbrev pub seat_turn : HostModel → ℕ → ℕ
seat_turn h seat = slice_index_or h.turns.of seat 0

-- that client
abbrev pub client_of : HostModel → ℕ → Client
client_of h seat = record { seat = seat; turn = seat_turn h seat }

-- the client is the one of its seat
abbrev pub is_client : HostModel → Client → Bool
is_client h client = seat_turn h client.seat == client.turn

-- ---- calls of the clients

-- the reply to a call of a seat's client
abbrev pub reply_to : HostModel → ℕ → Call → Reply
reply_to h seat call = (serve (session h.state seat) call).reply

-- why nothing is served any more, if it is not
abbrev pub worn_out : HostModel → Option Unserved
worn_out h = if h.left == 0 then Some unserved.WornOut else None

-- the call asks for a view, and the seat's client has had all that there are handles for
abbrev pub lacks_handles : Session → Call → Bool
lacks_handles s call = asks_view call && not (nat_lt s.next (2 ^ 32 - 2))

-- why a call of a client is not served, if it is not
abbrev pub unserved_call : HostModel → Client → Call → Option Unserved
unserved_call h client call =
    if not (nat_lt client.seat (length h.state.sessions)) then Some unserved.NoSeat
    else if not (is_client h client) then Some unserved.OtherClient
    else if lacks_handles (session h.state client.seat) call then Some unserved.HandlesUsedUp
    else worn_out h

-- the host behind a call of a seat's client
abbrev pub called : ℕ → Call → HostModel → HostModel
called seat call h = behind (entry.Call seat call (reply_to h seat call)) h

-- ---- words that are handed in

-- the place lies in a buffer of so many columns and rows, and in the part of it
abbrev pub is_handed : ℕ → ℕ → Rectangle → ℕ → Bool
is_handed columns rows part n = nat_lt n (columns * rows) && covers part (pixel columns n)

-- the words of a seat after a part of its buffer was handed in: what lies in the part is the low
-- three bytes of what stands there, and all else stays
abbrev pub handed : Session → Rectangle → List ℕ → List ℕ → List ℕ
handed s part words sheet = set_where (is_handed s.bw s.bh part) (low_bytes words) sheet

-- the host with that part of the seat's words
abbrev pub with_handed : ℕ → Rectangle → List ℕ → HostModel → HostModel
with_handed seat part words h =
    record h {
      sheets =
          slice_set h.sheets seat
          (handed (session h.state seat) part words (sheet_in h.sheets seat));
    }

-- why a refresh is not served, if it is not: there have to be as many words as the buffer has
abbrev pub unserved_refresh : HostModel → Client → List ℕ → Option Unserved
unserved_refresh h client words =
    let s = session h.state client.seat in
    if not (nat_lt client.seat (length h.state.sessions)) then Some unserved.NoSeat
    else if not (is_client h client) then Some unserved.OtherClient
    else if nat_lt (length words) (s.bw * s.bh) then Some unserved.ShortWords
    else worn_out h

-- the host behind a refresh of a part: where the call is accepted, the words of the part are handed
-- in before it
abbrev pub refreshed : ℕ → ℤ → ℤ → ℕ → ℕ → List ℕ → HostModel → HostModel
refreshed seat x y w h words host =
    let refresh = call.Refresh x y w h in
    if is_accepted (reply_to host seat refresh)
    then called seat refresh (with_handed seat (rectangle x y w h) words host)
    else called seat refresh host

-- ---- restacking

abbrev pub is_live : Status → Bool
is_live status.Live = true
is_live other = false

-- the session is served, and has a view of this handle
abbrev pub has_live_view : Session → ℕ → Bool
has_live_view s view = is_live s.status && has_view s view

-- why the user does not put a client's view elsewhere, if it does not
abbrev pub unserved_restack : HostModel → Client → ℕ → Option Unserved
unserved_restack h client view =
    if not (nat_lt client.seat (length h.state.sessions)) then Some unserved.NoSeat
    else if not (is_client h client) then Some unserved.OtherClient
    else if not (has_live_view (session h.state client.seat) view) then Some unserved.NoView
    else worn_out h

-- the host after the user put a seat's view in front of all of its layer, or behind them: its
-- client is told nothing
abbrev pub put : Side → ℕ → ℕ → HostModel → HostModel
put side seat view h =
    record h { state = restacked side seat view h.state; left = h.left - 1; last = None }

-- ---- what the user does

-- the code of a key or a button is at most 767, and a wheel turns by -127..=127
abbrev pub is_input : Device → Bool
is_input (device.Press k) = nat_le k most_code
is_input (device.Release k) = nat_le k most_code
is_input (device.Wheel n) = int_le (negsuc 126) n
is_input (device.Motion x y) = true

-- why a device event is not served, if it is not
abbrev pub unserved_input : HostModel → Device → Option Unserved
unserved_input h dev =
    if not (is_input dev) then Some unserved.BadDevice
    else if is_moved h.seen h.state dev then Some unserved.Moved
    else worn_out h

-- who is told what of a device event
abbrev pub routed_of : HostModel → Device → Routed
routed_of h dev = routed_as (route h.state.config h.state.input h.state.stack dev).deliveries

-- the host behind a device event
abbrev pub told : Device → HostModel → HostModel
told dev h = behind (entry.Input dev (routed_of h dev)) h

-- ---- a look

-- the words are those that were seen, or nothing was
abbrev pub IsOneOf : Option (List ℕ) → List ℕ → Type 0
IsOneOf None out = Unit {0}
IsOneOf (Some seen) out = out ≡ seen

-- the words are as the last look left them, or no look was yet
abbrev pub IsAsSeen : HostModel → List ℕ → Type 0
IsAsSeen h out = IsOneOf h.seen.frame out

-- the host behind a look: all that changes is what was seen
abbrev pub looked : HostModel → HostModel
looked h =
    record h {
      seen =
          record {
            frame = Some (frame_shown h);
            views = h.state.stack;
            came = nobody_came;
          };
    }

-- the host, where the words that the last look left may be any
abbrev pub forgotten : HostModel → HostModel
forgotten h = record h { seen = record h.seen { frame = None } }
