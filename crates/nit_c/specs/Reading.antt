-- What can be read of a server, as C reads it.
use Rattle.std.specs.Prelude.{◌≡◌, ℕ, nat_lt, length, if◌then◌else◌}
use Rattle.nit_c.specs.Below.{HostModel, NitAccount, NitSeatState, NitState, client_of, member}
use Rattle.nit_c.specs.Below.{session}
use Rattle.nit_c.specs.Clients.{client_name}
use Rattle.nit_c.specs.Numbers.{mode_number, number_or_none, status_number}
use Rattle.nit_c.specs.declared.handle.NitServer.{NitServer}
use Rattle.nit_c.specs.Steps.{Steps}

-- a state that is its kind alone
abbrev pub no_state : NitState
no_state = record {
  kind = 0;
  width = 0;
  height = 0;
  seats = 0;
  mode = 0;
  focus = 0;
  hover = 0;
  x = 0;
  y = 0;
  receiver = 0;
}

abbrev pub c_state : HostModel → NitState
c_state h = record {
  kind = 1;
  width = h.state.config.width;
  height = h.state.config.height;
  seats = length h.state.sessions;
  mode = mode_number h.state.input.mode;
  focus = number_or_none h.state.input.focus;
  hover = number_or_none h.state.input.hover;
  x = h.state.input.x;
  y = h.state.input.y;
  receiver = number_or_none h.state.input.receiver;
}

-- a seat's state that is its kind alone
abbrev pub no_seat_state : ℕ → NitSeatState
no_seat_state kind = record { kind = kind; status = 0; waiting = 0; zero = 0; lost = 0; client = 0 }

abbrev pub c_seat_state : HostModel → ℕ → NitSeatState
c_seat_state h seat =
    let s = session h.state seat in
    if nat_lt seat (length h.state.sessions)
    then
    record {
      kind = 1;
      status = status_number s.status;
      waiting = length s.queue;
      zero = 0;
      lost = s.lost;
      client = client_name (client_of h seat);
    }
    else no_seat_state 32

-- the server is read, by a handle
abbrev pub IsStateOf : NitServer → NitServer → NitState → Type 0
IsStateOf old new answer =
    Steps old new (answer ≡ no_state) (λ h g. (g ≡ h) × (answer ≡ c_state h))

-- a seat is read, by a handle
abbrev pub IsSeatStateOf : NitServer → NitServer → ℕ → NitSeatState → Type 0
IsSeatStateOf old new seat answer =
    Steps old new (answer ≡ no_seat_state 0) (λ h g. (g ≡ h) × (answer ≡ c_seat_state h seat))

-- an account that is its kind alone
abbrev pub no_account : ℕ → NitAccount
no_account kind = record {
  kind = kind;
  layer = 0;
  donation = 0;
  reserve = 0;
  width = 0;
  height = 0;
}

-- what a seat's client has, and the layer of its views
abbrev pub c_account : HostModel → ℕ → NitAccount
c_account h seat =
    let s = session h.state seat in
    if nat_lt seat (length h.state.sessions)
    then
    record {
      kind = 1;
      layer = (member h.state.config seat).layer;
      donation = s.donation;
      reserve = s.reserve;
      width = s.bw;
      height = s.bh;
    }
    else no_account 32

-- a seat's account is read, by a handle
abbrev pub IsAccountOf : NitServer → NitServer → ℕ → NitAccount → Type 0
IsAccountOf old new seat answer =
    Steps old new (answer ≡ no_account 0) (λ h g. (g ≡ h) × (answer ≡ c_account h seat))
