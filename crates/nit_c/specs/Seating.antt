-- Clients that come to a seat.
use Rattle.std.specs.Prelude.{◌≡◌, ◌≢◌, ℕ, not, nat_lt, List, length, Option, Some, None, Result}
use Rattle.std.specs.Prelude.{Ok, Err, if◌then◌else◌}
use Rattle.nit_c.specs.Below.{Client, HostModel, NitSeated, Unseated, is_label, layer, next_client}
use Rattle.nit_c.specs.Below.{seat_for, seated, unseated}
use Rattle.nit_c.specs.Clients.{client_name, client_named}
use Rattle.nit_c.specs.Numbers.{unseated_number}
use Rattle.nit_c.specs.declared.handle.NitServer.{NitServer}
use Rattle.nit_c.specs.Steps.{Steps, Unless}

-- an answer that is its kind alone
abbrev pub only_seated : ℕ → NitSeated
only_seated kind = record { kind = kind; seat = 0; client = 0; zero = 0 }

-- the number of a refusal, where there is one
abbrev pub number_where : Option Unseated → Option ℕ
number_where None = None
number_where (Some why) = Some (unseated_number why)

-- why a client is not given a seat under these bytes, if it is not
abbrev pub refused_seat : HostModel → ℕ → List ℕ → Option ℕ
refused_seat h seat label =
    if not (nat_lt seat (length h.state.sessions)) then Some 32
    else if not (is_label label) then Some 35
    else number_where (unseated h seat label)

-- the answer has this client, by a name that means it
pub record IsNamed (client : Client) (answer : NitSeated) : Type 0 where
  pub is : answer
      ≡ record { kind = 1; seat = client.seat; client = client_name client; zero = 0 }
  pub means : client_named answer.client ≡ client

-- a client sits down, or is told why it does not
abbrev pub IsSeated : HostModel → HostModel → ℕ → List ℕ → NitSeated → Type 0
IsSeated old new seat label answer =
    Unless (refused_seat old seat label)
    ((new ≡ seated seat label old) × IsNamed (next_client old seat) answer)
    (λ why. (new ≡ old) × (answer ≡ only_seated why))

-- a client sits down, by a handle
abbrev pub IsSeatedBy : NitServer → NitServer → ℕ → List ℕ → NitSeated → Type 0
IsSeatedBy old new seat label answer =
    Steps old new (answer ≡ only_seated 0) (λ h g. IsSeated h g seat label answer)

-- a seat that was found, or why none was
abbrev pub c_sought : Result ℕ Unseated → NitSeated
c_sought (Ok seat) = record (only_seated 1) { seat = seat }
c_sought (Err why) = only_seated (unseated_number why)

-- the seat of a layer that takes a client of this label, or why none does
abbrev pub sought_by : HostModel → List ℕ → ℕ → NitSeated
sought_by h label l = if is_label label then c_sought (seat_for h label l) else only_seated 35

-- The answer is the seat of this layer that takes a new client of this label, so that nit_seat on
-- it is done; and where there is none, nit_seat is done on no seat of the layer.
pub record IsSought (h : HostModel) (label : List ℕ) (l : ℕ) (answer : NitSeated) : Type 0 where
  pub seat : answer ≡ sought_by h label l
  pub takes : answer.kind ≡ 1
      → (layer h.state.config answer.seat ≡ l) × (refused_seat h answer.seat label ≡ None)
  pub none : answer.kind ≢ 1
      → (seat : ℕ) → layer h.state.config seat ≡ l → refused_seat h seat label ≢ None

-- a seat is looked for, by a handle
abbrev pub IsSeatFor : NitServer → NitServer → List ℕ → ℕ → NitSeated → Type 0
IsSeatFor old new label l answer =
    Steps old new (answer ≡ only_seated 0) (λ h g. (g ≡ h) × IsSought h label l answer)
