-- Clients of before: a seat that goes on to another client.
use Rattle.std.specs.Prelude.{◌≡◌, ℕ, List, ◌∷◌, ◌++◌, None}
use Rattle.nit_host.specs.Acts.{Act, Comes, after_act, after_acts}
use Rattle.nit_host.specs.Host.{HostModel}
use Rattle.nit_host.specs.Seats.{unseated}

-- a client comes to the seat by one of these acts
pub record CameBy (h : HostModel) (acts : List Act) (seat : ℕ) : Type 0 where
  pub before : List Act
  pub label : List ℕ
  pub after : List Act
  pub act : acts ≡ before ++ Comes seat label ∷ after
  pub seated : unseated (after_acts h before) seat label ≡ None

-- the host where a client of this label has come to the seat, and then was asked all this
abbrev pub since_coming : HostModel → ℕ → List ℕ → List Act → HostModel
since_coming h seat label acts = after_acts (after_act h (Comes seat label)) acts
