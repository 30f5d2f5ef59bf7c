-- The user's restacking of a view.
use Rattle.std.specs.Prelude.{◌≡◌, ℕ, Result, Ok, Err}
use Rattle.nit_c.specs.Below.{HostModel, Side, Unserved, put, unserved_restack}
use Rattle.nit_c.specs.Clients.{client_named}
use Rattle.nit_c.specs.Numbers.{unserved_number}
use Rattle.nit_c.specs.declared.handle.NitServer.{NitServer}
use Rattle.nit_c.specs.Steps.{Steps, Unless}

-- what C is told of it
abbrev pub c_restack : Result (Unit {0}) Unserved → ℕ
c_restack (Ok u) = 1
c_restack (Err why) = unserved_number why

-- the view is put there, or C is told why not
abbrev pub IsRestack : Side → HostModel → HostModel → ℕ → ℕ → ℕ → Type 0
IsRestack side old new client view answer =
    let c = client_named client in
    Unless (unserved_restack old c view) ((new ≡ put side c.seat view old) × (answer ≡ 1))
    (λ why. (new ≡ old) × (answer ≡ unserved_number why))

-- so it is by a handle
abbrev pub IsRestackedBy : Side → NitServer → NitServer → ℕ → ℕ → ℕ → Type 0
IsRestackedBy side old new client view answer =
    Steps old new (answer ≡ 0) (λ h g. IsRestack side h g client view answer)
