-- A call by a handle: what it does with the server, or where there is none.
use Rattle.std.specs.Prelude.{◌≡◌, ℕ, Bool, true, false, nat_eq, Option, Some, None}
use Rattle.nit_c.specs.Below.{HostModel}
use Rattle.nit_c.specs.Held.{live_mark}
use Rattle.nit_c.specs.declared.handle.NitServer.{NitServer}

-- this where the test holds, and else none
abbrev pub host_where : Bool → HostModel → Option HostModel
host_where true h = Some h
host_where false h = None

-- the server of a handle of this mark, where it is live
abbrev pub host_of : ℕ → HostModel → Option HostModel
host_of mark h = host_where (nat_eq mark live_mark) h

-- the server of a handle, where it has one
abbrev pub server_by_handle : NitServer → Option HostModel
server_by_handle handle = host_of handle.mark handle.value

-- where there is no server, this holds; else there is one afterwards, and that holds of the server
-- before and after
abbrev pub ByServer : Option HostModel → Option HostModel → Type 0
    → (HostModel → HostModel → Type 0) → Type 0
ByServer None new none step = none
ByServer (Some h) None none step = ⊥
ByServer (Some h) (Some g) none step = step h g

-- A call by a handle: where that has no server it stays as it is, and this holds; else it has one
-- afterwards, and that holds of the server before and after.
abbrev pub Steps : NitServer → NitServer → Type 0 → (HostModel → HostModel → Type 0) → Type 0
Steps old new none step =
    ByServer (server_by_handle old) (server_by_handle new) ((new ≡ old) × none) step

-- where nothing refuses, this holds, and else that of what refuses
abbrev pub Unless : {A : Type 0} → Option A → Type 0 → (A → Type 0) → Type 0
Unless None served refused = served
Unless (Some why) served refused = refused why
