-- What a handle owns.
use Rattle.std.specs.Prelude.{◌≡◌, ℕ, Bool, true, false, nat_eq, []}
use base.Fml.{Fml, ftrue}
use base.Stored.{Coded}
use denote.RattleType.{RattleType}
use denote.RawPtr.{Ptr, null_ptr}
use Rattle.nit_c.specs.Below.{Configuration, HostModel, box_owns, first_host, plain, the_row}
use Rattle.nit_c.specs.Below.{vacant_state}
use Rattle.nit_c.specs.HeapToken.{heap_token}

-- ---- what the box holds

abbrev pub kept_row : RattleType
kept_row = the_row

-- what contracts see of it
abbrev pub Kept : Type 0
Kept = HostModel

abbrev pub kept_coded : Coded kept_row.Denot
kept_coded = kept_row.coded

-- what stands where there is none: a host without a seat
abbrev pub nothing_kept : Kept
nothing_kept =
    let config : Configuration =
    record { width = 0; height = 0; bar = false; lettering = plain; input = []; clients = [] } in
    first_host (vacant_state config) config

-- ---- the handle

-- the mark of a live handle
abbrev pub live_mark : ℕ
live_mark = 7956018242879974245

-- the address and the mark of a closed handle
abbrev pub IsClosed : Ptr → ℕ → Type 0
IsClosed at mark = (at ≡ null_ptr) × (mark ≡ 0)

-- this where the test holds, and else nothing
abbrev pub owns_where : Bool → Fml → Fml
owns_where true what = what
owns_where false what = ftrue

-- the box at the address, where the mark is that of a live handle, and else nothing
abbrev pub held_owns : ℕ → Ptr → kept_row.Denot → Fml
held_owns mark at x = owns_where (nat_eq mark live_mark) (box_owns heap_token kept_row at x)
