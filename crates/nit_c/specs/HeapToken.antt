-- The right to free a block of the C library's heap.
use mir.Syntax.{Ty}
use base.Fml.{Fml}
use denote.RawPtr.{Ptr}
use Rattle.nit_c.specs.Below.{Global, ghosts}

-- a handle of the heap
abbrev pub heap : Global
heap = record { memory = record { seal = tt } }

-- the right is the same whichever handle it was taken by
abbrev pub heap_token : Ty → Ptr → Fml
heap_token = ghosts.dealloc_token heap
