-- The answers of a stack, against the definitions of owners and sources.
use Rattle.std.specs.Prelude.{ℕ, ◌*◌, List, Option, Some, None}
use Rattle.nit_stack.specs.Below.{Source, ViewRef, option_map_or}
use Rattle.nit_stack.specs.declared.view.Source.TheVariants.{Bare, Black, Word}
use Rattle.nit_stack.specs.Sources as sources
use Rattle.nit_stack.specs.Stack.{SlotView, slot_view_in}

-- the session of the view in a slot, where there is one
abbrev pub session_of : List SlotView → ℕ → ℕ
session_of views k = option_map_or (λ s. s.view.sid) (slot_view_in k views) 0

-- an answer as the definition's source, which names a word by the session whose buffer has it
abbrev pub pixel_source : List SlotView → Source → sources.PixelSource
pixel_source views Bare = sources.Bare
pixel_source views (Black v) = sources.Black
pixel_source views (Word v i) = sources.Word (session_of views v.0) i

-- the view that an answer names
abbrev pub source_owner : Source → Option ViewRef
source_owner Bare = None
source_owner (Black v) = Some v
source_owner (Word v i) = Some v

-- what holds of the view and the index where the answer is a word
abbrev pub IfWord : Source → (ViewRef → ℕ → Type 0) → Type 0
IfWord Bare P = Unit {0}
IfWord (Black v) P = Unit {0}
IfWord (Word v i) P = P v i

-- so many words has a buffer
abbrev pub word_count : sources.Size → ℕ
word_count z = z.w * z.h
