-- What of the screen has changed, and a part of it that is copied.
use Rattle.std.specs.Prelude.{◌≡◌, ◌≤◌, ◌<◌, ◌-◌, ℕ, All, List, length, map, replicate, take}
use Rattle.std.specs.Prelude.{slice_index_or}
use Rattle.nit_c.specs.Below.{AreParts, Area, HostModel, IsAreaOf, IsPartPut, IsSeenBut, NitDamage}
use Rattle.nit_c.specs.Below.{NitPart, Uncopied, area_at, frame_shown, has_any, looked, uncopied}
use Rattle.nit_host.specs.declared.refusal.Uncopied.TheVariants as uncopied_for
use Rattle.nit_c.specs.declared.handle.NitServer.{NitServer}
use Rattle.nit_c.specs.Steps.{Steps, Unless}

-- ---- what has changed

-- a part of the screen as C reads it, and none
abbrev pub c_part : Area → NitPart
c_part a = record { x = a.left; y = a.top; w = a.right - a.left; h = a.bottom - a.top }

abbrev pub no_part : NitPart
no_part = record { x = 0; y = 0; w = 0; h = 0 }

-- the areas of the parts that an answer counts: each has its left upper pixel at (x, y), and is w
-- pixels wide and h high
abbrev pub parts_in : NitDamage → List Area
parts_in answer = map (λ p. area_at p.x p.y p.w p.h) (take answer.count answer.part)

-- an answer has these areas, in order, and nothing behind them
pub record HasParts (areas : List Area) (answer : NitDamage) : Type 0 where
  pub count : answer.count ≡ length areas
  pub parts : take answer.count answer.part ≡ map c_part areas
  pub past : (k : ℕ) → answer.count ≤ k → k < 16 → slice_index_or answer.part k no_part ≡ no_part

-- The answer counts at most 16 parts of the screen, each with pixels, no pixel in two of them; the
-- others are 0. Each pixel that has changed since the last look lies in one of them, and before the
-- first look each pixel does.
pub record TellsDamage (h : HostModel) (answer : NitDamage) : Type 0 where
  pub kind : answer.kind ≡ 1
  pub few : answer.count ≤ 16
  pub parts : AreParts (parts_in answer)
  pub screen : All (IsAreaOf h.state.config.width h.state.config.height) (parts_in answer)
  pub changed : IsSeenBut h.state h.sheets (has_any (parts_in answer)) h.seen.frame
  pub past : (k : ℕ) → answer.count ≤ k → k < 16 → slice_index_or answer.part k no_part ≡ no_part

-- it is a look: the host remembers what it shows
abbrev pub IsDamage : HostModel → HostModel → NitDamage → Type 0
IsDamage h g answer = TellsDamage h answer × (g ≡ looked h)

-- an answer without parts
abbrev pub IsNoDamage : ℕ → NitDamage → Type 0
IsNoDamage kind answer =
    (answer.kind ≡ kind) × (answer.count ≡ 0) × (answer.part ≡ replicate 16 no_part)

-- by a handle
abbrev pub IsDamageBy : NitServer → NitServer → NitDamage → Type 0
IsDamageBy old new answer = Steps old new (IsNoDamage 0 answer) (λ h g. IsDamage h g answer)

-- ---- a part that is copied

-- why a part is not copied
abbrev pub uncopied_number : Uncopied → ℕ
uncopied_number uncopied_for.BadRect = 6
uncopied_number uncopied_for.WrongFrame = 39

-- Row r, column c of the part stands at the place r * pitch + c, as the frame has it, and no other
-- word has changed. Where the part reaches beyond the screen, or its rows have no room, nothing
-- has.
abbrev pub IsPartCopied : HostModel → Area → ℕ → List ℕ → List ℕ → ℕ → Type 0
IsPartCopied h a pitch before now answer =
    Unless (uncopied h a pitch (length before))
    ((answer ≡ 1) × IsPartPut h.state.config.width a pitch (frame_shown h) before now)
    (λ why. (now ≡ before) × (answer ≡ uncopied_number why))

-- by a handle, which stays as it is
abbrev pub IsCopiedBy : NitServer → NitServer → Area → ℕ → List ℕ → List ℕ → ℕ → Type 0
IsCopiedBy old new a pitch before now answer =
    Steps old new ((now ≡ before) × (answer ≡ 0))
    (λ h g. (g ≡ h) × IsPartCopied h a pitch before now answer)
