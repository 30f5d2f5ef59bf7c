-- A surface on which the lines of a script are done, one after the other.
use Rattle.std.specs.Prelude.{◌≡◌, ℕ, ◌<◌, ◌≤◌, List, IfSome}
use Rattle.nit_plan.specs.Below.{IsDonation, Line, Sight, slice_index}
use Rattle.nit_plan.specs.ScriptWords.{HasStages, table_size, words_after}
use Rattle.nit_plan.specs.Plan.{PlanModel, IsPlanOf}

-- The plan is that of the script with this donation. The surface has an ink with all that the lines
-- leave, and as many words as the session's table. Where it tells its words, they are those that
-- the first k lines leave.
pub record IsPaintedTo (script : List Line) (donation : ℕ) (plan : PlanModel) (k : ℕ)
    (sight : Sight) : Type 0 where
  pub opens : IsDonation donation
  pub planned : IsPlanOf script donation plan
  pub ink : HasStages script donation sight.ink
  pub size : sight.size ≡ table_size donation
  pub words : IfSome sight.words (λ words. words ≡ words_after script donation k)

-- the told words at the places from the first to before the last are 0
abbrev pub AreZeroBetween : ℕ → ℕ → Sight → Type 0
AreZeroBetween first last sight =
    IfSome sight.words (λ words. (i : ℕ) → first ≤ i → i < last → slice_index words i ≡ 0)
