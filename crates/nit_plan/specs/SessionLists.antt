-- The scripts and the plans of all sessions, in the order of their numbers.
use Rattle.nit_plan.specs.Below.{Line, List, [], slice_index_or, ℕ}
use Rattle.nit_plan.specs.Plan.{PlanModel}

-- the script of a session, and no line where there is none
abbrev pub script_in : List (List Line) → ℕ → List Line
script_in scripts sid = slice_index_or scripts sid []

-- the plan of a session, and an empty one where there is none
abbrev pub plan_in : List PlanModel → ℕ → PlanModel
plan_in plans sid = slice_index_or plans sid (record { steps = []; ink = [] })
