-- A run before its first round.
use Rattle.std.specs.Prelude.{◌≡◌, ◌+◌, ◌≤◌, List, [], All, length, map}
use Rattle.nit_perform.specs.Below.{Configuration, InputLine, IsRunConfiguration, IsSetUp, IsWord}
use Rattle.nit_perform.specs.Below.{Line, OpenedRounds, PlanModel, Sight, actions_of_turns}
use Rattle.nit_perform.specs.Below.{donation_of, glass_after, picture_length, plan_of_script}
use Rattle.nit_perform.specs.Below.{range_with_len, rounds, script_in}

-- there is a script for each client of the configuration
pub record AreScriptsOf (config : Configuration) (scripts : List (List Line)) : Type 0 where
  pub configured : IsRunConfiguration config
  pub each : length scripts ≡ length config.clients

-- there is a plan for each client of the configuration, and its ink is of words below 2^24
pub record AreInkedPlans (config : Configuration) (plans : List PlanModel) : Type 0 where
  pub configured : IsRunConfiguration config
  pub each : length plans ≡ length config.clients
  pub words : All (λ p. All IsWord p.ink) plans

-- the plan of each client's script, in order
abbrev pub plans_of : Configuration → List (List Line) → List PlanModel
plans_of config scripts =
    map (λ t. plan_of_script (script_in scripts t) (donation_of config t))
    (range_with_len 0 (length scripts))

-- a glass for each client, in order, on which no line is done
abbrev pub glasses_of : Configuration → List (List Line) → List Sight
glasses_of config scripts =
    map (λ t. glass_after t (script_in scripts t) (donation_of config t) 0)
    (range_with_len 0 (length scripts))

-- The rounds of these scripts can begin: nothing is recorded, and there is room for the entries of
-- the rounds and for the last picture; no line is done; and there are as many bytes as the screen's
-- picture has.
pub record IsRoundsOpening (config : Configuration) (scripts : List (List Line))
    (input : List InputLine) (o : OpenedRounds) : Type 0 where
  pub scripts_each : AreScriptsOf config scripts
  pub configuration : o.scene.config ≡ config
  pub entries : o.scene.entries ≡ []
  pub spare : length (actions_of_turns (rounds scripts input)) + 1 ≤ o.scene.spare
  pub set_up : IsSetUp config scripts o.plans.items o.scene.glasses o.owns.items
  pub text : length o.text.items ≡ picture_length config.width config.height
