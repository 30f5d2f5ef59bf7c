-- One client and a user who does nothing, stepped together.
use Rattle.std.specs.Prelude.{◌≡◌, List, ◌++◌, length, drop, map, replicate, count_by}
use Rattle.nit_actor.specs.Below.{Action, Belongs, Calls, Entry, InputLine, IsOpen, Line, PassModel}
use Rattle.nit_actor.specs.Below.{RoomModel, UserBelongs, UserPassModel, action_of, calls_in}
use Rattle.nit_actor.specs.Below.{is_phase}
use Rattle.nit_script.specs.declared.line.InputLine.TheVariants as input
use Rattle.nit_actor.specs.Role.{IsOneOn, user_role_of}

-- a user who does nothing: one line `phase` for each line `phase` of a client's script
abbrev pub idle_user : List Line → List InputLine
idle_user lines = replicate (count_by is_phase lines) input.Phase

-- The room has one client. Its pass and the user's are in the phase that is served, which no actor
-- has ended; and what is left of the input script is one line `phase` for each that is left of the
-- client's.
pub record StepTogether (r : RoomModel) (p : PassModel) (u : UserPassModel) : Type 0 where
  pub one : length r.parts.scripts ≡ 1
  pub belongs : Belongs r.parts p
  pub user_belongs : UserBelongs r.parts u
  pub phase : p.phase ≡ r.phase
  pub user_phase : u.phase ≡ r.phase
  pub arrived : r.arrived ≡ 0
  pub idle : drop u.next u.input ≡ idle_user (drop p.next p.script)

-- the client and the user are in step, and the room's journal is not ended
pub record AreInStep (r : RoomModel) (p : PassModel) (u : UserPassModel) : Type 0 where
  pub step : StepTogether r p u
  pub unended : IsOpen r.scene.entries

-- one more line of the client's is done, and the user is in step with it again
pub record StepOn (r : RoomModel) (p : PassModel) (u : UserPassModel) (r' : RoomModel)
    (p' : PassModel) (u' : UserPassModel) : Type 0 where
  pub step : StepTogether r' p' u'
  pub pass : IsOneOn p p'
  pub user_same : user_role_of u' ≡ user_role_of u
  pub parts : r'.parts ≡ r.parts

-- the acts of the entries, and then the calls of the client's lines that are left
abbrev pub actions_to_be : List Entry → PassModel → List Action
actions_to_be entries p =
    map action_of entries ++ map (Calls p.sid) (calls_in (drop p.next p.script))

-- One more line of the client's is done, and the user is in step with it again. The journal is not
-- ended, and has one act more where the line is a call.
pub record AloneOn (r : RoomModel) (p : PassModel) (u : UserPassModel) (r' : RoomModel)
    (p' : PassModel) (u' : UserPassModel) : Type 0 where
  pub on : StepOn r p u r' p' u'
  pub unended : IsOpen r'.scene.entries
  pub recorded : actions_to_be r'.scene.entries p' ≡ actions_to_be r.scene.entries p
