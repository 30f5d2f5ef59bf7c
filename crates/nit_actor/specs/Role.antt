-- Who an actor is and what it has to do. No line that it does changes this.
use Rattle.std.specs.Prelude.{◌≡◌, ◌+◌, ◌≤◌, ℕ, All, List, length, map, slice_get, Some}
use Rattle.nit_actor.specs.Below.{BookName, BufferName, InputLine, Line, OpeningParts, PassModel}
use Rattle.nit_actor.specs.Below.{PlanModel, UserPassModel, donation_of}

-- a client's: its number, the name of its room's book, its script, the plan of it, its donation,
-- and the buffer of its words
pub record Role : Type 0 where
  pub sid : ℕ
  pub name : BookName
  pub script : List Line
  pub plan : PlanModel
  pub donation : ℕ
  pub buffer : BufferName

-- the role of a client's pass
abbrev pub role_of : PassModel → Role
role_of p = record {
  sid = p.sid;
  name = p.name;
  script = p.script;
  plan = p.plan;
  donation = p.donation;
  buffer = p.stand.buffer;
}

-- the next line of the pass is this one
abbrev pub IsAtLine : Line → PassModel → Type 0
IsAtLine line p = slice_get p.script p.next ≡ Some line

-- a client's pass keeps its role, one more of its lines is done, and its phase is no earlier one
pub record IsOneOn (before after' : PassModel) : Type 0 where
  pub same : role_of after' ≡ role_of before
  pub next : after'.next ≡ before.next + 1
  pub later : before.phase ≤ after'.phase

-- it keeps its role, and all its lines are done
pub record IsThrough (before after' : PassModel) : Type 0 where
  pub same : role_of after' ≡ role_of before
  pub done : after'.next ≡ length after'.script

-- the actors keep their roles, each at its place, and are done
pub record AreThrough {P F : Type 0} (role : P → F) (IsDone : P → Type 0) (before after' : List P)
    : Type 0 where
  pub same : map role after' ≡ map role before
  pub done : All IsDone after'

-- the user's: its number, the name of its room's book, and the input script
pub record UserRole : Type 0 where
  pub number : ℕ
  pub name : BookName
  pub input : List InputLine

-- the role of the user's pass
abbrev pub user_role_of : UserPassModel → UserRole
user_role_of u = record { number = u.number; name = u.name; input = u.input }

-- the role is that of the client of its number in this opening
pub record IsRoleIn (parts : OpeningParts) (r : Role) : Type 0 where
  pub name : r.name ≡ parts.name
  pub script : slice_get parts.scripts r.sid ≡ Some r.script
  pub plan : slice_get parts.plans r.sid ≡ Some r.plan
  pub donation : r.donation ≡ donation_of parts.config r.sid
  pub buffer : slice_get parts.buffers r.sid ≡ Some r.buffer
