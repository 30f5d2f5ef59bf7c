-- Who a client with a clip script is and what it has to do. No line that it does changes this.
use Rattle.std.specs.Prelude.{◌≡◌, ◌==◌, ℕ, Bool, true, List, length, slice_get, Some}
use Rattle.nit_actor.specs.Below.{AreTogether, Belongs, BookName, ClipBelongs, ClipLine}
use Rattle.nit_actor.specs.Below.{ClipPassModel, OpeningParts, PassModel, clip_number, clip_phases}
use Rattle.nit_actor.specs.Below.{phases}
use Rattle.nit_actor.specs.Role.{Role, IsOneOn, IsRoleIn, IsThrough, role_of}

-- a client's with the clipboard: its number, that of its share, the name of its room's book, and
-- its clip script
pub record ClipRole : Type 0 where
  pub sid : ℕ
  pub number : ℕ
  pub name : BookName
  pub script : List ClipLine

-- the role of a client's clip pass
abbrev pub clip_role_of : ClipPassModel → ClipRole
clip_role_of q = record { sid = q.sid; number = q.number; name = q.name; script = q.script }

-- The two passes go together: they are of one client and in one phase, and the clip script has as
-- many phases as the script.
pub record GoTogether (p : PassModel) (q : ClipPassModel) : Type 0 where
  pub now : AreTogether p q
  pub phases_each : clip_phases q.script ≡ phases p.script

-- the two passes are of this opening, and go together
pub record IsPairIn (parts : OpeningParts) (p : PassModel) (q : ClipPassModel) : Type 0 where
  pub pass : Belongs parts p
  pub clip : ClipBelongs parts q
  pub together : GoTogether p q

-- the two passes are of this opening and go together, and the client's next line is such a one
pub record PairIsAt (parts : OpeningParts) (IsAt : PassModel → Type 0) (p : PassModel)
    (q : ClipPassModel) : Type 0 where
  pub pair : IsPairIn parts p q
  pub next : IsAt p

-- ---- what a client with a clip script did

-- One more line of the client's pass is done. Both passes keep their roles, and go together.
pub record PairIsOneOn (p : PassModel) (q : ClipPassModel) (p' : PassModel) (q' : ClipPassModel)
    : Type 0 where
  pub pass : IsOneOn p p'
  pub clip_same : clip_role_of q' ≡ clip_role_of q
  pub together : GoTogether p' q'

-- All lines of both passes are done. They keep their roles, and go together.
pub record PairIsThrough (p : PassModel) (q : ClipPassModel) (p' : PassModel) (q' : ClipPassModel)
    : Type 0 where
  pub pass : IsThrough p p'
  pub clip_same : clip_role_of q' ≡ clip_role_of q
  pub clip_done : q'.next ≡ length q'.script
  pub together : GoTogether p' q'

-- Only clip calls were done: the pass stands where it stood, and may know more and agree on other
-- stages, and the clip pass is further on in its phase.
pub record DidClips (parts : OpeningParts) (p : PassModel) (q : ClipPassModel) (p' : PassModel)
    (q' : ClipPassModel) : Type 0 where
  pub pass : p' ≡ record p {
    met = p'.met;
    seen = p'.seen;
    sight = record p.sight { stages = p'.sight.stages };
  }
  pub clip : q' ≡ record q { next = q'.next; seen = q'.seen }
  pub pair : IsPairIn parts p' q'

-- ---- a pass and a clip pass that go to one thread

-- the roles of both, and whether both are in one phase
pub record PairRole : Type 0 where
  pub client : Role
  pub clip : ClipRole
  pub in_phase : Bool

-- the role of two passes
abbrev pub pair_role_of : PassModel → ClipPassModel → PairRole
pair_role_of p q =
    record { client = role_of p; clip = clip_role_of q; in_phase = p.phase == q.phase }

-- The roles are those of one client in this opening, whose two scripts have as many phases, and
-- both passes are in one phase.
pub record IsPairRoleIn (parts : OpeningParts) (r : PairRole) : Type 0 where
  pub client : IsRoleIn parts r.client
  pub name : r.clip.name ≡ parts.name
  pub script : slice_get parts.clips r.clip.sid ≡ Some r.clip.script
  pub number : r.clip.number ≡ clip_number parts r.clip.sid
  pub one_client : r.client.sid ≡ r.clip.sid
  pub phases_each : clip_phases r.clip.script ≡ phases r.client.script
  pub in_phase : r.in_phase ≡ true
