-- What a room and its passes are until the last line is done.
use Rattle.std.specs.Prelude.{◌≡◌, List, All, length}
use Rattle.std.specs.List.{AllZip}
use Rattle.nit_journal.specs.Replay.{IsOpen}
use Rattle.nit_hall.specs.OpeningParts.{OpeningParts}
use Rattle.nit_hall.specs.Pass.{PassModel, UserPassModel, Belongs, UserBelongs}
use Rattle.nit_hall.specs.ClipPass.{ClipPassModel, ClipBelongs}
use Rattle.nit_hall.specs.ClipOpening.{AreFirstClipPasses}
use Rattle.nit_hall.specs.Room.{RoomModel}
use Rattle.nit_actor.specs.ClipRole.{GoTogether}

-- The lines of this opening can be done: its journal is open, all passes are of it, and each
-- client's
-- clip pass goes with its pass, with no line done.
pub record IsOpenRoom (parts : OpeningParts) (r : RoomModel) (ps : List PassModel)
    (u : UserPassModel) (qs : List ClipPassModel) : Type 0 where
  pub parts_are : r.parts ≡ parts
  pub open_now : IsOpen r.scene.entries
  pub belong : All (Belongs parts) ps
  pub user_belongs : UserBelongs parts u
  pub clips_belong : All (ClipBelongs parts) qs
  pub each : length qs ≡ length ps
  pub together : AllZip GoTogether ps qs
  pub clips_first : AreFirstClipPasses parts qs
