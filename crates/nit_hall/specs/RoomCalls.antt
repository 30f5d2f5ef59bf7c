-- What a call of a room needs of an actor's pass, and what it leaves of the pass and the journal.
use Rattle.std.specs.Prelude.{◌≡◌, ℕ, ◌+◌, List, length, map, take, slice_get, slice_index, Some}
use Rattle.nit_hall.specs.Below.{IsLegal, IsOpen, with_stages}
use mathlib.Core.List.{IsPrefix}
use Rattle.nit_hall.specs.OpeningParts.{OpeningParts}
use Rattle.nit_hall.specs.ServedLines.{served}
use Rattle.nit_hall.specs.History.{IsHistory}
use Rattle.nit_hall.specs.Pass.{PassModel, UserPassModel, Belongs, UserBelongs, HasLoaded}
use Rattle.nit_hall.specs.Pass.{sight_after_line, stretch_from}
use Rattle.nit_hall.specs.ClipPass.{ClipPassModel, knowing_clip}
use Rattle.nit_hall.specs.Room.{RoomModel, arrived_one, with_room_stages, without_final}

-- ---- what a call needs

-- the pass is of this opening and in the phase that is served, and its next line is one that the
-- call does
pub record IsReadyAt (parts : OpeningParts) (phase : ℕ) (IsAt : PassModel → Type 0) (p : PassModel)
    : Type 0 where
  pub belongs : Belongs parts p
  pub ready : p.phase ≡ phase
  pub next : IsAt p

-- the user's pass is of this opening and in the phase that is served, and its next line is one that
-- the call does
pub record UserIsReadyAt (parts : OpeningParts) (phase : ℕ) (IsAt : UserPassModel → Type 0)
    (u : UserPassModel) : Type 0 where
  pub belongs : UserBelongs parts u
  pub ready : u.phase ≡ phase
  pub next : IsAt u

-- ---- what it leaves

-- The room has served the pass its call. The pass knew a front of the journal, and now knows all of
-- it, which is legal and not ended; its lines before this one were counted; and it has loaded some
-- of its words after the line.
pub record HasServed (r : RoomModel) (p : PassModel) (r' : RoomModel) (p' : PassModel)
    : Type 0 where
  pub pass : p' ≡ record p {
    next = p.next + 1;
    met = p.phase;
    seen = r'.scene.entries;
    sight = p'.sight;
  }
  pub sight : HasLoaded (sight_after_line p) p'.sight
  pub agreed : p'.sight.stages ≡ Some (stretch_from p (p.next + 1))
  pub before : IsPrefix p.seen r.scene.entries
  pub counted : slice_index r.counts p.sid ≡ length (served (take p.next p.script))
  pub legal : IsLegal r.parts.config r'.scene.entries
  pub unended : IsOpen r'.scene.entries

-- The pass has found its phase served. It knew a front of the book, and now knows all of it; and it
-- and the room's end of its words agree on the strokes from its next line on.
pub record HasAdmitted (r : RoomModel) (p : PassModel) (r' : RoomModel) (p' : PassModel)
    : Type 0 where
  pub room : r' ≡ with_room_stages r p.sid (stretch_from p p.next)
  pub pass : p' ≡ record p {
    met = p.phase;
    seen = without_final r.scene.entries;
    sight = with_stages (stretch_from p p.next) p.sight;
  }
  pub before : IsPrefix p.seen (without_final r.scene.entries)
  pub counted : slice_index r.counts p.sid ≡ length (served (take p.next p.script))
  pub legal : IsLegal r.parts.config r.scene.entries

-- So for the user, which has done a device event or a shot. It knew the raw words after the
-- entries that it knew, and now knows those after all, which are one history.
pub record HasActed (r : RoomModel) (u : UserPassModel) (r' : RoomModel) (u' : UserPassModel)
    : Type 0 where
  pub user : u' ≡ record u { next = u.next + 1; seen = r'.scene.entries; raws = r'.raws }
  pub before : IsPrefix u.seen r.scene.entries
  pub raws_before : IsPrefix u.raws r.raws
  pub counted : slice_index r.counts (length r.parts.scripts) ≡ u.next
  pub legal : IsLegal r.parts.config r'.scene.entries
  pub history : IsHistory r.parts.config r'.scene.entries r'.raws
  pub unended : IsOpen r'.scene.entries

-- The pass has ended its phase. It knew a front of the journal, which stays as it was, and now
-- knows all of it, which is legal and not ended; its lines before this one were counted; and it and
-- the room's end of its words agree on the words that these have left.
pub record HasArrived (r : RoomModel) (p : PassModel) (r' : RoomModel) (p' : PassModel)
    : Type 0 where
  pub room : r' ≡ arrived_one (with_room_stages r p.sid (stretch_from p p.next)) p.sid
  pub pass : p' ≡ record p {
    next = p.next + 1;
    phase = p.phase + 1;
    seen = r.scene.entries;
    sight = with_stages (stretch_from p p.next) p.sight;
  }
  pub before : IsPrefix p.seen r.scene.entries
  pub counted : slice_index r.counts p.sid ≡ length (served (take p.next p.script))
  pub legal : IsLegal r.parts.config r.scene.entries
  pub unended : IsOpen r.scene.entries

-- so for the user's pass, which now knows the raw words after all entries too
pub record UserHasArrived (r : RoomModel) (u : UserPassModel) (r' : RoomModel) (u' : UserPassModel)
    : Type 0 where
  pub room : r' ≡ arrived_one r (length r.parts.scripts)
  pub user : u' ≡ record u {
    next = u.next + 1;
    phase = u.phase + 1;
    seen = r.scene.entries;
    raws = r.raws;
  }
  pub before : IsPrefix u.seen r.scene.entries
  pub raws_before : IsPrefix u.raws r.raws
  pub counted : slice_index r.counts (length r.parts.scripts) ≡ u.next
  pub legal : IsLegal r.parts.config r.scene.entries
  pub history : IsHistory r.parts.config r.scene.entries r.raws
  pub unended : IsOpen r.scene.entries

-- the clip passes know the room's book, of which each knew a front
pub record HaveMet (r : RoomModel) (qs qs' : List ClipPassModel) : Type 0 where
  pub clips : qs' ≡ map (knowing_clip (without_final r.scene.entries)) qs
  pub before : (k : ℕ) (q : ClipPassModel) → slice_get qs k ≡ Some q
      → IsPrefix q.seen (without_final r.scene.entries)
