-- What it leaves to show an actor's pass what is in the book of its room.
use Rattle.std.specs.Prelude.{◌≡◌, length, take, slice_index, Some}
use Rattle.nit_hall.specs.Below.{IsPaintedTo, clip_calls_in, script_ink, words_after}
use mathlib.Core.List.{IsPrefix}
use Rattle.nit_hall.specs.ServedLines.{served}
use Rattle.nit_hall.specs.Pass.{PassModel, UserPassModel, knowing}
use Rattle.nit_hall.specs.ClipPass.{ClipPassModel, knowing_clip}
use Rattle.nit_hall.specs.Room.{RoomModel, without_final}

-- The room stays as it is, and the pass knows its book. The room's count is of the pass's lines,
-- and the words of the pass are those that these lines leave, with the script's ink.
pub record HasMet (r : RoomModel) (p : PassModel) (r' : RoomModel) (p' : PassModel) : Type 0 where
  pub room : r' ≡ r
  pub pass : p' ≡ knowing (without_final r.scene.entries) p
  pub before : IsPrefix p.seen (without_final r.scene.entries)
  pub counted : slice_index r.counts p.sid ≡ length (served (take p.next p.script))
  pub owner : p.sight.owner ≡ p.sid
  pub painted : IsPaintedTo p.script p.donation p.plan p.next p.sight
  pub inked : p.sight.ink ≡ script_ink p.script p.donation
  pub told : p.sight.words ≡ Some (words_after p.script p.donation p.next)

-- so of the user's pass, which knows the raw words after its entries too
pub record UserHasMet (r : RoomModel) (u : UserPassModel) (r' : RoomModel) (u' : UserPassModel)
    : Type 0 where
  pub room : r' ≡ r
  pub user : u' ≡ record u { seen = without_final r.scene.entries; raws = r.raws }
  pub before : IsPrefix u.seen (without_final r.scene.entries)
  pub raws_before : IsPrefix u.raws r.raws
  pub counted : slice_index r.counts (length r.parts.scripts) ≡ u.next

-- so of a clip pass, by the room's count of clip calls
pub record ClipHasMet (r : RoomModel) (q : ClipPassModel) (r' : RoomModel) (q' : ClipPassModel)
    : Type 0 where
  pub room : r' ≡ r
  pub clip : q' ≡ knowing_clip (without_final r.scene.entries) q
  pub before : IsPrefix q.seen (without_final r.scene.entries)
  pub counted : slice_index r.clip_counts q.sid ≡ length (clip_calls_in (take q.next q.script))
