-- What a call over the lock needs of an actor's pass, and what it leaves of it.
use Rattle.std.specs.Prelude.{◌≡◌, ℕ, ◌+◌, All, List, Some}
use Rattle.nit_hall.specs.Below.{ClipReply, IsClipAnswer, IsLegal, IsWord, Reply, Routed, replay}
use Rattle.nit_hall.specs.Below.{with_stages}
use mathlib.Core.List.{IsPrefix}
use Rattle.nit_hall.specs.OpeningParts.{OpeningParts}
use Rattle.nit_hall.specs.Pass.{PassModel, UserPassModel, Belongs, UserBelongs, HasLoaded}
use Rattle.nit_hall.specs.Pass.{call_entry, device_entry, sight_after_line, stretch_from}
use Rattle.nit_hall.specs.ClipPass.{ClipPassModel, ClipBelongs, AreTogether, IsAtClip, IsAtPhaseEnd}
use Rattle.nit_hall.specs.ClipPass.{next_clip}
use Rattle.nit_hall.specs.Hall.{Tells, TellsShot}
use Rattle.nit_hall.specs.History.{IsHistory}

-- ---- what a call needs

-- the pass is of this opening, and its next line is one that the call does
pub record BelongsAt (parts : OpeningParts) (IsAt : PassModel → Type 0) (p : PassModel)
    : Type 0 where
  pub belongs : Belongs parts p
  pub next : IsAt p

-- the user's pass is of this opening, and its next line is one that the call does
pub record UserBelongsAt (parts : OpeningParts) (IsAt : UserPassModel → Type 0)
    (u : UserPassModel) : Type 0 where
  pub belongs : UserBelongs parts u
  pub next : IsAt u

-- The two passes are of one client of this opening and in one phase; the clip pass is at a clip
-- call, and the client's pass has done what it does in its phase.
pub record CanClip (parts : OpeningParts) (p : PassModel) (q : ClipPassModel) : Type 0 where
  pub belongs : Belongs parts p
  pub clip_belongs : ClipBelongs parts q
  pub together : AreTogether p q
  pub phase_end : IsAtPhaseEnd p
  pub next : IsAtClip q

-- ---- what it leaves

-- A client's call was served with this reply: the last entry that the pass knows is the call, all
-- that it knows is legal, and it has loaded some of its words after the line. It and the room's
-- end of its words agree on the strokes after the line.
pub record ServedCall (parts : OpeningParts) (p : PassModel) (reply : Reply) (p' : PassModel)
    : Type 0 where
  pub told : Tells p.seen (call_entry p reply) p'.seen
  pub legal : IsLegal parts.config p'.seen
  pub pass : p'
      ≡ record p { next = p.next + 1; met = p.phase; seen = p'.seen; sight = p'.sight }
  pub sight : HasLoaded (sight_after_line p) p'.sight
  pub agreed : p'.sight.stages ≡ Some (stretch_from p (p.next + 1))

-- The pass has ended its phase, and knows what it did and maybe more, all of it legal. It and the
-- room's end of its words agree on the words that its lines have left.
pub record EndedPhase (parts : OpeningParts) (p p' : PassModel) : Type 0 where
  pub grows : IsPrefix p.seen p'.seen
  pub legal : IsLegal parts.config p'.seen
  pub pass : p' ≡ record p {
    next = p.next + 1;
    phase = p.phase + 1;
    seen = p'.seen;
    sight = with_stages (stretch_from p p.next) p.sight;
  }

-- The pass has found its phase served, and knows what it did and maybe more, all of it legal.
pub record Admitted (parts : OpeningParts) (p p' : PassModel) : Type 0 where
  pub grows : IsPrefix p.seen p'.seen
  pub legal : IsLegal parts.config p'.seen
  pub pass : p' ≡ record p {
    met = p.phase;
    seen = p'.seen;
    sight = with_stages (stretch_from p p.next) p.sight;
  }

-- A clip call was answered by the focus that is there after all that the passes know now.
pub record ServedClip (parts : OpeningParts) (p : PassModel) (q : ClipPassModel) (reply : ClipReply)
    (p' : PassModel) (q' : ClipPassModel) : Type 0 where
  pub answer : IsClipAnswer (replay parts.config p'.seen).input.focus q.sid (next_clip q) reply
  pub grows : IsPrefix p.seen p'.seen
  pub legal : IsLegal parts.config p'.seen
  pub pass : p' ≡ record p {
    met = p.phase;
    seen = p'.seen;
    sight = with_stages (stretch_from p p.next) p.sight;
  }
  pub clip : q' ≡ record q { next = q.next + 1; seen = p'.seen }

-- A device event of the user's was done and delivered so. The raw words that it knows are one
-- history.
pub record DoneDevice (parts : OpeningParts) (u : UserPassModel) (routed : Routed)
    (u' : UserPassModel) : Type 0 where
  pub told : Tells u.seen (device_entry u routed) u'.seen
  pub legal : IsLegal parts.config u'.seen
  pub raws_grow : IsPrefix u.raws u'.raws
  pub history : IsHistory parts.config u'.seen u'.raws
  pub user : u' ≡ record u { next = u.next + 1; seen = u'.seen; raws = u'.raws }

-- the user's pass has ended its phase
pub record UserEndedPhase (parts : OpeningParts) (u u' : UserPassModel) : Type 0 where
  pub grows : IsPrefix u.seen u'.seen
  pub legal : IsLegal parts.config u'.seen
  pub raws_grow : IsPrefix u.raws u'.raws
  pub history : IsHistory parts.config u'.seen u'.raws
  pub user : u'
      ≡ record u { next = u.next + 1; phase = u.phase + 1; seen = u'.seen; raws = u'.raws }

-- A shot with this number was taken, and these words are its picture. The raw words that the user
-- knows, after the shot too, are one history.
pub record DoneShot (parts : OpeningParts) (u : UserPassModel) (number : ℕ) (u' : UserPassModel)
    (words : List ℕ) : Type 0 where
  pub told : TellsShot parts u.seen u.raws number u'.seen u'.raws words
  pub legal : IsLegal parts.config u'.seen
  pub history : IsHistory parts.config u'.seen u'.raws
  pub coloured : All IsWord words
  pub user : u' ≡ record u { next = u.next + 1; seen = u'.seen; raws = u'.raws }
