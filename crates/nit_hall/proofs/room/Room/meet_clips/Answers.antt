use Rattle.nit_hall.proofs.Lemmas.{IsKnownClip, arith, clip_met, clips_whole, common_steps}
use Rattle.nit_hall.proofs.Lemmas.{holds_all, holds_below, knowing_clip, step_far, still_there}
use Rattle.nit_hall.proofs.Lemmas.{without_final, ◌∙◌}
use Rattle.nit_hall.proofs.room.Room.meet_clips.Goals as goal

pub meet_clip-requires : goal.meet_clip-requires
meet_clip-requires c =
    let i = c.clips.invariant in
    let at = still_there _ _ _ _ _ (omega arith) i.so_far c.clip-item.is in
    rw (i.room, ← c.clip-item.is) (c.requires.done_all _ _ at.1).belongs

pub clips-preserved : goal.clips-preserved
clips-preserved c =
    let i = c.clips.invariant in
    let at = still_there _ _ _ _ _ (omega arith) i.so_far c.clip-item.is in
    let e = c.meet_clip.ensures in
    record {
      room = e.room ∙ i.room;
      so_far = step_far (knowing_clip (without_final c.args.self.now.scene.entries)) _ _ _ c.clip-item.result
          c.meet_clip.new.clip at.0 i.so_far c.clip-item.is
          (rw i.room at e.clip);
      met = holds_below (IsKnownClip c.args.self.now) _ _ _ i.met at.1
          (clip_met _ (c.requires.done_all _ _ at.1) (rw (i.room, ← c.clip-item.is) at e));
    }

pub returns-clause-legal : goal.returns-clause-legal
returns-clause-legal c = c.scene-kept.ensures.kept.clips_follow.legal

pub returns-clause-met : goal.returns-clause-met
returns-clause-met c =
    let known = holds_all (IsKnownClip c.args.self.now) (knowing_clip (without_final c.args.self.now.scene.entries))
    _ _ _ c.clips.invariant.so_far (omega arith) c.clips.invariant.met in
    record { clips = grind (arith, common_steps); before = λ k q at. (known k q at).front }

pub returns-clause-whole : goal.returns-clause-whole
returns-clause-whole c =
    clips_whole c.calls_of_a_clip_script.ensures.all c.args.self.now c.args.clips.now c.scene-kept.ensures.kept
    c.requires (holds_all (IsKnownClip c.args.self.now) (knowing_clip (without_final c.args.self.now.scene.entries))
    _ _ _ c.clips.invariant.so_far (omega arith) c.clips.invariant.met)
