use Rattle.std.proofs.Common.{Some, drop, map, slice_get, take, ℕ, ◌++◌, ◌<◌, ◌≡◌}
use Rattle.nit_hall.proofs.Lemmas.{ClipPassModel, IsKnownClip, knowing_clip, without_final}
use Rattle.nit_hall.proofs.room.Room.meet_clips.Given as goal

abbrev pub invariant-clips : goal.invariant-clips
invariant-clips l = record {
  room : l.self ≡ l.initial.self;
  so_far : l.clips ≡ map (knowing_clip (without_final l.initial.self.scene.entries)) (take l.clip-index l.initial.clips)
      ++ drop l.clip-index l.initial.clips;
  met : (k : ℕ) (q : ClipPassModel) → k < l.clip-index → slice_get l.initial.clips k ≡ Some q
      → IsKnownClip l.initial.self k q;
}
