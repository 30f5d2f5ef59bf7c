use Rattle.nit_hall.proofs.Lemmas.{clip_counted, front_of_each, refl, rules}
use Rattle.nit_hall.proofs.room.Room.meet_clip.Goals as goal

pub returns : goal.returns
returns c = record {
  room = search rules;
  clip = search rules;
  before = rw (← c.clip.view_is, ← c.self.view_is, ← c.self.invariant.1)
      (front_of_each (λ r. r.entry) _ _ c.meet.ensures.before.front);
  counted = clip_counted c.self.inside.book.counts c.self.view_is c.clip.view_is c.clip.invariant c.requires refl
      c.meet.ensures.before.counted;
}
