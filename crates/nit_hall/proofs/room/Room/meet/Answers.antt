use Rattle.std.proofs.Common.{rules, take, ◌≡◌}
use Rattle.nit_hall.proofs.Lemmas.{calls_in, calls_made, calls_of, entries_in, front_of_each}
use Rattle.nit_hall.proofs.Lemmas.{left_of, pass_counted}
use Rattle.nit_hall.proofs.room.Room.meet.Goals as goal

pub invariant_of-pass : goal.invariant_of-pass
invariant_of-pass c =
    let of = rw (← c.pass.view_is, ← c.self.view_is) at c.requires in
    let counted = pass_counted c.self.inside.book.counts c.pass.invariant of c.meet.ensures.before.counted in
    let knows : calls_of c.pass.inside.sid (entries_in c.self.inside.book.entries)
    ≡ calls_in (take c.pass.inside.next c.pass.inside.script.now) =
    rw c.self.invariant.1 (calls_made (left_of c.self.view_is) _ _ _ c.self.invariant.0 of.script counted) in
    let is = c.pass.invariant in
    rw c.meet.ensures.share assumption

pub returns : goal.returns
returns c =
    let of = rw (← c.pass.view_is, ← c.self.view_is) at c.requires in
    let is = c.pass.invariant in
    record {
      room = search rules;
      pass = search rules;
      before = rw (← c.pass.view_is, ← c.self.view_is, ← c.self.invariant.1)
          (front_of_each (λ r. r.entry) _ _ c.meet.ensures.before.front);
      counted = rw (← c.self.view_is, ← c.pass.view_is)
          (pass_counted c.self.inside.book.counts is of c.meet.ensures.before.counted);
      owner = rw (← c.pass.view_is) is.owner;
      painted = rw (← c.pass.view_is) is.painted;
      inked = rw (← c.pass.view_is) is.inked;
      told = rw (← c.pass.view_is) is.told;
    }
