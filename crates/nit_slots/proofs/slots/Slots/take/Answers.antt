use Rattle.std.proofs.Common.{sym}
use Rattle.nit_slots.proofs.Lemmas.{free_front, last_below, last_not_taken, length_taken_less}
use Rattle.nit_slots.proofs.Lemmas.{taken_more}
use Rattle.nit_slots.proofs.slots.Slots.take.Goals as goal

pub invariant_of-self : goal.invariant_of-self
invariant_of-self c =
    let was = rw c.unwrap.ensures at c.pop.ensures.items in
    record {
      free = free_front c.pop.new.self.items c.unwrap.result c.self.inside.total (rw was at c.self.invariant.free);
      space = rw c.pop.ensures.capacity c.self.invariant.space;
    }

pub returns : goal.returns
returns c =
    let free = c.pop.new.self.items in
    let was = rw c.unwrap.ensures at c.pop.ensures.items in
    let last = last_below free c.unwrap.result c.self.inside.total (rw was at c.self.invariant.free) in
    rw (← c.self.view_is, was) (record {
      below = last.0;
      free = last_not_taken free c.unwrap.result c.self.inside.total;
      taken = λ i. record {
        total = c.self.inside.total;
        taken = taken_more free c.unwrap.result c.self.inside.total last.0 last.1 i;
      };
      more = sym (length_taken_less free c.unwrap.result c.self.inside.total last.0 last.1);
    })
