use Rattle.nit_slots.proofs.Lemmas.{Rises-push, arith, next_not_held}
use Rattle.nit_slots.proofs.table.Table.create.Goals as goal

pub invariant_of-self : goal.invariant_of-self
invariant_of-self c = record {
  table = record {
    rising = rw c.push_reserved.ensures.items
        (Rises-push 1 c.self.inside.pairs.items c.self.inside.next c.take.result c.self.invariant.table.rising);
    counted = omega (arith, rw (← c.self.view_is) at c.requires.room, c.push_reserved.new.self.ok.0);
  };
  space = rw c.push_reserved.ensures.capacity c.self.invariant.space;
}

pub returns-clause-was_not_held : goal.returns-clause-was_not_held
returns-clause-was_not_held c =
    rw (← c.self.view_is) (next_not_held 1 c.self.inside.pairs.items c.self.inside.next c.self.invariant.table.rising)
