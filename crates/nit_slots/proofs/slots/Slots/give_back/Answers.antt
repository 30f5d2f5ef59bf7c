use Rattle.nit_slots.proofs.Lemmas.{free_push, length_taken_less, taken_apart, taken_less}
use Rattle.nit_slots.proofs.slots.Slots.give_back.Goals as goal

pub invariant_of-self : goal.invariant_of-self
invariant_of-self c =
    let apart = taken_apart c.self.inside.free.items c.args.slot c.self.inside.total
    (rw (← c.self.view_is) at c.requires) in
    record {
      free = rw c.push_reserved.ensures.items
          (free_push c.self.inside.free.items c.args.slot c.self.inside.total apart.0 apart.1 c.self.invariant.free);
      space = rw c.push_reserved.ensures.capacity c.self.invariant.space;
    }

pub returns : goal.returns
returns c =
    let apart = taken_apart c.self.inside.free.items c.args.slot c.self.inside.total
    (rw (← c.self.view_is) at c.requires) in
    rw (← c.self.view_is, c.push_reserved.ensures.items) (record {
      taken = λ i. record {
        total = c.self.inside.total;
        taken = taken_less c.self.inside.free.items c.args.slot c.self.inside.total i;
      };
      fewer = length_taken_less c.self.inside.free.items c.args.slot c.self.inside.total apart.0 apart.1;
    })
