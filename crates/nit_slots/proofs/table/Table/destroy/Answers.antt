use Rattle.std.proofs.Common.{sym, ◌∙◌}
use Rattle.nit_slots.proofs.Lemmas.{IsTable-without, held_found, length-without_handle}
use Rattle.nit_slots.proofs.table.Table.destroy.Goals as goal

pub invariant_of-self : goal.invariant_of-self
invariant_of-self c =
    let inside = c.self.inside in
    let held = held_found inside.pairs.items c.args.h c.unwrap-slot.result
    (rw (← c.self.view_is) at (sym c.find.ensures.slot ∙ c.unwrap-slot.ensures)) in
    record {
      table = rw c.remove.ensures.items
          (IsTable-without inside.pairs.items inside.next inside.most c.args.h c.self.invariant.table held);
      space = rw c.remove.ensures.capacity c.self.invariant.space;
    }

pub returns-clause-fewer_held : goal.returns-clause-fewer_held
returns-clause-fewer_held c =
    let held = held_found c.self.inside.pairs.items c.args.h c.unwrap-slot.result
    (rw (← c.self.view_is) at (sym c.find.ensures.slot ∙ c.unwrap-slot.ensures)) in
    rw (← c.self.view_is, c.remove.ensures.items)
    (length-without_handle 1 c.self.inside.pairs.items c.self.inside.next c.args.h c.self.invariant.table.rising held)
