use Rattle.nit_stack.proofs.Lemmas.{IsStack, arith, is_slot, keeps_remove, map-without, slot_view}
use Rattle.nit_stack.proofs.Lemmas.{subst}
use Rattle.nit_stack.proofs.stack.Stack.remove.Goals as goal

pub invariant_of-self : goal.invariant_of-self
invariant_of-self c =
    let views = map-without (slot_view c.self.inside.slots.items) (is_slot c.args.v.0) c.self.inside.order.items in
    record {
      standing = subst IsStack (cc) (keeps_remove _ c.args.v.0 c.self.invariant.standing);
      space = omega arith;
    }

pub returns : goal.returns
returns c =
    let views = map-without (slot_view c.self.inside.slots.items) (is_slot c.args.v.0) c.self.inside.order.items in
    rw (← c.self.view_is) (cc)
