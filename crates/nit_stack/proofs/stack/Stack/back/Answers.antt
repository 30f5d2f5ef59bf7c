use Rattle.nit_stack.proofs.Lemmas.{IsStack, arith, backed, keeps_back, others_kept, room_again}
use Rattle.nit_stack.proofs.Lemmas.{slot_kept, subst}
use Rattle.nit_stack.proofs.stack.Stack.back.Goals as goal

pub put_in_back-requires-clause-kept : goal.put_in_back-requires-clause-kept
put_in_back-requires-clause-kept c =
    rw (c.take_out.ensures.items, c.as_slice.ensures.value, c.as_slice-2.ensures.value)
    (others_kept c.self.inside c.args.v.0 c.self.invariant.standing)

pub put_in_back-requires-clause-slot : goal.put_in_back-requires-clause-slot
put_in_back-requires-clause-slot c =
    rw (c.as_slice.ensures.value, c.as_slice-2.ensures.value)
    (slot_kept c.self.inside c.args.v.0 c.self.invariant.standing (rw (← c.self.view_is) at c.requires))

pub put_in_back-requires-clause-room : goal.put_in_back-requires-clause-room
put_in_back-requires-clause-room c =
    let room = room_again c.self.inside c.args.v.0 c.self.invariant.standing in
    grind (arith, room, c.take_out.ensures.items, c.take_out.new.order.ok.0)

pub invariant_of-self : goal.invariant_of-self
invariant_of-self c =
    let there = rw (← c.self.view_is) at c.requires in
    let views = backed c.self.inside c.args.v.0 there in
    record {
      standing = subst IsStack (cc) (keeps_back _ c.args.v.0 c.self.invariant.standing there);
      space = omega arith;
    }

pub returns : goal.returns
returns c =
    let there = rw (← c.self.view_is) at c.requires in
    let views = backed c.self.inside c.args.v.0 there in
    rw (← c.self.view_is) (cc)
