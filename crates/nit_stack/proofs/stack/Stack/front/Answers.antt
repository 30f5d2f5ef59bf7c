use Rattle.nit_stack.proofs.Lemmas.{IsStack, arith, fronted, keeps_front, others_kept, room_again}
use Rattle.nit_stack.proofs.Lemmas.{slot_kept, subst}
use Rattle.nit_stack.proofs.stack.Stack.front.Goals as goal

pub put_in_front-requires-clause-kept : goal.put_in_front-requires-clause-kept
put_in_front-requires-clause-kept c =
    rw (c.take_out.ensures.items, c.as_slice.ensures.value, c.as_slice-2.ensures.value)
    (others_kept c.self.inside c.args.v.0 c.self.invariant.standing)

pub put_in_front-requires-clause-slot : goal.put_in_front-requires-clause-slot
put_in_front-requires-clause-slot c =
    rw (c.as_slice.ensures.value, c.as_slice-2.ensures.value)
    (slot_kept c.self.inside c.args.v.0 c.self.invariant.standing (rw (← c.self.view_is) at c.requires))

pub put_in_front-requires-clause-room : goal.put_in_front-requires-clause-room
put_in_front-requires-clause-room c =
    let room = room_again c.self.inside c.args.v.0 c.self.invariant.standing in
    grind (arith, room, c.take_out.ensures.items, c.take_out.new.order.ok.0)

pub invariant_of-self : goal.invariant_of-self
invariant_of-self c =
    let there = rw (← c.self.view_is) at c.requires in
    let views = fronted c.self.inside c.args.v.0 there in
    record {
      standing = subst IsStack (cc) (keeps_front _ c.args.v.0 c.self.invariant.standing there);
      space = omega arith;
    }

pub returns : goal.returns
returns c =
    let there = rw (← c.self.view_is) at c.requires in
    let views = fronted c.self.inside c.args.v.0 there in
    rw (← c.self.view_is) (cc)
