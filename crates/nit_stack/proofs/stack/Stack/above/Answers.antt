use Rattle.nit_stack.proofs.Lemmas.{IsStack, arith, keeps_above, raised, room_again, subst}
use Rattle.nit_stack.proofs.stack.Stack.above.Goals as goal

pub put_in_above-requires : goal.put_in_above-requires
put_in_above-requires c =
    let room = room_again c.self.inside c.args.v.0 c.self.invariant.standing in
    grind (arith, room, c.take_out.ensures.items, c.take_out.new.order.ok.0)

pub invariant_of-self : goal.invariant_of-self
invariant_of-self c =
    let there = rw (← c.self.view_is) at c.requires.moved in
    let behind = rw (← c.self.view_is) at c.requires.behind in
    let level = rw (← c.self.view_is) at c.requires.layer in
    let views = raised c.self.inside c.args.v.0 c.args.n.0 there c.if-v-n.false in
    record {
      standing = subst IsStack (cc) (keeps_above _ c.args.v.0 c.args.n.0 c.self.invariant.standing there behind level);
      space = omega arith;
    }

pub returns : goal.returns
returns c =
    let there = rw (← c.self.view_is) at c.requires.moved in
    let views = raised c.self.inside c.args.v.0 c.args.n.0 there c.if-v-n.false in
    rw (← c.self.view_is) (cc)
