use Rattle.std.proofs.Common.{◌<◌}
use Rattle.nit_stack.proofs.Lemmas.{arith, fresh, get_or-set_same, keeps_push, length, length-set}
use Rattle.nit_stack.proofs.Lemmas.{pushed, refl, room_for, written_kept}
use Rattle.nit_stack.proofs.stack.Stack.push_front.Goals as goal

pub put_in_front-requires-clause-kept : goal.put_in_front-requires-clause-kept
put_in_front-requires-clause-kept c =
    rw (c.as_slice.ensures.value, c.as_slice-2.ensures.value)
    (written_kept c.self.inside c.args.v.0 c.fresh.result c.self.invariant.standing
    (rw (← c.self.view_is) at c.requires.free))

pub put_in_front-requires-clause-slot : goal.put_in_front-requires-clause-slot
put_in_front-requires-clause-slot c =
    let below : c.args.v.0 < length c.self.inside.slots.items = rw (← c.self.view_is) at c.requires.slot in
    let session = rw (← c.self.view_is) at c.requires.session in
    rw (c.as_slice.ensures.value, c.as_slice-2.ensures.value, c.fresh.ensures, length-set, get_or-set_same)
    (below, omega (arith, session, c.self.invariant.standing.sessions.2))

pub put_in_front-requires-clause-room : goal.put_in_front-requires-clause-room
put_in_front-requires-clause-room c =
    grind (arith, room_for c.self.inside c.args.v.0 c.self.invariant.standing, c.self.inside.order.ok.0)

pub invariant_of-self : goal.invariant_of-self
invariant_of-self c =
    let slot = rw (← c.self.view_is) at c.requires.slot in
    let free = rw (← c.self.view_is) at c.requires.free in
    let session = rw (← c.self.view_is) at c.requires.session in
    let named = rw (← c.self.view_is) at c.requires.named in
    let new = fresh c.args.sid c.args.handle in
    let items = rw (c.as_slice.ensures.value, c.as_slice-2.ensures.value, c.fresh.ensures) at
    c.put_in_front.ensures.items in
    let views = pushed c.self.inside c.args.v.0 new slot free in
    let n = length-set c.self.inside.slots.items c.args.v.0 new in
    rw c.fresh.ensures (record {
      standing = rw (items, views, n)
          (keeps_push _ c.args.v.0 c.args.sid c.args.handle c.self.invariant.standing slot free session named);
      space = omega arith;
    })

pub returns : goal.returns
returns c =
    let slot = rw (← c.self.view_is) at c.requires.slot in
    let free = rw (← c.self.view_is) at c.requires.free in
    let new = fresh c.args.sid c.args.handle in
    let items = rw (c.as_slice.ensures.value, c.as_slice-2.ensures.value, c.fresh.ensures) at
    c.put_in_front.ensures.items in
    let views = pushed c.self.inside c.args.v.0 new slot free in
    rw (← c.self.view_is, c.fresh.ensures, items, views, length-set) refl
