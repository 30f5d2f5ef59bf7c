use Rattle.std.proofs.Common.{arith, get_or, ◌+◌, ◌-◌, ◌≡◌, ◌≤◌}
use Rattle.nit_stack.proofs.Lemmas.{back_at, back_none, layer_in}
use Rattle.nit_stack.proofs.order.back_place.Goals as goal

pub returns-then-layer_at-layer-clause-place : goal.returns-then-layer_at-layer-clause-place
returns-then-layer_at-layer-clause-place c v =
    let layer = layer_in c.args.slots.now c.args.layers.now in
    let more : c.loop-i.i ≡ c.loop-i.i - 1 + 1 = omega arith in
    let low : layer (get_or c.args.order.now (c.loop-i.i - 1) 0) ≤ c.args.layer = omega (arith, c.layer_at.ensures) in
    back_at layer c.args.layer v c.args.order.now (c.loop-i.i - 1) 0 (omega arith) low
    (rw more at c.loop-i.invariant)

pub returns-clause-place : goal.returns-clause-place
returns-clause-place c v =
    let none : c.loop-i.i ≡ 0 = omega arith in
    back_none (layer_in c.args.slots.now c.args.layers.now) c.args.layer v c.args.order.now
    (rw none at c.loop-i.invariant)
