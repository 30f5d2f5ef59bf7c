use Rattle.nit_stack.proofs.Lemmas.{front_is, layer_in, sym}
use Rattle.nit_stack.proofs.order.put_in_front.Goals as goal

pub returns-clause-items : goal.returns-clause-items
returns-clause-items c =
    let layer = layer_in c.args.slots.now c.args.layers.now in
    rw (c.put_in.ensures.items, c.front_place-place.ensures.place, c.layer_at-layer.ensures, c.as_slice.ensures.value)
    (sym (front_is layer (layer c.args.slot) c.args.slot c.args.order.now.items))
