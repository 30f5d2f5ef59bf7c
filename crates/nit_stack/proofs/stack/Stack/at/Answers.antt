use Rattle.std.proofs.Common.{Some, refl, slice_get, ◌≡◌}
use Rattle.nit_stack.proofs.Lemmas.{length-map, ref_at, slice_get_read, there_at}
use Rattle.nit_stack.proofs.stack.Stack.at.Goals as goal

pub returns : goal.returns
returns c =
    let at : slice_get c.self.inside.order.items c.args.i ≡ Some c.index.result.now =
    slice_get_read _ _ c.args.i c.index.result.now refl (rw (← c.self.view_is, length-map) at c.requires)
    c.index.ensures in
    record {
      place = rw (← c.self.view_is, ref_at, at) refl;
      stands = rw (← c.self.view_is)
          (there_at c.self.inside.slots.items c.self.inside.order.items c.args.i c.index.result.now at);
    }
