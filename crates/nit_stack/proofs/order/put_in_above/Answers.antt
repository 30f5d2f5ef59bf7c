use Rattle.std.proofs.Common.{sym, ◌==◌}
use Rattle.nit_stack.proofs.Lemmas.{above_is}
use Rattle.nit_stack.proofs.order.put_in_above.Goals as goal

pub returns-clause-items : goal.returns-clause-items
returns-clause-items c =
    rw (c.put_in.ensures.items, c.place_of-place.ensures.place, c.as_slice.ensures.value)
    (sym (above_is (λ k. k == c.args.next) c.args.slot c.args.order.now.items))
