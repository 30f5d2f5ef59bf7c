use Rattle.nit_stack.proofs.Lemmas.{get_or-map, length-map, no_size, size}
use Rattle.nit_stack.proofs.stack.Stack.buffer.Goals as goal

pub returns-clause-range : goal.returns-clause-range
returns-clause-range c =
    let session = rw (← c.self.view_is) at c.requires in
    let within = simp length-map at session in
    let at = get_or-map size c.self.inside.sizes.items c.args.sid c.index.result.now no_size within in
    rw (at, ← c.index.ensures) at (c.self.invariant.standing.sizes c.args.sid no_size session)
