use Rattle.nit_scene.proofs.Lemmas.{arith, listed_set, nat_tests, slice_get_read}
use Rattle.nit_scene.proofs.scene.Scene.exchange.Goals as goal

pub invariant_of-self : goal.invariant_of-self
invariant_of-self g c = (
  c.self.invariant.0,
  listed_set c.args.sid c.swap.new.x
      (rw c.swap.ensures.x_after (rw (← c.self.view_is) at c.requires.glass))
      (rw (← c.self.view_is) at c.requires.session) c.self.invariant.1,
  c.self.invariant.2,
)

pub returns-clause-out : goal.returns-clause-out
returns-clause-out g c = grind (arith, nat_tests, slice_get_read, c.self.invariant.1.each)
