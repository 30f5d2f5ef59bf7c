use Rattle.nit_word.proofs.Lemmas.{arith, one_in, whole_long}
use Rattle.nit_word.proofs.words.Words.set.Goals as goal

pub overflow_add-i : goal.overflow_add-i
overflow_add-i c = omega (arith, whole_long _ _ _ c.self.view_is c.self.invariant.0)

pub reach-requires : goal.reach-requires
reach-requires c = omega (arith, whole_long _ _ _ c.self.view_is c.self.invariant.0)

pub index_mut-requires : goal.index_mut-requires
index_mut-requires c = omega (arith, c.reach.ensures.reached)

pub invariant_of-self : goal.invariant_of-self
invariant_of-self c =
    let after = one_in c.self.inside.size c.args.i c.args.w c.args.self.now _ c.reach.new.words.items c.self.view_is
    c.self.invariant.0 c.requires c.reach.ensures.items in
    (after.0, omega (arith, c.self.invariant.1, c.reach.ensures.capacity))

pub returns : goal.returns
returns c =
    (one_in c.self.inside.size c.args.i c.args.w c.args.self.now _ c.reach.new.words.items c.self.view_is
    c.self.invariant.0 c.requires c.reach.ensures.items).1
