use Rattle.nit_host.proofs.Lemmas.{arith, clip_order, clipped, ints, nat_tests}
use Rattle.nit_host.proofs.host.handing.clip.Goals as goal

pub returns-clause-order : goal.returns-clause-order
returns-clause-order c = clip_order _ _ c.args.most _ _ (omega (arith, ints)) c.first_from.ensures.most
    c.first_from.ensures.place c.first_from-2.ensures.place

pub returns-clause-same : goal.returns-clause-same
returns-clause-same c = grind (arith, nat_tests, clipped)
