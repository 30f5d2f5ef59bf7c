use Rattle.nit_stack.proofs.Lemmas.{among, ap, arith, ints, ◌∙◌}
use Rattle.nit_stack.proofs.showing.place.Goals as goal

pub returns-clause-place : goal.returns-clause-place
returns-clause-place c = c.among.ensures.place ∙ ap (λ z. among z c.args.most) (omega (arith, ints))
