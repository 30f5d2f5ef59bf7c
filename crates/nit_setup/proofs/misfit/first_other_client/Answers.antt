use Rattle.nit_setup.proofs.Lemmas.{Some, add-one, ap, found_other, one_more_wanted, phases, sym}
use Rattle.nit_setup.proofs.Lemmas.{◌∙◌}
use Rattle.nit_setup.proofs.misfit.first_other_client.Goals as goal

pub returns-then-phases-wanted-clause-some : goal.returns-then-phases-wanted-clause-some
returns-then-phases-wanted-clause-some c =
    found_other c.args.wanted c.args.clients.now c.args.scripts.now c.loop-k.k c.index-clients-k.result
    c.index-scripts-k.result c.requires c.loop-k-test.true c.index-scripts-k.is c.loop-k.invariant
    (λ same. c.if-phases-wanted.true (c.phases.ensures ∙ ap phases c.lines.ensures.value ∙ same))
    ∙ ap Some (sym c.as_str.ensures)

pub loop-k-preserved : goal.loop-k-preserved
loop-k-preserved c =
    rw add-one (one_more_wanted c.args.wanted c.args.clients.now c.args.scripts.now c.loop-k.k
    c.index-scripts-k.result c.requires c.loop-k-test.true c.index-scripts-k.is c.loop-k.invariant
    (rw (← c.lines.ensures.value, ← c.phases.ensures) c.if-phases-wanted.false))
