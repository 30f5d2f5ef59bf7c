use Rattle.nit_perform.proofs.Lemmas.{last_picture, ◌∙◌}
use Rattle.nit_perform.proofs.last.put_last.Goals as goal

pub returns-clause-put : goal.returns-clause-put
returns-clause-put g c = λ tables have.
    rw (last_picture c.args.scene.now tables c.size-width.result c.frame.result.now c.size-width.ensures.size
    (c.frame.ensures.shown.frame ∙ c.take_last.ensures.frame tables have)) at c.put_lent.ensures.put
