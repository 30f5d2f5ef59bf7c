use Rattle.nit_capture.proofs.Lemmas.{ap, arith, no_record, none_read, record_take, slice_index}
use Rattle.nit_capture.proofs.Lemmas.{sym, ◌∙◌}
use Rattle.nit_capture.proofs.player.Player.next.Goals as goal

pub returns-then-is_end-clause-is_frame : goal.returns-then-is_end-clause-is_frame
returns-then-is_end-clause-is_frame c = λ now rest r.
    let e = sym (ap (λ p. p.rest) c.self.view_is) ∙ c.is_end.ensures.yes c.if-is_end.true in
    absurd (no_record _ _ _ _ now rest r (ap (λ l. slice_index l 0) e))

pub returns-in-Some-clause-frame : goal.returns-in-Some-clause-frame
returns-in-Some-clause-frame c = grind (arith, record_take)

pub returns-in-None-clause-is_frame : goal.returns-in-None-clause-is_frame
returns-in-None-clause-is_frame c = grind (arith, none_read)
