use Rattle.nit_actor.proofs.Lemmas.{user_ended, ◌∙◌}
use Rattle.nit_actor.proofs.single.run_alone.Goals as goal

pub lines-preserved : goal.lines-preserved
lines-preserved c =
    let i = c.lines.invariant in
    let e = c.do_line.ensures in
    record {
      alone = record { step = e.on.step; unended = e.unended };
      same = e.on.pass.same ∙ i.same;
      user_same = e.on.user_same ∙ i.user_same;
      parts = e.on.parts ∙ i.parts;
      recorded = e.recorded ∙ i.recorded;
    }

pub returns-clause-pass : goal.returns-clause-pass
returns-clause-pass c = record { same = c.lines.invariant.same; done = c.in_default.ensures.end }

pub returns-clause-user_done : goal.returns-clause-user_done
returns-clause-user_done c = user_ended c.lines.room c.lines.pass c.lines.user c.lines.invariant.alone.step
    c.in_default.ensures.end c.done-within.ensures.within
