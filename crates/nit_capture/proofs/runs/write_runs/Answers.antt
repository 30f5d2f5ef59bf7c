use Rattle.std.proofs.Common.{take, ◌+◌, ◌∙◌}
use Rattle.nit_capture.proofs.Lemmas.{arith, length-drop, refl, run_written, runs_written}
use Rattle.nit_capture.proofs.Lemmas.{take-put_mid, take_rest}
use Rattle.nit_capture.proofs.runs.write_runs.Goals as goal

pub loop-at-preserved : goal.loop-at-preserved
loop-at-preserved c =
    let text = c.copy_from_slice.ensures.after ∙ c.run.ensures in
    let i = c.loop-at.invariant in
    let words = c.args.words.now in
    let more = rw (take_rest words c.loop-at.at) at c.more_of-more.ensures.value in
    let within = rw (take_rest words c.loop-at.at) at c.more_of-more.ensures.within in
    record {
      written = run_written (take c.loop-at.end c.loop-at.bytes) _ words _ c.loop-at.at c.more_of-more.result
          c.loop-at-test.true i.written more
          (take-put_mid c.loop-at.end _ c.loop-at.bytes c.copy_from_slice.new.self (c.loop-at.end + 4)
          (rw text (omega arith)) (omega (arith, i.few, i.within, c.loop-at.auto.bytes, c.requires.room))
          ∙ rw text refl);
      within = omega (arith, length-drop c.loop-at.at words, c.loop-at-test.true);
      few = omega (arith, i.few);
    }

pub returns-clause-value : goal.returns-clause-value
returns-clause-value c = runs_written _ c.args.words.now _ c.loop-at.at c.loop-at-test.false c.loop-at.invariant.written
