use Rattle.nit_perform.proofs.Lemmas.{State, ap, finished_frame, frame, scenery_of, ◌∙◌}
use Rattle.nit_perform.proofs.last.take_last.Goals as goal

pub returns-clause-frame : goal.returns-clause-frame
returns-clause-frame c = λ tables have.
    ap (λ (s : State). frame (scenery_of s) c.load_last.new.self.raw) c.load_last.ensures.ended.same
    ∙ finished_frame c.args.scene.now c.load_last.new.self c.args.owns.now c.load_last.new.owns tables
    c.one_more_entry.ensures.replayed c.load_last.ensures.ended.added.config c.load_last.ensures.ended.added.recorded
    c.requires.each have
    c.load_last.ensures.ended.painted
