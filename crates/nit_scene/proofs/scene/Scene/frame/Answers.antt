use Rattle.nit_scene.proofs.Lemmas.{shows}
use Rattle.nit_scene.proofs.scene.Scene.frame.Goals as goal

pub returns-clause-shown : goal.returns-clause-shown
returns-clause-shown g c =
    rw (← c.self.view_is) (shows c.self.invariant.0 c.facts.ensures.serving.configured.lettering c.frame.ensures.frame c.frame.ensures.words)
