use Rattle.nit_hall.proofs.Lemmas.{End, List, SceneModel, ap, arith, nat_tests, put_back, same_Some}
use Rattle.nit_hall.proofs.Lemmas.{set, set_there, ◌∙◌}
use Rattle.nit_hall.proofs.room.agreeing.agree.Goals as goal

pub returns-clause-scene : goal.returns-clause-scene
returns-clause-scene g c =
    let e = c.exchange.ensures in
    let sid = c.args.at.now.sid in
    c.exchange-2.ensures.scene
    ∙ (λ i. let s : SceneModel End = e.scene i in record s { glasses = set s.glasses sid (c.agree.ensures.lens i) })
    ∙ ap (λ (es : List End). record c.args.scene.now { glasses = es })
    (put_back sid g.X.Stages.stages c.args.scene.now.glasses c.exchange.new.glass c.args.spare.now e.out)

pub returns-clause-spare : goal.returns-clause-spare
returns-clause-spare g c = grind (arith, nat_tests, same_Some, set_there)
