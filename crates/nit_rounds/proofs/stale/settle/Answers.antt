use Rattle.nit_rounds.proofs.Lemmas.{get_or_default, no_sight, settles, ◌∙◌}
use Rattle.nit_rounds.proofs.stale.settle.Goals as goal

pub returns-in-Some : goal.returns-in-Some
returns-in-Some c =
    let a = c.args in
    let behind = rw c.in-Some.is at c.requires.behind in
    settles a.scene.now c.copy_area.new.scene a.owns.now c.in-Some.a c.index-owns-a.result
    (c.index-owns-a.is ∙ get_or_default a.owns.now c.in-Some.a.sid _ no_sight behind.0) behind c.copy_area.ensures
