use Rattle.nit_scene.proofs.Lemmas.{listed_changed, refl}
use Rattle.nit_scene.proofs.scene.copying.Scene+Inked.draw_row.Goals as goal

pub invariant_of-self : goal.invariant_of-self
invariant_of-self c = (
  c.self.invariant.0,
  listed_changed c.args.sid _ c.copy.new.self c.index_mut.ensures.value
      (rw (← c.self.view_is) at c.requires.session) (rw c.copy.ensures refl) (rw c.copy.ensures refl) c.self.invariant.1,
  c.self.invariant.2,
)
