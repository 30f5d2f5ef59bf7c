use Rattle.nit_stack.proofs.Lemmas.{arith, keeps_changed, length-set, refl, rewritten, slot_kept}
use Rattle.nit_stack.proofs.Lemmas.{to_z-of_z, with_offset}
use Rattle.nit_stack.proofs.stack.Stack.offset.Goals as goal

pub index_mut-view-requires : goal.index_mut-view-requires
index_mut-view-requires c =
    grind (arith, slot_kept c.self.inside c.args.v.0 c.self.invariant.standing, c.self.inside.slots.ok.0)

pub invariant_of-self : goal.invariant_of-self
invariant_of-self c =
    let x_fits = c.ranges.ox in
    let y_fits = c.ranges.oy in
    let change = with_offset c.args.ox c.args.oy in
    let views = rewritten c.self.inside c.args.v.0 change c.index_mut-view.result.now c.self.invariant.standing
    (rw (← c.self.view_is) at c.requires.view) c.index_mut-view.ensures.value in
    simp to_z-of_z (record {
      standing = rw (views, length-set) (keeps_changed _ c.args.v.0 change c.self.invariant.standing (λ v. (refl, refl))
          (λ a is. assumption (c.requires.range.0, c.requires.range.1, is)));
      space = rw length-set c.self.invariant.space;
    })

pub returns : goal.returns
returns c =
    let x_fits = c.ranges.ox in
    let y_fits = c.ranges.oy in
    let views = rewritten c.self.inside c.args.v.0 (with_offset c.args.ox c.args.oy) c.index_mut-view.result.now
    c.self.invariant.standing (rw (← c.self.view_is) at c.requires.view) c.index_mut-view.ensures.value in
    rw (← c.self.view_is) (simp to_z-of_z (rw (views, length-set) refl))
