use Rattle.nit_stack.proofs.Lemmas.{arith, keeps_changed, length-set, refl, rewritten, slot_kept}
use Rattle.nit_stack.proofs.Lemmas.{with_rect}
use Rattle.nit_stack.proofs.stack.Stack.place.Goals as goal

pub index_mut-requires : goal.index_mut-requires
index_mut-requires c =
    grind (arith, slot_kept c.self.inside c.args.v.0 c.self.invariant.standing, c.self.inside.slots.ok.0)

pub invariant_of-self : goal.invariant_of-self
invariant_of-self c =
    let views = rewritten c.self.inside c.args.v.0 (with_rect c.args.r) c.index_mut.result.now c.self.invariant.standing
    (rw (← c.self.view_is) at c.requires) c.index_mut.ensures.value in
    record {
      standing = rw (views, length-set)
          (keeps_changed _ c.args.v.0 (with_rect c.args.r) c.self.invariant.standing (λ v. (refl, refl))
          (λ a is. assumption (c.in_range.ensures, is)));
      space = rw length-set c.self.invariant.space;
    }

pub returns : goal.returns
returns c =
    let views = rewritten c.self.inside c.args.v.0 (with_rect c.args.r) c.index_mut.result.now c.self.invariant.standing
    (rw (← c.self.view_is) at c.requires) c.index_mut.ensures.value in
    rw (← c.self.view_is, views, length-set) refl
