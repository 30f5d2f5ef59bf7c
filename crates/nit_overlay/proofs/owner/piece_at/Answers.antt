use Rattle.nit_overlay.proofs.Lemmas.{arith, bar_run, bare_run, nat_tests, owned_run, ◌∙◌}
use Rattle.nit_overlay.proofs.owner.piece_at.Goals as goal

pub returns-then-is_bar_row-clause-owner : goal.returns-then-is_bar_row-clause-owner
returns-then-is_bar_row-clause-owner c = record {
  after = c.requires.before;
  within = omega arith;
  all =
      let s = c.args.lettered.now.look.stack.now in
      λ z from less. bar_run s.bar s.views c.args.y z (grind (arith, nat_tests, c.if-is_bar_row.true, c.is_bar_row.ensures));
}

pub returns-then-covered-clause-owner : goal.returns-then-covered-clause-owner
returns-then-covered-clause-owner c = record {
  after = c.reach-covered.ensures.after;
  within = omega arith;
  all = owned_run c.args.lettered.now.look.stack.now.bar c.reach-covered.result.1 c.views.invariant c.view_at-view.ensures.place
      c.reach-covered.ensures.within (λ u from less. c.reach-covered.ensures.all u from less ∙ c.if-covered.true)
      (grind (arith, nat_tests, c.if-is_bar_row.false, c.is_bar_row.ensures));
}

pub returns-clause-owner : goal.returns-clause-owner
returns-clause-owner c = record {
  after = omega arith;
  within = omega arith;
  all = bare_run c.args.lettered.now.look.stack.now.bar c.views.invariant (omega arith)
      (grind (arith, nat_tests, c.if-is_bar_row.false, c.is_bar_row.ensures));
}
