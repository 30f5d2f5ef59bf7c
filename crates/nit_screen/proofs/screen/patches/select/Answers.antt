use Rattle.std.proofs.Common.{add-one, arith, rules}
use Rattle.nit_screen.proofs.Lemmas.{are_kept, same_dropped, same_kept, patch_at}
use Rattle.nit_screen.proofs.screen.patches.select.Goals as goal

pub patches-preserved-then-not-meets : goal.patches-preserved-then-not-meets
patches-preserved-then-not-meets c =
    let far = c.patches.invariant in
    record {
      few = omega arith;
      length = far.length;
      patches = far.patches;
      same = λ x z from less.
          same_dropped c.args.patches.now c.patches.i _ x z _ c.patches-test.true
          (c.meets.ensures c.if-not-meets.true z from less) (far.same x z from less);
    }

pub patches-preserved : goal.patches-preserved
patches-preserved c =
    let far = c.patches.invariant in
    record {
      few = omega arith;
      length = search rules;
      patches = λ width are.
          rw add-one
          (are_kept width c.patches.kept c.patches.count _ (omega arith)
          (patch_at c.args.patches.now width c.patches.i _ are c.patches-test.true) (far.patches width are));
      same = λ x z from less.
          same_kept c.patches.kept c.args.patches.now c.patches.count c.patches.i _ x z (omega arith) c.patches-test.true
          (far.same x z from less);
    }
