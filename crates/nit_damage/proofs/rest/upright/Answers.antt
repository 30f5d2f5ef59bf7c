use Rattle.nit_damage.proofs.Lemmas.{arith, edges_are, ints, within}
use Rattle.nit_damage.proofs.rest.upright.Goals as goal

pub edges_of-requires-2 : goal.edges_of-requires-2
edges_of-requires-2 c =
    let part = within c.args.part.now c.args.rect.now c.requires.pixels c.requires.inside in
    let all = c.requires.screen in
    record {
      left = omega (arith, ints);
      top = omega (arith, ints);
      right = omega (arith, ints);
      bottom = omega (arith, ints);
    }

pub strips_of-requires-clause-left : goal.strips_of-requires-clause-left
strips_of-requires-clause-left c =
    let part = within c.args.part.now c.args.rect.now c.requires.pixels c.requires.inside in
    omega (arith, ints)

pub strips_of-requires-clause-right : goal.strips_of-requires-clause-right
strips_of-requires-clause-right c =
    let part = within c.args.part.now c.args.rect.now c.requires.pixels c.requires.inside in
    omega (arith, ints)

pub strips_of-requires-clause-top : goal.strips_of-requires-clause-top
strips_of-requires-clause-top c =
    let part = within c.args.part.now c.args.rect.now c.requires.pixels c.requires.inside in
    omega (arith, ints)

pub strips_of-requires-clause-bottom : goal.strips_of-requires-clause-bottom
strips_of-requires-clause-bottom c =
    let part = within c.args.part.now c.args.rect.now c.requires.pixels c.requires.inside in
    omega (arith, ints)

pub returns : goal.returns
returns c =
    let all = c.edges_of.ensures in
    let cut = c.edges_of-2.ensures in
    rw (
      ← edges_are c.args.rect.now c.edges_of.result all.left all.top all.right all.bottom,
      ← edges_are c.args.part.now c.edges_of-2.result cut.left cut.top cut.right cut.bottom,
    ) c.strips_of.ensures
