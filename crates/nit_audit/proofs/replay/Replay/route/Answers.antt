use Rattle.nit_audit.proofs.Lemmas.{refl, same_route}
use Rattle.nit_audit.proofs.replay.Replay.route.Goals as goal

pub returns : goal.returns
returns c =
    let kept = rw (← c.self.view_is) at c.requires.kept in
    let at = rw (c.rows_of.ensures.rows, c.clamp.ensures.place) at c.owner-pointed.ensures.owner in
    let same = same_route _ c.self.inside.views c.self.inside.focus c.args.dev _ kept.screen kept.clicks at
    c.owner-pointed.ensures.known in
    record {
      routed = rw (← c.self.view_is) (rw same at c.input.ensures.routed);
      all = rw (← c.self.view_is) (rw same at c.input.ensures.all);
      input = rw (← c.self.view_is, c.input.ensures.state, same) refl;
    }
