use Rattle.nit_overlay.proofs.Lemmas.{no_owner, point, sym, ◌∙◌}
use Rattle.nit_overlay.proofs.narrow.overlay_run.Goals as goal

pub overlay_owned-requires-clause-owner : goal.overlay_owned-requires-clause-owner
overlay_owned-requires-clause-owner c x y on =
    let s = c.args.lettered.now.look.stack.now in
    no_owner s.bar s.views (point x y) (sym c.in-None.is ∙ c.requires.owner x y on)
