use Rattle.nit_damage.proofs.Lemmas.{begun_fits, begun_off, lies_below, owned_comes, place_of, refl}
use Rattle.nit_damage.proofs.cutter.Cutter.begin_owned.Goals as goal

pub returns : goal.returns
returns c =
    let place = place_of c.args.v.0 c.args.stack.now.views in
    let room = c.args.self.now.room in
    let fits = c.below_bar.ensures.fits in
    let both = c.below_bar.ensures.both in
    rw (c.begin.ensures, c.place_of.ensures.place) (record {
      room = refl;
      fits = begun_fits c.args.stack.now place _ _ c.requires.room
          (lies_below c.args.stack.now c.meet-rect.result _ both);
      to_come = owned_comes c.args.stack.now c.args.v c.rect.result c.args.r _ _ room fits
          c.rect.ensures.standing.slots c.rect.ensures.rect c.meet-rect.ensures.both both;
      off_screen = begun_off c.args.stack.now place c.meet-rect.result _ room fits both;
    })
