use Rattle.nit_damage.proofs.Lemmas.{begun_fits, begun_off, gone_comes, lies_below, refl}
use Rattle.nit_damage.proofs.cutter.Cutter.begin_behind.Goals as goal

pub returns : goal.returns
returns c =
    let room = c.args.self.now.room in
    let fits = c.below_bar.ensures.fits in
    let both = c.below_bar.ensures.both in
    rw c.begin.ensures (record {
      room = refl;
      fits = begun_fits c.args.stack.now c.args.place _ room c.requires (lies_below c.args.stack.now c.args.r _ both);
      to_come = gone_comes c.args.stack.now c.args.place c.args.r _ room fits both;
      off_screen = begun_off c.args.stack.now c.args.place c.args.r _ room fits both;
    })
