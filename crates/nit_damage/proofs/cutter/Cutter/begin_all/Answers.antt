use Rattle.nit_damage.proofs.Lemmas.{CutterModel, ap, refl, whole_fits, whole_off, whole_on, ◌∙◌}
use Rattle.nit_damage.proofs.cutter.Cutter.begin_all.Goals as goal

pub returns : goal.returns
returns c =
    let begun = c.self.view_is ∙ c.begin.ensures in
    let jobs = ap (λ (d : CutterModel). d.jobs) begun in
    let from = ap (λ (d : CutterModel). d.from) begun in
    let room = ap (λ (d : CutterModel). d.room) begun in
    rw (jobs, from, room, c.part_below_bar.ensures.value, c.bar.ensures.rows) (record {
      room = refl;
      fits = whole_fits c.args.stack.now _ c.requires;
      to_come = whole_on c.args.stack.now c.args.self.now.room c.part_below_bar.ensures.fits;
      off_screen = whole_off c.args.stack.now c.args.self.now.room c.part_below_bar.ensures.fits;
    })
