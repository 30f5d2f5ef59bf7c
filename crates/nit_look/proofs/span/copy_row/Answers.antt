use Rattle.nit_look.proofs.Lemmas.{part_copied}
use Rattle.nit_look.proofs.span.copy_row.Goals as goal

pub returns-clause-copied : goal.returns-clause-copied
returns-clause-copied c =
    let first = c.first_difference-first.ensures in
    let last = c.last_difference-last.ensures in
    part_copied c.args.now.now c.args.out.now c.copy_from_slice.new.self (record {
      first = c.first_difference-first.result;
      last = c.last_difference-last.result;
    }) c.requires (first.first _ last.differs) last.fits
    (record {
      first = first.differs;
      last = last.differs;
      held = λ k differs. (first.first k differs, last.last k differs);
    })
    c.copy_from_slice.ensures.after
