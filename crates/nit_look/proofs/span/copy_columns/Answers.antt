use Rattle.nit_look.proofs.Lemmas.{refl, row_merged, span_shifted}
use Rattle.nit_look.proofs.span.copy_columns.Goals as goal

pub returns-in_err-span-clause-copied : goal.returns-in_err-span-clause-copied
returns-in_err-span-clause-copied c =
    row_merged c.args.now.now c.args.out.now c.copy_row.new.out c.args.columns.0 c.args.columns.1 _ refl
    c.requires.order c.requires.fits c.requires.long c.copy_row.ensures.copied

pub returns : goal.returns
returns c =
    let merged = row_merged c.args.now.now c.args.out.now c.copy_row.new.out c.args.columns.0 c.args.columns.1 _ refl
    c.requires.order c.requires.fits c.requires.long c.copy_row.ensures.copied in
    record {
      copied = merged;
      span = span_shifted _ _ _ _ c.args.columns.1 _ refl c.requires.order merged c.in_ok-span.span
          c.in_ok-span.ensures.span;
    }
