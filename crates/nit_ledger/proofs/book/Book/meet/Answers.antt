use Rattle.nit_ledger.proofs.Lemmas.{append-nil, raised_by-zero, ◌∙◌}
use Rattle.nit_ledger.proofs.book.Book.meet.Goals as goal

pub returns-clause-book : goal.returns-clause-book
returns-clause-book c =
    let book = c.args.self.now in
    c.turn.ensures.book ∙ (λ i. record {
      name = book.name;
      entries = append-nil book.entries i;
      counts = raised_by-zero book.counts c.args.share.now.number i;
    })
