use Rattle.nit_ledger.proofs.Lemmas.{ap, counts_at, entries_at, sym, takes, token_at, ◌∙◌}
use Rattle.nit_ledger.proofs.turn.take_in.Goals as goal

pub join_seat-requires : goal.join_seat-requires
join_seat-requires c =
    let b = c.args.book.now in
    let s = c.args.share in
    let table = c.requires.pages.0.0 in
    let book_is = ap (λ m. m.0) c.requires.book in
    let share_is = ap (λ m. m.0) c.requires.share in (
      sym table,
      c.requires.pages.1 ∙ sym table,
      ap (λ m. m.1) c.requires.share,
      rw table c.requires.pages.0.1,
      rw (book_is, share_is) (takes b.id (entries_at b) (counts_at b) s.id (token_at s)),
    )
