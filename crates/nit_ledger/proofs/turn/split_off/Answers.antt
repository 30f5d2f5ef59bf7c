use Rattle.nit_ledger.proofs.Lemmas.{ap, counts_at, entries_at, opens, sym}
use Rattle.nit_ledger.proofs.turn.split_off.Goals as goal

pub split_seat-requires : goal.split_seat-requires
split_seat-requires c =
    let b = c.args.book.now in
    let is = ap (λ m. m.0) c.requires.book in (
      sym c.requires.pages.0,
      rw c.requires.pages.0 c.requires.pages.1,
      rw is (opens b.id (entries_at b) (counts_at b)),
    )
