use Rattle.nit_ledger.proofs.Lemmas.{counts_at, does, entries_at, sym, taken_token}
use Rattle.nit_ledger.proofs.turn.deed.Goals as goal

pub load-requires : goal.load-requires
load-requires g c =
    let b = c.args.book.now in
    let n = c.args.pages.now.shared.table_id.slots in (
      sym c.requires.pages.0,
      rw c.requires.pages.0 c.requires.pages.1,
      rw c.requires.book
          (does n b.id (entries_at b) (counts_at b) (taken_token b) g.D.Deed.added g.D.Deed.risen),
    )
