use Rattle.nit_ledger.proofs.book.Book.append.Given as goal

abbrev pub ghosts-add : goal.ghosts-add
ghosts-add g a = record { entry = a.e.now; raw = g.R.HasRaw.raw a.shown.now }
