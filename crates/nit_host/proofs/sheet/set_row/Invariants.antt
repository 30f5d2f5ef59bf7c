use Rattle.std.proofs.Common.{◌≡◌}
use Rattle.nit_host.proofs.Lemmas.{is_between, low_bytes, set_where}
use Rattle.nit_host.proofs.sheet.set_row.Given as goal

abbrev pub invariant-places : goal.invariant-places
invariant-places l = l.words ≡ set_where (is_between l.from l.i) (low_bytes l.others) l.initial.words
