use Rattle.nit_host.proofs.Lemmas.{IsHandedIn, is_in_rows, low_bytes, set_where}
use Rattle.nit_host.proofs.host.handing.hand_in_rows.Given as goal

abbrev pub invariant-rows : goal.invariant-rows
invariant-rows l =
    IsHandedIn (set_where (is_in_rows l.width l.columns.0 l.columns.1 l.fn.rows.0 l.row) (low_bytes l.words))
    l.initial.sheet l.sheet
