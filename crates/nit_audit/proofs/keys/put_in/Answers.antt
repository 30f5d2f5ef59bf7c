use Rattle.nit_audit.proofs.Lemmas.{HasView, all_insert}
use Rattle.nit_audit.proofs.keys.put_in.Goals as goal

pub returns-clause-kept : goal.returns-clause-kept
returns-clause-kept c records has kept =
    rw c.in_ok-insert.ensures.items (all_insert (HasView records) _ c.args.place c.args.key has kept)
