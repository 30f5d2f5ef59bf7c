use Rattle.nit_host.proofs.Lemmas.{both_added}
use Rattle.nit_host.proofs.host.area.add_unless.Goals as goal

pub returns-then-not-is_same : goal.returns-then-not-is_same
returns-then-not-is_same c =
    let first = c.add.ensures in
    let second = c.add-then-not-is_same.ensures in
    rw c.if-not-is_same.true (both_added c.args.parts.now c.args.before.now c.add.new.self c.args.after.now
    c.add-then-not-is_same.new.self first.added first.parts second.added second.parts)
