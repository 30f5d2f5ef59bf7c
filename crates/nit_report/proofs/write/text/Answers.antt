use Rattle.std.proofs.Common.{ap, arith, length, ℕ, ◌+◌, ◌-◌}
use Rattle.nit_report.proofs.Lemmas.{drop-put_mid}
use Rattle.nit_report.proofs.write.text.Goals as goal

pub returns-clause-behind : goal.returns-clause-behind
returns-clause-behind c =
    let at = c.args.at in
    let many = length c.args.text.now in
    drop-put_mid at (at + many - at) c.args.out.now c.copy_from_slice.new.self (at + many) (omega arith) (omega arith)
    (omega (arith, ap (length {A = ℕ}) c.copy_from_slice.ensures.after))
