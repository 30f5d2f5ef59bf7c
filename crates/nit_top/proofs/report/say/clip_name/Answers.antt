use Rattle.nit_top.proofs.Lemmas.{codes, err_from_is_err_and, says_none, says_then}
use Rattle.nit_top.proofs.report.say.clip_name.Goals as goal

pub returns-in_err-text : goal.returns-in_err-text
returns-in_err-text g c =
    let p = err_from_is_err_and c.from_residual.result c.from_residual.ensures.1 in
    rw (p.1, p.2) (says_none (Unit {0}) (g.S.Store.shown c.args.store.now) c.args.script.now _ _
    c.in_err-text.field-0.0 c.in_err-text.ensures)

pub returns : goal.returns
returns g c =
    says_then _ c.args.script.now (codes ".clip") _ _ c.text-2.result c.in_ok-text.ensures c.text-2.ensures
