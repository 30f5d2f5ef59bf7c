use Rattle.nit_top.proofs.Lemmas.{decimal, decimal_digit, decimal_step, err_from_is_err_and}
use Rattle.nit_top.proofs.Lemmas.{says_none, says_then}
use Rattle.std.proofs.Common.{◌≡◌, ◌/◌, ◌+◌, [], ◌∷◌, arith}
use Rattle.nit_top.proofs.report.say.+number.Goals as goal

pub returns-then-n-lt10 : goal.returns-then-n-lt10
returns-then-n-lt10 g t c = let digit : decimal c.args.n ≡ (48 + c.args.n) ∷ [] =
    decimal_digit c.args.n (omega arith) in rw digit c.text.ensures

pub returns-in_err-number : goal.returns-in_err-number
returns-in_err-number g t c =
    let p = err_from_is_err_and c.from_residual.result c.from_residual.ensures.1 in
    rw (p.1, p.2, decimal_step c.args.n (omega arith) (omega arith)) (says_none (Unit {0})
    (g.S.Store.shown c.args.store.now) (decimal (c.args.n / 10)) _ _ c.in_err-number.field-0.0
    c.in_err-number.ensures)

pub returns : goal.returns
returns g t c =
    rw (decimal_step c.args.n (omega arith) (omega arith))
    (says_then _ _ _ _ _ c.text-2.result c.in_ok-number.ensures c.text-2.ensures)
