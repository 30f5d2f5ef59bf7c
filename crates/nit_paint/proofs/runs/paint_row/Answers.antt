use Rattle.std.proofs.Common.{Some, ap, ℕ, ◌+◌, ◌<◌, ◌∙◌, ◌≡◌}
use Rattle.nit_paint.proofs.Lemmas.{black_after, black_before, long, row_source}
use Rattle.nit_paint.proofs.Lemmas.{three_runs, words_within}
use Rattle.nit_paint.proofs.runs.paint_row.Goals as goal

pub returns-clause-painted : goal.returns-clause-painted
returns-clause-painted g c source told =
    let r = c.args.reach.now in
    let s = c.in-Some.start in
    let shown : (j : ℕ) → j < long r → source (c.args.at + j) ≡ row_source c.args.sid r (Some s) j = λ j l. told j l
    ∙ ap (λ o. row_source c.args.sid r o j) c.in-Some.is in
    three_runs source c.args.at r.before r.words r.after _ _ _ _ _ _ _ _ _ c.fill_run-2.auto.raw
    (c.load_run.auto.raw ∙ c.fill_run-2.auto.raw)
    (c.fill_run-2.ensures.painted source _ (black_before source c.args.at c.args.sid r s shown))
    (c.load_run.ensures.painted source (words_within source c.args.at c.args.sid r s shown))
    (c.fill_run-3.ensures.painted source _ (black_after source c.args.at c.args.sid r s shown))
