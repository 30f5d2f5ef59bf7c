use Rattle.nit_damage.proofs.Lemmas.{arith, bare, given, next_view, on_screen, passed, skipped}
use Rattle.nit_damage.proofs.cutting.cut_next.Goals as goal

pub returns-then-job-len-clause-step : goal.returns-then-job-len-clause-step
returns-then-job-len-clause-step c =
    let skip = c.skip_apart-job.ensures in
    skipped skip (bare c.args.from c.args.stack.now c.skip_apart-job.result c.args.jobs.now.items
    c.len.ensures.standing c.requires.fits (skip.fits _ c.requires.job) (omega arith))

pub cut_out-requires-clause-screen : goal.cut_out-requires-clause-screen
cut_out-requires-clause-screen c some =
    let job = c.skip_apart-job.ensures.fits _ c.requires.job in
    on_screen c.args.stack.now c.skip_apart-job.result.rect c.len.ensures.standing some job.below_bar

pub returns-in_default-clause-step : goal.returns-in_default-clause-step
returns-in_default-clause-step c =
    let skip = c.skip_apart-job.ensures in
    let x = next_view {v = c.at-v.result} c.requires.fits (skip.fits _ c.requires.job) c.at-v.ensures.place
    (c.rect.ensures.place c.skip_apart-job.result.at c.at-v.ensures.place) c.in_default.ensures.cut in
    skipped skip (passed c.args.from x.2 (λ p behind. x.2.cut.part p))

pub returns-then-job-from-clause-step : goal.returns-then-job-from-clause-step
returns-then-job-from-clause-step c =
    let skip = c.skip_apart-job.ensures in
    let x = next_view {v = c.at-v.result} c.requires.fits (skip.fits _ c.requires.job) c.at-v.ensures.place
    (c.rect.ensures.place c.skip_apart-job.result.at c.at-v.ensures.place) c.in-Some.ensures.cut in
    skipped skip (passed c.args.from x.2 (λ p behind. absurd (omega arith)))

pub returns-clause-step : goal.returns-clause-step
returns-clause-step c =
    let skip = c.skip_apart-job.ensures in
    let x = next_view {v = c.at-v.result} c.requires.fits (skip.fits _ c.requires.job) c.at-v.ensures.place
    (c.rect.ensures.place c.skip_apart-job.result.at c.at-v.ensures.place) c.in-Some.ensures.cut in
    skipped skip (given c.args.from c.len.ensures.standing x.2 c.if-job-from.false x.1 c.at-v.ensures.stands)
