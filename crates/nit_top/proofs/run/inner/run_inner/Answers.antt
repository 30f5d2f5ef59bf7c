use Rattle.nit_top.proofs.Lemmas.{Bad, End, Err, IsInnerEnd, Line, List, MayCome, NestError}
use Rattle.nit_top.proofs.Lemmas.{NestsRun, NoMemory, Phases, RunFiles, TooLong, end_of_nest}
use Rattle.nit_top.proofs.Lemmas.{run_files, subst, sym}
use Rattle.nit_top.proofs.run.inner.run_inner.Goals as goal

may_come : (i : RunFiles) (own : List Line) (e : NestError) → NestsRun i own (Err e) → MayCome e
may_come i own (Bad line) h = absurd h
may_come i own Phases h = absurd h
may_come i own other h = tt

ends_so : (i : RunFiles) (own : List Line) (e : NestError) → NestsRun i own (Err e)
    → IsInnerEnd i own (Err (end_of_nest e))
ends_so i own TooLong h = h
ends_so i own NoMemory h = tt
ends_so i own other h = absurd h

pub end_of_nest-requires : goal.end_of_nest-requires
end_of_nest-requires c =
    may_come (run_files c.args.config.now c.args.scripts.now c.args.input.now) c.args.own.now c.in-Err.refusal
    c.in-Err.ensures

pub returns-in-Err : goal.returns-in-Err
returns-in-Err c =
    let i = run_files c.args.config.now c.args.scripts.now c.args.input.now in
    subst (λ (e : End). IsInnerEnd i c.args.own.now (Err e)) (sym c.end_of_nest.ensures)
    (ends_so i c.args.own.now c.in-Err.refusal c.in-Err.ensures)
