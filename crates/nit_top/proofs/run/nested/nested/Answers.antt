use Rattle.nit_top.proofs.Lemmas.{AreLines, Err, FitsLine, IsInnerEnd, Line, List, Nested, Some}
use Rattle.nit_top.proofs.Lemmas.{Stop, ap, files_in, first_shows, fitting, frames_counted}
use Rattle.nit_top.proofs.Lemmas.{inner_stopped, name_text, nested_ends, other_phases, other_short}
use Rattle.nit_top.proofs.Lemmas.{outer_runnable, own_counts, phase_counts, run_files, runnable_of}
use Rattle.nit_top.proofs.Lemmas.{setup_is, stopped_ends, subst, they_fit, unfit_ends, ◌∙◌}
use Rattle.nit_top.proofs.run.nested.nested.Goals as goal

pub run_inner-requires-clause-runnable : goal.run_inner-requires-clause-runnable
run_inner-requires-clause-runnable g c = rw c.as_slice-clients.ensures.value c.in-Ok.ensures.valid.1.runnable

pub run_inner-requires-clause-phases : goal.run_inner-requires-clause-phases
run_inner-requires-clause-phases g c =
    let i = files_in c.in-Ok.read.inner in
    rw c.as_slice-clients.ensures.value (own_counts (fitting c.each_line_once.ensures.user i
    c.in-Ok.ensures.valid.0.is_outer c.index.ensures c.frame_count.ensures c.in_default.ensures.none))

pub at-requires : goal.at-requires
at-requires g c =
    let o = files_in c.in-Ok.read.outer in
    other_short o.config c.frame_count.result (phase_counts o) c.in-Some.other.now
    c.in-Ok.ensures.valid.0.is_outer.configured c.in-Some.ensures.some

pub perform_nested-requires-after_bounds : goal.perform_nested-requires-after_bounds
perform_nested-requires-after_bounds g c κs within =
    let i = files_in c.in-Ok.read.inner in
    let f = fitting c.each_line_once.ensures.user i c.in-Ok.ensures.valid.0.is_outer c.index.ensures
    c.frame_count.ensures c.in_default.ensures.none in
    let end = rw c.as_slice-clients.ensures.value at c.in-Ok-run_inner.ensures in
    let fits : AreLines FitsLine c.in-Ok-run_inner.made.script =
    rw (← c.lines-known.ensures.value) (c.lines-known.ensures.fits, c.lines-known.ensures.length) in
    outer_runnable f c.phases_stay.ensures end.2 c.with_first-shown.ensures.first c.with_first-shown.ensures.input fits

pub returns-in-Err : goal.returns-in-Err
returns-in-Err g c =
    stopped_ends c.in-Err.ensures c.ended_before_run.ensures.stop c.ended_before_run.ensures.journal

pub returns-in-Some : goal.returns-in-Some
returns-in-Some g c =
    let name = c.args.inner.now in
    let i = files_in c.in-Ok.read.inner in
    let r = c.in-Ok.ensures in
    let found = rw (c.frame_count.ensures, ← frames_counted c.each_line_once.ensures.user i)
    at c.in-Some.ensures.some in
    unfit_ends _ _ _ _ r.valid.0 i r.valid.1 _ r.asked
    (other_phases name c.in-Some.other.now (files_in c.in-Ok.read.outer) i found)
    (ap (λ (t : Stop). name_text (Nested c.args.outer.now name) t.name) c.ended_before_run-in-Some.ensures.stop
    ∙ c.at.ensures.1 (Nested c.args.outer.now name))
    (ap (λ (t : Stop). t.end) c.ended_before_run-in-Some.ensures.stop ∙ c.at.ensures.0)
    c.ended_before_run-in-Some.ensures.journal

pub returns-in-Ok-run_inner : goal.returns-in-Ok-run_inner
returns-in-Ok-run_inner g c =
    let i = files_in c.in-Ok.read.inner in
    let r = c.in-Ok.ensures in
    let f = fitting c.each_line_once.ensures.user i c.in-Ok.ensures.valid.0.is_outer c.index.ensures
    c.frame_count.ensures c.in_default.ensures.none in
    let end = rw c.as_slice-clients.ensures.value at c.in-Ok-run_inner.ensures in
    let fits : AreLines FitsLine c.in-Ok-run_inner.made.script =
    rw (← c.lines-known.ensures.value) (c.lines-known.ensures.fits, c.lines-known.ensures.length) in
    let stay = c.phases_stay.ensures in
    let shown = c.with_first-shown.ensures in
    let same = setup_is f stay end.2 shown.first shown.input in
    nested_ends _ _ _ _ r.valid.0 i r.valid.1 _ r.asked (they_fit f c.args.inner.now end.1)
    (rw same at (runnable_of _ (Some i) (outer_runnable f stay end.2 shown.first shown.input fits)))
    (first_shows f stay end.2 shown.first shown.input end.3) end.0
    (rw (c.deref.ensures.value, same) at (c.perform_nested.ensures i))

pub returns : goal.returns
returns g c =
    let two = Nested c.args.outer.now c.args.inner.now in
    let i = files_in c.in-Ok.read.inner in
    let r = c.in-Ok.ensures in
    let f = fitting c.each_line_once.ensures.user i c.in-Ok.ensures.valid.0.is_outer c.index.ensures
    c.frame_count.ensures c.in_default.ensures.none in
    inner_stopped _ _ _ _ r.valid.0 i r.valid.1 _ r.asked c.in-Err-run_inner.end f.parts f.none
    (subst (λ (ss : List (List Line)). IsInnerEnd (run_files c.in-Ok.read.inner.config ss
    c.in-Ok.read.inner.scripts.input) c.index.result.now (Err c.in-Err-run_inner.end)) c.as_slice-clients.ensures.value
    c.in-Err-run_inner.ensures)
    (ap (λ (t : Stop). name_text two t.name) c.ended_before_run-in-Err-run_inner.ensures.stop
    ∙ ap (name_text two) c.at_second.ensures.1)
    (ap (λ (t : Stop). t.end) c.ended_before_run-in-Err-run_inner.ensures.stop ∙ c.at_second.ensures.0)
    c.ended_before_run-in-Err-run_inner.ensures.journal
