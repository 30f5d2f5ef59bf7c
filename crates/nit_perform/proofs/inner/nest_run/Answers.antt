use Rattle.nit_perform.proofs.Lemmas.{Ok, answered, frame_refused, run_files, script_refused}
use Rattle.nit_perform.proofs.Lemmas.{whole_nest}
use Rattle.nit_perform.proofs.inner.nest_run.Goals as goal

pub returns-in-Some : goal.returns-in-Some
returns-in-Some c =
    let nesting = c.play-nesting.result.nesting in
    frame_refused (run_files c.args.config.now c.args.scripts.now c.args.input.now) c.args.own.now nesting.nest
    nesting.fault c.play-nesting.ensures.frames c.in-Some.refusal c.in-Some.is

pub returns-in-Ok-script : goal.returns-in-Ok-script
returns-in-Ok-script c =
    let i = run_files c.args.config.now c.args.scripts.now c.args.input.now in
    let play = c.play-nesting in
    let nest = play.result.nesting.nest in
    let whole = whole_nest i c.args.own.now nest play.result.nesting.fault play.ensures.frames
    c.in_default-fault.not-Some in
    let made = answered c.lines_are_counted.ensures i c.args.own.now c.requires.may c.requires.phases nest whole
    (Ok c.in-Ok-script.script) c.in-Ok-script.ensures.answer in
    (play.ensures.journal, made.0, made.1, rw whole at c.in-Ok-script.ensures.shown)

pub returns : goal.returns
returns c =
    let i = run_files c.args.config.now c.args.scripts.now c.args.input.now in
    let play = c.play-nesting in
    let nest = play.result.nesting.nest in
    script_refused c.lines_are_counted.ensures i c.args.own.now c.requires.may c.requires.phases nest
    (whole_nest i c.args.own.now nest play.result.nesting.fault play.ensures.frames c.in_default-fault.not-Some)
    c.in-Err.refusal c.in-Err.ensures.answer
