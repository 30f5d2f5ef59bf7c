use Rattle.nit_setup.proofs.Lemmas.{files_in, inner_stopped, inner_whole, outer_stopped}
use Rattle.nit_setup.proofs.Lemmas.{outer_whole}
use Rattle.nit_setup.proofs.read.read_nested.Goals as goal

pub returns-in-Err : goal.returns-in-Err
returns-in-Err g c =
    outer_stopped c.args.outer.now c.args.inner.now _ _ c.in-Err.stop c.in-Err.ensures

pub returns-in-Err-load_run : goal.returns-in-Err-load_run
returns-in-Err-load_run g c =
    let whole = outer_whole c.in-Ok.ensures in
    inner_stopped _ _ _ (files_in c.in-Ok.outer) whole.1 _ _ whole.0 _ c.in-Err-load_run.ensures

pub returns-in-Ok-load_run : goal.returns-in-Ok-load_run
returns-in-Ok-load_run g c =
    let whole = outer_whole c.in-Ok.ensures in
    inner_whole _ _ _ (files_in c.in-Ok.outer) whole.1 _ _ whole.0 _ c.in-Ok-load_run.ensures
