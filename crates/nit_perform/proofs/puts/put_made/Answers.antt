use Rattle.nit_perform.proofs.Basics.{output_name}
use Rattle.nit_perform.proofs.Lemmas.{File, PutFault, Some, next_goes, no_put}
use Rattle.nit_perform.proofs.Lemmas.{put_state_of_run, refl, sym}
use Rattle.nit_store.specs.declared.store.PutError.TheVariants as put
use Rattle.nit_perform.proofs.puts.put_made.Goals as goal

pub returns-in-Err : goal.returns-in-Err
returns-in-Err g c = λ bytes made.
    let shown = g.S.Store.shown c.args.store.now in
    let file : File = (output_name c.args.file, bytes) in
    let fault : PutFault = record { file = c.args.file; error = put.NoMemory } in
    next_goes file shown c.args.fault (put_state_of_run shown (Some fault)) (sym c.if-is_some.ensures)
    (no_put file shown fault refl refl)
