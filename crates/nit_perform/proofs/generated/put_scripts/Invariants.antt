use Rattle.nit_perform.proofs.Lemmas.{PutsAll, put_state_of_run, script_files}
use Rattle.nit_perform.proofs.generated.put_scripts.Given as goal

abbrev pub invariant-clients : goal.invariant-clients
invariant-clients g l = PutsAll (script_files l.number l.client)
    (put_state_of_run (g.S.Store.shown l.initial.store) l.initial.refused)
    (put_state_of_run (g.S.Store.shown l.store) l.refused)
