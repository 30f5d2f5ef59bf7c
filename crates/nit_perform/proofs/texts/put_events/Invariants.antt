use Rattle.nit_perform.proofs.Lemmas.{PutsAll, events_file, map, put_state_of_run, range_with_len}
use Rattle.nit_perform.proofs.texts.put_events.Given as goal

abbrev pub invariant-loop-sid : goal.invariant-loop-sid
invariant-loop-sid g l = PutsAll (map (events_file l.scene.config l.scene.entries) (range_with_len 0 l.sid))
    (put_state_of_run (g.S.Store.shown l.initial.store) l.initial.fault)
    (put_state_of_run (g.S.Store.shown l.store) l.fault)
