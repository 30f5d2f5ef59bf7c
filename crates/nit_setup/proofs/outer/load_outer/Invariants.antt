use Rattle.nit_setup.proofs.Lemmas.{OuterSoFar, map, take}
use Rattle.nit_setup.proofs.outer.load_outer.Given as goal

abbrev pub invariant-loop-client : goal.invariant-loop-client
invariant-loop-client g l = OuterSoFar (g.S.Store.shown l.initial.store)
    (map (λ m. m.script) (take l.client-index l.clients)) l.scripts.items (g.S.Store.shown l.store)
