use Rattle.nit_setup.proofs.Lemmas.{AreClipsRead, map, take}
use Rattle.nit_setup.proofs.clips.load_clips.Given as goal

abbrev pub invariant-loop-client : goal.invariant-loop-client
invariant-loop-client g l = AreClipsRead l.wanted (g.S.Store.shown l.initial.store)
    (map (λ m. m.script) (take l.client-index l.clients)) l.clips.items (g.S.Store.shown l.store)
