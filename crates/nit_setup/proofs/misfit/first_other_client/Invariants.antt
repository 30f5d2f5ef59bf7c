use Rattle.std.proofs.Common.{◌≡◌, None, map, take}
use Rattle.nit_setup.proofs.Lemmas.{first_other, phases}
use Rattle.nit_setup.proofs.misfit.first_other_client.Given as goal

abbrev pub invariant-loop-k : goal.invariant-loop-k
invariant-loop-k l = first_other l.wanted (map (λ m. m.script) (take l.k l.clients)) (map phases (take l.k l.scripts))
    ≡ None
