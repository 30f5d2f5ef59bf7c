use Rattle.nit_config.proofs.Lemmas.{AllZip, HoldsClient, map, members_of, take, view}
use Rattle.nit_config.proofs.build.members.Given as goal

abbrev pub invariant-clients : goal.invariant-clients
invariant-clients l = AllZip HoldsClient (map (λ v. members_of (view v)) (take l.i l.clients)) l.members.items
