use Rattle.std.proofs.Common.{drop, map, ◌≡◌}
use Rattle.nit_config.proofs.Lemmas.{label_of_table, members_of, stands_twice, view}
use Rattle.nit_config.proofs.refusals.stands_twice.Given as goal

abbrev pub invariant-clients : goal.invariant-clients
invariant-clients l = stands_twice (map (λ v. label_of_table (members_of (view v))) l.clients)
    ≡ stands_twice (map (λ v. label_of_table (members_of (view v))) (drop l.i l.clients))
