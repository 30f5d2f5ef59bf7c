use Rattle.nit_rounds.proofs.Lemmas.{all_done, arith, nat_tests, to_actor, to_phase, to_round}
use Rattle.nit_rounds.proofs.places.Places.advance.Goals as goal

pub returns-in-Some-clause-left : goal.returns-in-Some-clause-left
returns-in-Some-clause-left c = grind (arith, nat_tests, to_actor)

pub returns-in-Some-first_active-clause-left : goal.returns-in-Some-first_active-clause-left
returns-in-Some-first_active-clause-left c = grind (arith, nat_tests, to_round)

pub returns-in-Some-first_active-2 : goal.returns-in-Some-first_active-2
returns-in-Some-first_active-2 c =
    let found = c.in-Some-first_active-2.ensures in
    let to = to_phase c.requires c.in_default.ensures c.in_default-first_active.ensures found.0 found.2 in
    record { kept = to.kept; left = to.left; active = found.0 }

pub returns-clause-active : goal.returns-clause-active
returns-clause-active c =
    all_done c.requires c.in_default-first_active.ensures c.in_default-first_active-2.ensures
