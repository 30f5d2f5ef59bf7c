use Rattle.nit_rounds.proofs.Lemmas.{arith, client_end, client_inside, nat_tests, user_end}
use Rattle.nit_rounds.proofs.Lemmas.{user_inside}
use Rattle.nit_rounds.proofs.places.ends_at.Goals as goal

pub bounds-lines-line : goal.bounds-lines-line
bounds-lines-line c = grind (arith, nat_tests, client_inside)

pub offset_bounds-lines-line : goal.offset_bounds-lines-line
offset_bounds-lines-line c = let inside = bounds-lines-line c in omega (arith, inside, c.lines.ensures.length)

pub bounds-lines-line-else-actor-scripts : goal.bounds-lines-line-else-actor-scripts
bounds-lines-line-else-actor-scripts c = grind (arith, nat_tests, user_inside)

pub offset_bounds-lines-line-else-actor-scripts : goal.offset_bounds-lines-line-else-actor-scripts
offset_bounds-lines-line-else-actor-scripts c = grind (arith, nat_tests, bounds-lines-line-else-actor-scripts)

pub returns-then-actor-scripts : goal.returns-then-actor-scripts
returns-then-actor-scripts c = grind (arith, nat_tests, client_end)

pub returns-else-actor-scripts : goal.returns-else-actor-scripts
returns-else-actor-scripts c = grind (arith, nat_tests, user_end)
