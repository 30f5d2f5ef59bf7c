use Rattle.nit_rounds.proofs.Lemmas.{client_turn, step_ends, user_turn}
use Rattle.nit_rounds.proofs.places.Places.step.Goals as goal

pub returns-then-actor-scripts : goal.returns-then-actor-scripts
returns-then-actor-scripts c =
    let step = step_ends c.requires.kept c.requires.active _ c.ends_at-ends.ensures _ c.after.ensures in
    let client = client_turn c.requires.kept c.requires.active c.if-actor-scripts.true in
    record { kept = step.kept; turn = (_, step.left, client) }

pub returns-else-actor-scripts : goal.returns-else-actor-scripts
returns-else-actor-scripts c =
    let step = step_ends c.requires.kept c.requires.active _ c.ends_at-ends.ensures _ c.after.ensures in
    let user = user_turn c.requires.kept c.requires.active c.if-actor-scripts.false in
    record { kept = step.kept; turn = (_, step.left, user) }
