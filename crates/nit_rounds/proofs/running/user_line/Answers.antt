use Rattle.nit_rounds.proofs.Lemmas.{input_done, refl, same_seen, shot_done}
use Rattle.nit_rounds.proofs.running.user_line.Goals as goal

pub returns-in-Shot-clause-done : goal.returns-in-Shot-clause-done
returns-in-Shot-clause-done g c =
    let can = rw c.in-Shot.is at c.requires.can in
    rw (← c.in-Shot.is) at (shot_done c.args.scene.now c.shoot.new.scene c.shoot.ensures.scene c.shoot.ensures.«open»
    (can.spare refl))

pub input-requires-clause-journal : goal.input-requires-clause-journal
input-requires-clause-journal g c =
    let can = rw c.in-Device.is at c.requires.can in assumption (can, can.spare refl)

pub returns-in-Device-clause-done : goal.returns-in-Device-clause-done
returns-in-Device-clause-done g c =
    let can = rw c.in-Device.is at c.requires.can in
    let served = c.input.ensures in
    let p = served.painted in
    let glasses = same_seen (λ _. tt) c.args.scene.now.glasses c.input.new.self.glasses can.quiet
    (λ t. (p.loads t, p.sights t)) served.rests in
    rw c.in-Device.is (input_done served.added can served.«open» glasses (rw served.routed) served.painted)
