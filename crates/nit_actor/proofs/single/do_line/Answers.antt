use Rattle.nit_actor.proofs.Lemmas.{PassModel, RoomModel, ap, at_call, at_line, call_recorded}
use Rattle.nit_actor.proofs.Lemmas.{nothing_recorded, refl, role_of, rules, step_on}
use Rattle.nit_script.specs.declared.line.Line.TheVariants as line
use Rattle.nit_actor.proofs.single.do_line.Goals as goal

pub returns-in-Call : goal.returns-in-Call
returns-in-Call c =
    let e = c.serve.ensures in
    let passed = e.served.pass in
    record {
      on = step_on c.requires.alone.step (at_line _ _ _ c.requires.next c.in-Call.is) refl
          (ap (λ (r : RoomModel). r.parts) e.room) (ap (λ (r : RoomModel). r.phase) e.room)
          (ap (λ (r : RoomModel). r.arrived) e.room) passed;
      unended = search rules;
      recorded = call_recorded c.args.room.now.scene.entries c.args.pass.now _
          (at_call _ _ _ c.requires.next c.in-Call.is) (ap (λ (r : RoomModel). r.scene.entries) e.room) passed;
    }

pub returns-in-Stroke : goal.returns-in-Stroke
returns-in-Stroke c =
    let at = at_line _ _ _ c.requires.next c.in-Stroke.is in
    let e = c.stroke.ensures in
    let entries = ap (λ (r : RoomModel). r.scene.entries) e.room in
    record {
      on = step_on c.requires.alone.step at refl (ap (λ (r : RoomModel). r.parts) e.room)
          (ap (λ (r : RoomModel). r.phase) e.room) (ap (λ (r : RoomModel). r.arrived) e.room) e.pass;
      unended = search rules;
      recorded = nothing_recorded c.args.room.now.scene.entries c.stroke.new.room.scene.entries c.args.pass.now
          c.stroke.new.pass (line.Stroke c.in-Stroke.field-0) at (λ ls. refl) entries
          (ap (λ (p : PassModel). role_of p) e.pass) (ap (λ (p : PassModel). p.next) e.pass);
    }

pub returns-in-Phase : goal.returns-in-Phase
returns-in-Phase c =
    let e = c.end_phase.ensures in
    record {
      on = search rules;
      unended = search rules;
      recorded = nothing_recorded c.args.room.now.scene.entries c.end_phase.new.room.scene.entries c.args.pass.now
          c.end_phase.new.pass line.Phase (at_line _ _ _ c.requires.next c.in-Phase.is) (λ ls. refl)
          (ap (λ s. s.entries) e.scene) e.on.pass.same e.on.pass.next;
    }
