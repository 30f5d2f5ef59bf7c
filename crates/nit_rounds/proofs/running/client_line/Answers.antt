use Rattle.nit_rounds.proofs.Lemmas.{Some, ap, arith, as_found, call_done, call_served, can_call}
use Rattle.nit_rounds.proofs.Lemmas.{glasses_still, line_here, nat_tests, same_glasses, same_own}
use Rattle.nit_rounds.proofs.Lemmas.{◌∙◌}
use Rattle.nit_rounds.proofs.running.client_line.Goals as goal

pub call-requires : goal.call-requires
call-requires c =
    let here = line_here _ _ _ _ c.lines.ensures.value c.requires.draw.line c.index-lines-line.is in
    assumption (can_call c.buffer_within_table.ensures.words _ c.requires.draw c.draw_line.ensures.drawn
    c.draw_line.ensures.scene c.requires.quiet (c.requires.spare _ (here ∙ ap Some c.in-Call.is)) c.requires.«open»)

pub returns-in-Call : goal.returns-in-Call
returns-in-Call c =
    let sid = c.args.part.sid in
    let here = line_here _ _ _ _ c.lines.ensures.value c.requires.draw.line c.index-lines-line.is in
    let found = here ∙ ap Some c.in-Call.is in
    let mid = c.draw_line.new.scene in
    let drawn = c.draw_line.ensures in
    let can = can_call c.buffer_within_table.ensures.words _ c.requires.draw drawn.drawn drawn.scene c.requires.quiet
    (c.requires.spare _ found) c.requires.«open» in
    let new = c.call.new.self in
    let served = c.call.ensures in
    let p = served.painted in
    let own = same_own mid.glasses new.glasses sid c.draw_line.new.own c.call.new.own can.quiet_own
    (λ t. (p.loads t, p.sights t)) in
    let glasses = same_glasses (λ _. tt) mid.glasses new.glasses sid c.draw_line.new.own c.call.new.own can.quiet
    (λ t. (p.loads t, p.sights t)) served.idle served.rests in
    record {
      drawn = record {
        own = own ∙ drawn.drawn.own;
        behind = rw (← glasses) at (rw (← own) at drawn.drawn.behind);
      };
      glasses = glasses_still sid c.args.scene.now mid new glasses drawn.scene;
      done = as_found c.args.part.script.now c.args.line sid _ c.args.scene.now new c.call.new.own found
          (call_done sid _ c.args.scene.now mid new _ _ drawn.scene
          (call_served served.added can served.«open» glasses own (rw served.reply) served.painted));
    }

pub returns-in_default : goal.returns-in_default
returns-in_default c = grind (arith, nat_tests, line_here)
