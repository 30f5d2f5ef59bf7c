use Rattle.nit_hall.proofs.Lemmas.{ap, arith, counted_more, is_clip_phase, length, refl}
use Rattle.nit_hall.proofs.Lemmas.{slice_get_within, sym, ◌∙◌}
use Rattle.nit_hall.proofs.clip_pass.ClipPass.turn.Goals as goal

pub invariant_of-self : goal.invariant_of-self
invariant_of-self c =
    let is = c.self.invariant in
    let script = c.self.inside.script.now in
    let k = c.self.inside.next in
    let at = rw (← c.self.view_is) at c.requires.next in
    let ahead = rw (← c.self.view_is, ← c.pass.view_is) at c.requires.ahead in
    record {
      number = is.number;
      counted = is.counted ∙ ap length (sym (c.calls_of_a_clip_script.ensures.end script k at));
      within = omega (arith, slice_get_within script k _ at);
      phase = rw (ahead, is.phase, counted_more is_clip_phase script k _ at refl);
    }
