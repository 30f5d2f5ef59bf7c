use Rattle.nit_hall.proofs.Lemmas.{OpeningParts, ap, clipboard_of, rules, ◌∙◌}
use Rattle.nit_hall.proofs.hall.Hall.clip_next.Goals as goal

pub returns : goal.returns
returns g c =
    let config = c.scene-legal.ensures.config ∙ ap (λ (q : OpeningParts). q.config) c.behind-kept.invariant.0 in
    record {
      answer = (
        clipboard_of c.behind-kept.inside.room.clips.entries,
        rw (c.clip.ensures.pass, ← config) c.clip.ensures.reply,
      );
      grows = search rules;
      legal = search rules;
      pass = search rules;
      clip = search rules;
    }
