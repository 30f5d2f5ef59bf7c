use Rattle.nit_actor.proofs.Lemmas.{UserPassModel, ap, grown_raws, length, puts_shot, user_role_of}
use Rattle.nit_actor.proofs.Lemmas.{◌∙◌}
use Rattle.nit_actor.proofs.user.shoot.Goals as goal

pub returns : goal.returns
returns g c =
    let t = c.take_shot-number in
    let kept = c.put_copied.ensures.kept in
    let same = ap user_role_of t.ensures.user in
    let next = ap (λ (v : UserPassModel). v.next) t.ensures.user in
    record {
      next = next;
      shots = record {
        same = same;
        raws = grown_raws t.ensures.told;
        put = puts_shot g.N.Name.parts c.args.user.now t.new.user t.result c.size-width.result.0
            c.size-width.result.1 t.new.frame.items _ _
            (assumption (same, next, c.requires.next, c.next-known.ensures.known, c.next-known-2.ensures.known))
            t.ensures.told c.size-width.ensures.size c.put_copied.ensures.put;
        desk = assumption (ap length kept.frame ∙ t.ensures.frame, kept);
      };
    }
