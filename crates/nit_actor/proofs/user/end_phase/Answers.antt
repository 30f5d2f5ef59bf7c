use Rattle.nit_actor.proofs.Lemmas.{UserPassModel, ap, quiet_phase, user_role_of}
use Rattle.nit_actor.proofs.user.end_phase.Goals as goal

pub returns : goal.returns
returns g c =
    let u = c.args.user.now in
    let is = c.arrive_user.ensures.user in
    let next = ap (λ (v : UserPassModel). v.next) is in
    quiet_phase u c.arrive_user.new.user c.arrive_user.ensures.raws_grow
    (assumption (ap user_role_of is, next, c.requires.next, c.next-known.ensures.known, c.next-known-2.ensures.known))
    c.arrive_user.ensures.grows
