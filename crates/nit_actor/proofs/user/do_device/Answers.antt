use Rattle.nit_actor.proofs.Lemmas.{UserPassModel, ap, next_device, quiet_device, user_role_of}
use Rattle.nit_actor.proofs.user.do_device.Goals as goal

pub returns : goal.returns
returns g c =
    let u = c.args.user.now in
    let is = c.user_next.ensures.user in
    let next = ap (λ (v : UserPassModel). v.next) is in
    quiet_device u c.user_next.new.user (next_device u) c.user_next.result c.user_next.ensures.raws_grow
    (assumption (ap user_role_of is, next, c.requires.next, c.next-known.ensures.known, c.next-known-2.ensures.known))
    c.user_next.ensures.told
