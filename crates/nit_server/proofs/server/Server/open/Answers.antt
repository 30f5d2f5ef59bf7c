use Rattle.nit_server.proofs.Lemmas.{ap, begun, lettered, own_member, seat_holds, seat_leaves, ◌∙◌}
use Rattle.nit_server.proofs.server.Server.open.Goals as goal

pub invariant_of-self : goal.invariant_of-self
invariant_of-self c =
    let own = own_member c.self.invariant.0 c.self.view_is c.requires.session c.index_mut-member.ensures.value in
    seat_holds c.self.inside.focus c.args.label c.self.invariant.0 c.self.view_is c.requires.session
    (ap (lettered c.self.inside.lettering) c.relabel-donation.ensures.config) (c.open.ensures ∙ ap begun c.relabel-donation.ensures.donation)
    c.self.invariant.1 c.as_bytes-bytes.ensures.label c.requires.free c.requires.bare
    (rw own at c.facts.ensures.handles) c.requires.none

pub returns : goal.returns
returns c =
    seat_leaves c.self.inside.focus c.args.label c.self.invariant.0 c.self.view_is c.requires.session
    (ap (lettered c.self.inside.lettering) c.relabel-donation.ensures.config) (c.open.ensures ∙ ap begun c.relabel-donation.ensures.donation)
