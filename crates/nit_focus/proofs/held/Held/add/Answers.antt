use Rattle.nit_focus.proofs.Lemmas.{held_more, held_room, lit<}
use Rattle.nit_focus.proofs.held.Held.add.Goals as goal

pub push-requires : goal.push-requires
push-requires c = (
  lit< tt,
  held_room c.self.inside.codes.items c.args.code c.self.invariant c.requires.known
      (rw c.self.view_is c.requires.up),
)

pub invariant_of-self : goal.invariant_of-self
invariant_of-self c = rw c.push.ensures.items
    (held_more c.self.inside.codes.items c.args.code c.self.invariant c.requires.known
    (rw c.self.view_is c.requires.up))
