use Rattle.nit_server.proofs.Lemmas.{arith, own_machine, told}
use Rattle.nit_server.proofs.server.Server.tell_event.Goals as goal

pub tell-requires : goal.tell-requires
tell-requires c =
    let machine = own_machine c.self.invariant.0 c.self.view_is c.requires.session c.index_mut.ensures.value in
    omega (arith, rw (← machine) at (c.requires.lost c.args.sid))

pub invariant_of-self : goal.invariant_of-self
invariant_of-self c = (
  (told c.self.invariant.0 c.self.view_is c.requires.session c.index_mut.ensures.value _ c.tell.ensures).0,
  c.self.invariant.1,
)

pub returns : goal.returns
returns c = (told c.self.invariant.0 c.self.view_is c.requires.session c.index_mut.ensures.value _ c.tell.ensures).1
