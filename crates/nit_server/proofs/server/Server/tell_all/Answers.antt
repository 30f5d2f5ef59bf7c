use Rattle.nit_server.proofs.Lemmas.{arith, delivered_length, each_one, may_lose, nat_tests}
use Rattle.nit_server.proofs.server.Server.tell_all.Goals as goal

pub tell-requires-clause-session : goal.tell-requires-clause-session
tell-requires-clause-session c = grind (arith, nat_tests, each_one)

pub tell-requires-3-clause-session : goal.tell-requires-3-clause-session
tell-requires-3-clause-session c = grind (arith, nat_tests, delivered_length, each_one)

pub tell-requires-3-clause-lost : goal.tell-requires-3-clause-lost
tell-requires-3-clause-lost c =
    let r = c.args.routed.now in
    rw c.tell-2.ensures (may_lose 1 r.b c.tell.new.self (rw c.tell.ensures
    (may_lose 2 r.a c.args.self.now c.requires.lost)))
