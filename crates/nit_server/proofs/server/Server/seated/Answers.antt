use Rattle.std.proofs.Common.{List, Some, ap, arith, option_map, true, ℕ, ◌≡◌}
use Rattle.nit_server.proofs.Lemmas.{has_as_held, has_handle, has_session, name_of, own_machine}
use Rattle.nit_server.proofs.Lemmas.{own_member, pairs_of, slot_of, slot_of-none}
use Rattle.nit_server.proofs.server.Server.seated.Goals as goal

pub index-member-requires : goal.index-member-requires
index-member-requires c =
    let its = c.self.invariant.0.seated.kept _ _ c.at-v.result.0 (ap (option_map name_of) c.view-view.ensures.value) in
    omega (arith, its.0, c.self.inside.members.ok.0)

pub returns-clause-session : goal.returns-clause-session
returns-clause-session c = has_session c.self.invariant.0 c.self.view_is
    (c.self.invariant.0.seated.kept _ _ c.at-v.result.0 (ap (option_map name_of) c.view-view.ensures.value)).0

held_is : (pairs : List (ℕ × ℕ)) (h k : ℕ) → slot_of pairs h ≡ Some k → has_handle pairs h ≡ true
held_is pairs h k e = grind (arith, slot_of-none pairs h)

pub returns-clause-held : goal.returns-clause-held
returns-clause-held c =
    let its = c.self.invariant.0.seated.kept _ _ c.at-v.result.0 (ap (option_map name_of) c.view-view.ensures.value) in
    let there = has_session c.self.invariant.0 c.self.view_is its.0 in
    let mine = own_member c.self.invariant.0 c.self.view_is there c.index-member.ensures in
    let machine = own_machine c.self.invariant.0 c.self.view_is there c.index-member.ensures in
    let held = has_as_held c.index-member.result.now.pairs c.view-view.result.handle in
    rw (← machine, c.facts.ensures.handles, held, mine) (held_is
    (pairs_of c.self.inside.members.items c.view-view.result.sid) c.view-view.result.handle _ its.1)
