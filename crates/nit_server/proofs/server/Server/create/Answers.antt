use Rattle.nit_server.proofs.Lemmas.{IsNewView, created, has_member, kept_session_at, machine_is}
use Rattle.nit_server.proofs.Lemmas.{new_name, own_member, slot_is_free, view_comes}
use Rattle.nit_server.proofs.server.Server.create.Goals as goal

pub create-handle-requires-clause-free : goal.create-handle-requires-clause-free
create-handle-requires-clause-free c =
    let there = has_member c.self.invariant.0 c.self.view_is c.requires.session in
    let own = own_member c.self.invariant.0 c.self.view_is c.requires.session c.index_mut-member.ensures.value in
    let place = rw own at c.facts.ensures.place in
    slot_is_free c.self.invariant.0 there
    (place (rw (machine_is c.self.invariant.0 c.self.view_is c.args.sid) at c.requires.accepted))

pub push_front-requires-clause-named : goal.push_front-requires-clause-named
push_front-requires-clause-named c =
    let own = own_member c.self.invariant.0 c.self.view_is c.requires.session c.index_mut-member.ensures.value in
    new_name c.self.invariant.0 c.args.sid c.create-handle.result.0 (rw own at c.create-handle.ensures.was_not_held)

new_view : (c : goal.After-push_front)
    → IsNewView c.self.inside.slots (kept_session_at c.self.inside.members.items c.args.sid) c.create-handle.new.self
    c.create-handle.result.0 c.create-handle.result.1
new_view c =
    let own = own_member c.self.invariant.0 c.self.view_is c.requires.session c.index_mut-member.ensures.value in
    let more = rw c.create-handle.ensures.slots at c.create-handle.ensures.more_taken in
    rw (← own) (assumption (more, c.create-handle.ensures, c.facts-2.ensures, c.facts-2.ensures.table))

pub invariant_of-self : goal.invariant_of-self
invariant_of-self c = (
  rw (c.push_front.ensures, c.create-handle.ensures.slots) (view_comes c.self.invariant.0
      (has_member c.self.invariant.0 c.self.view_is c.requires.session) (new_view c)),
  c.self.invariant.1,
)

pub returns : goal.returns
returns c = created c.self.invariant.0 (has_member c.self.invariant.0 c.self.view_is c.requires.session) (new_view c)
    c.self.view_is c.push_front.ensures c.requires.accepted
