use Rattle.std.proofs.Common.{sym, ◌∙◌, ◌≡◌}
use Rattle.nit_server.proofs.Lemmas.{IsGoneView, has_member, kept_session_at, own_member, stands}
use Rattle.nit_server.proofs.Lemmas.{view_goes, view_gone, without_slot}
use Rattle.nit_server.proofs.server.Server.remove_view.Goals as goal

pub destroy-requires : goal.destroy-requires
destroy-requires c =
    let there = has_member c.self.invariant.0 c.self.view_is c.requires.session in
    let own = own_member c.self.invariant.0 c.self.view_is c.requires.session c.index_mut-member.ensures.value in
    let found = sym c.slot-slot.ensures in
    let seat = stands c.self.invariant.0 c.args.handle there (rw own at c.slot-slot.ensures) in
    rw (← found) (c.self.invariant.0.seated.taken _ ∙ seat)

pub remove-requires : goal.remove-requires
remove-requires c =
    let there = has_member c.self.invariant.0 c.self.view_is c.requires.session in
    let own = own_member c.self.invariant.0 c.self.view_is c.requires.session c.index_mut-member.ensures.value in
    stands c.self.invariant.0 c.args.handle there (rw own at c.slot-slot.ensures)

slots_are : (c : goal.After-remove)
    → c.destroy.new.slots ≡ record c.self.inside.slots { taken = without_slot c.self.inside.slots.taken c.slot-slot.result }
slots_are c = rw c.slot-slot.ensures at c.destroy.ensures.slots

gone : (c : goal.After-remove) → IsGoneView c.self.inside.slots (kept_session_at c.self.inside.members.items c.args.sid)
    c.destroy.new.self c.args.handle c.slot-slot.result
gone c =
    let own = own_member c.self.invariant.0 c.self.view_is c.requires.session c.index_mut-member.ensures.value in
    let fewer = rw (slots_are c) at c.destroy.ensures.fewer_taken in
    let held = c.slot-slot.ensures in
    rw (← own) (assumption (fewer, held, c.destroy.ensures, c.facts.ensures, c.facts.ensures.table))

pub invariant_of-self : goal.invariant_of-self
invariant_of-self c = (
  rw (c.remove.ensures, slots_are c) (view_goes c.self.invariant.0
      (has_member c.self.invariant.0 c.self.view_is c.requires.session) (gone c)),
  c.self.invariant.1,
)

pub returns : goal.returns
returns c =
    let there = has_member c.self.invariant.0 c.self.view_is c.requires.session in
    rw (c.remove.ensures, ← c.self.view_is) (view_gone c.self.invariant.0 there (gone c) c.self.inside.focus.input)
