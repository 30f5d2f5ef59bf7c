use Rattle.nit_host.proofs.Lemmas.{SheetModel, ap, arith, handed_in, handed_over, plain_sight}
use Rattle.nit_host.proofs.Lemmas.{sized, ◌∙◌}
use Rattle.nit_host.proofs.sheet.Sheet.hand_in.Goals as goal

pub reach-requires : goal.reach-requires
reach-requires c = omega (arith, c.requires.places, c.requires.room, ap (λ (s : SheetModel). s.room) c.self.view_is)

pub invariant_of-self : goal.invariant_of-self
invariant_of-self c =
    let done = handed_in c.args.from c.args.to c.self.inside.size c.reach.new.words.len c.args.words.now
    c.self.inside.reached.items c.reach.new.words.items c.deref_mut.result.now c.set_row.new.words _
    c.self.invariant.0 c.self.invariant.1
    (omega (arith, c.requires.places, sized _ _ _ _ _ c.self.view_is c.self.invariant.1)) c.reach.ensures.items
    c.deref_mut.ensures.value c.reach.new.words.ok.0 c.set_row.ensures in
    (done.all, done.few)

pub returns-clause-sight : goal.returns-clause-sight
returns-clause-sight c =
    let done = handed_in c.args.from c.args.to c.self.inside.size c.reach.new.words.len c.args.words.now
    c.self.inside.reached.items c.reach.new.words.items c.deref_mut.result.now c.set_row.new.words _
    c.self.invariant.0 c.self.invariant.1
    (omega (arith, c.requires.places, sized _ _ _ _ _ c.self.view_is c.self.invariant.1)) c.reach.ensures.items
    c.deref_mut.ensures.value c.reach.new.words.ok.0 c.set_row.ensures in
    ap (plain_sight c.self.inside.owner) done.filled
    ∙ ap (λ (s : SheetModel). handed_over c.args.from c.args.to c.args.words.now s.sight) c.self.view_is
