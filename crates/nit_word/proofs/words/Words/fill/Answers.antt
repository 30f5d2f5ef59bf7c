use Rattle.nit_word.proofs.Lemmas.{ap, arith, length, reached_long, set_in, sym, whole_long}
use Rattle.nit_word.proofs.Lemmas.{wiped_in, ◌∙◌}
use Rattle.nit_word.proofs.words.Words.fill.Goals as goal

pub reach-requires : goal.reach-requires
reach-requires c = omega (arith, whole_long _ _ _ c.self.view_is c.self.invariant.0)

pub fill_words-requires-clause-room : goal.fill_words-requires-clause-room
fill_words-requires-clause-room c =
    omega (arith, ap length c.deref_mut.ensures.value, reached_long c.args.to _ _ c.reach.ensures.items)

pub invariant_of-self : goal.invariant_of-self
invariant_of-self c =
    let after = wiped_in c.args.from c.args.to c.self.inside.size c.args.self.now _ c.wipe.new.words.items
    c.self.view_is c.self.invariant.0 c.wipe.ensures.items in
    (after.few, omega (arith, c.self.invariant.1, c.wipe.ensures.capacity))

pub returns-then-w-eq0 : goal.returns-then-w-eq0
returns-then-w-eq0 c =
    rw c.if-w-eq0.true (wiped_in c.args.from c.args.to c.self.inside.size c.args.self.now _ c.wipe.new.words.items
    c.self.view_is c.self.invariant.0 c.wipe.ensures.items).all

pub invariant_of-self-2 : goal.invariant_of-self-2
invariant_of-self-2 c =
    let after = set_in c.args.from c.args.to (λ n. c.args.w) c.self.inside.size _ c.args.self.now _
    c.deref_mut.result.now c.fill_words.new.words _ c.self.view_is c.self.invariant.0 c.requires.room
    (c.deref_mut.ensures.value ∙ c.reach.ensures.items) c.fill_words.ensures (sym c.deref_mut.ensures.len) in
    (after.few, omega (arith, c.self.invariant.1, c.reach.ensures.capacity))

pub returns : goal.returns
returns c =
    (set_in c.args.from c.args.to (λ n. c.args.w) c.self.inside.size _ c.args.self.now _
    c.deref_mut.result.now c.fill_words.new.words _ c.self.view_is c.self.invariant.0 c.requires.room
    (c.deref_mut.ensures.value ∙ c.reach.ensures.items) c.fill_words.ensures (sym c.deref_mut.ensures.len)).all
