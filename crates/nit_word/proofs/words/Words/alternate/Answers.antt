use Rattle.nit_word.proofs.Lemmas.{ap, arith, in_turn, length, reached_long, set_in, sym}
use Rattle.nit_word.proofs.Lemmas.{whole_long, ◌∙◌}
use Rattle.nit_word.proofs.words.Words.alternate.Goals as goal

pub reach-requires : goal.reach-requires
reach-requires c = omega (arith, whole_long _ _ _ c.self.view_is c.self.invariant.0)

pub alternate_words-requires-clause-room : goal.alternate_words-requires-clause-room
alternate_words-requires-clause-room c =
    omega (arith, ap length c.deref_mut.ensures.value, reached_long c.args.to _ _ c.reach.ensures.items)

pub invariant_of-self : goal.invariant_of-self
invariant_of-self c =
    let after = set_in c.args.from c.args.to (in_turn c.args.from c.args.c c.args.d) c.self.inside.size _
    c.args.self.now _ c.deref_mut.result.now c.alternate_words.new.words _ c.self.view_is c.self.invariant.0
    c.requires.room (c.deref_mut.ensures.value ∙ c.reach.ensures.items) c.alternate_words.ensures
    (sym c.deref_mut.ensures.len) in
    (after.few, omega (arith, c.self.invariant.1, c.reach.ensures.capacity))

pub returns : goal.returns
returns c =
    (set_in c.args.from c.args.to (in_turn c.args.from c.args.c c.args.d) c.self.inside.size _ c.args.self.now
    _ c.deref_mut.result.now c.alternate_words.new.words _ c.self.view_is c.self.invariant.0 c.requires.room
    (c.deref_mut.ensures.value ∙ c.reach.ensures.items) c.alternate_words.ensures (sym c.deref_mut.ensures.len)).all
