use Rattle.std.proofs.Common.{List, ap, arith, length, min, sym, ℕ, ◌∙◌, ◌≡◌}
use Rattle.nit_word.proofs.Lemmas.{copied_in, filled_at, filled_up, is_between, none_copied}
use Rattle.nit_word.proofs.Lemmas.{reached_long, same_colours, set_where, slice_index, whole_long}
use Rattle.nit_word.proofs.Lemmas.{wiped_in}
use Rattle.nit_word.proofs.words.Words.copy.Goals as goal

-- the words of others are those that are kept
shown : (from to : ℕ) (words others : List ℕ) (size : ℕ) (known : List ℕ) → filled_up size known ≡ others
    → set_where (is_between from to) (slice_index known) words
    ≡ set_where (is_between from to) (slice_index others) words
shown from to words others size known is = same_colours (is_between from to) (slice_index known) (slice_index others)
    words (λ k inside. rw (← is) (sym (filled_at size known k)))

pub invariant_of-self : goal.invariant_of-self
invariant_of-self c =
    let after = wiped_in c.args.from c.args.to c.self.inside.size c.args.self.now _ c.wipe.new.words.items
    c.self.view_is c.self.invariant.0 c.wipe.ensures.items in
    (after.few, omega (arith, c.self.invariant.1, c.wipe.ensures.capacity))

pub returns-then-known-from : goal.returns-then-known-from
returns-then-known-from c =
    let after = wiped_in c.args.from c.args.to c.self.inside.size c.args.self.now _ c.wipe.new.words.items
    c.self.view_is c.self.invariant.0 c.wipe.ensures.items in
    after.all ∙ none_copied c.args.from c.args.to c.others.inside.reached.items c.args.self.now
    (omega (arith, c.if-known-from.true, c.len-known.ensures, c.others.inside.reached.ok.0))
    ∙ shown c.args.from c.args.to c.args.self.now c.args.others.now c.others.inside.size
    c.others.inside.reached.items c.others.view_is

pub reach-requires : goal.reach-requires
reach-requires c =
    let long = whole_long _ _ _ c.self.view_is c.self.invariant.0 in
    omega (arith, long, c.requires.room, c.self.invariant.1, c.min-end.ensures)

pub copy_words-requires-clause-room : goal.copy_words-requires-clause-room
copy_words-requires-clause-room c =
    omega (arith, ap length c.deref_mut.ensures.value, reached_long c.min-end.result _ _ c.reach.ensures.items)

pub invariant_of-self-2 : goal.invariant_of-self-2
invariant_of-self-2 c =
    let known = c.others.inside.reached in
    let after = copied_in c.args.from c.args.to c.min-end.result _ c.self.inside.size known.items c.args.self.now _
    c.deref_mut.result.now c.copy_words.new.words _ c.wipe-2.new.words.items c.self.view_is c.self.invariant.0
    c.requires.order c.requires.room (omega (arith, c.if-known-from.false, c.len-known.ensures, known.ok.0))
    (c.min-end.ensures ∙ ap (min c.args.to) (c.len-known.ensures ∙ known.ok.0))
    (c.deref_mut.ensures.value ∙ c.reach.ensures.items) (rw c.deref.ensures.value at c.copy_words.ensures)
    (sym c.deref_mut.ensures.len) c.wipe-2.ensures.items in
    (after.few, omega (arith, c.self.invariant.1, c.reach.ensures.capacity, c.wipe-2.ensures.capacity))

pub returns : goal.returns
returns c =
    let known = c.others.inside.reached in
    let after = copied_in c.args.from c.args.to c.min-end.result _ c.self.inside.size known.items c.args.self.now _
    c.deref_mut.result.now c.copy_words.new.words _ c.wipe-2.new.words.items c.self.view_is c.self.invariant.0
    c.requires.order c.requires.room (omega (arith, c.if-known-from.false, c.len-known.ensures, known.ok.0))
    (c.min-end.ensures ∙ ap (min c.args.to) (c.len-known.ensures ∙ known.ok.0))
    (c.deref_mut.ensures.value ∙ c.reach.ensures.items) (rw c.deref.ensures.value at c.copy_words.ensures)
    (sym c.deref_mut.ensures.len) c.wipe-2.ensures.items in
    after.all ∙ shown c.args.from c.args.to c.args.self.now c.args.others.now c.others.inside.size known.items
    c.others.view_is
