use Rattle.nit_stack.proofs.Lemmas.{refl, seat_sound, size_of, source_bare, source_is, sym}
use Rattle.nit_stack.proofs.stack.Stack.source.Goals as goal

pub returns-in_default-clause-source : goal.returns-in_default-clause-source
returns-in_default-clause-source c =
    sym (source_bare (size_of c.args.self.now.sizes) c.args.self.now.bar c.args.self.now.views c.args.p
    (rw c.in_default.is at c.owner.ensures.owner))

pub buffer-w-requires : goal.buffer-w-requires
buffer-w-requires c = (seat_sound _ c.in-Some.v.0 _ c.view-view.ensures.standing c.view-view.ensures.value).session

pub shown_index-requires-clause-offset : goal.shown_index-requires-clause-offset
shown_index-requires-clause-offset c =
    let seat = seat_sound _ c.in-Some.v.0 _ c.view-view.ensures.standing c.view-view.ensures.value in
    (seat.column, seat.row)

pub returns-in-Some-shown_index-clause-source : goal.returns-in-Some-shown_index-clause-source
returns-in-Some-shown_index-clause-source c =
    let is = source_is (size_of c.args.self.now.sizes) c.args.self.now.bar c.args.self.now.views c.args.p c.in-Some.v
    c.view-view.result c.view-view.ensures.standing.slots (rw c.in-Some.is at c.owner.ensures.owner)
    c.view-view.ensures.value in
    let view = c.view-view.ensures.value in
    rw (is, view, ← c.buffer-w.ensures.size, ← c.shown_index.ensures.index, c.in-Some-shown_index.is) refl

pub returns-in-None-clause-source : goal.returns-in-None-clause-source
returns-in-None-clause-source c =
    let is = source_is (size_of c.args.self.now.sizes) c.args.self.now.bar c.args.self.now.views c.args.p c.in-Some.v
    c.view-view.result c.view-view.ensures.standing.slots (rw c.in-Some.is at c.owner.ensures.owner)
    c.view-view.ensures.value in
    rw (is, ← c.buffer-w.ensures.size, ← c.shown_index.ensures.index, c.in-None.is) refl
