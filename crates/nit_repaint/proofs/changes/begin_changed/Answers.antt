use Rattle.nit_repaint.proofs.Lemmas.{fallen_owns, found_some, gone_owns, is_slot, list_any}
use Rattle.nit_repaint.proofs.Lemmas.{moved_owns, once, stands_nowhere, stands_there}
use Rattle.std.proofs.Common.{ap, arith, false, refl, ◌∙◌, ◌≡◌}
use Rattle.nit_repaint.proofs.changes.begin_changed.Goals as goal

pub returns-then-len-now-clause-to_come : goal.returns-then-len-now-clause-to_come
returns-then-len-now-clause-to_come c before change p on =
    let s = c.args.stack.now in
    let none : list_any (is_slot c.args.was.now.view.0) s.views ≡ false =
    stands_nowhere (is_slot c.args.was.now.view.0) s.views (omega arith) in
    c.begin_behind.ensures.to_come p on
    ∙ ap once (gone_owns c.args.was.now.view.0 c.args.was.now.place c.args.was.now.rect before s p change none)

pub returns-then-was-now-clause-to_come : goal.returns-then-was-now-clause-to_come
returns-then-was-now-clause-to_come c before change p on =
    let s = c.args.stack.now in
    let there = found_some (is_slot c.args.was.now.view.0) s.views
    (stands_there (is_slot c.args.was.now.view.0) s.views (omega arith)) in
    c.begin_behind-then-was-now.ensures.to_come p on
    ∙ ap once (fallen_owns c.args.was.now.view.0 c.args.was.now.place c.args.was.now.rect before s p change there.0
    c.len.ensures.standing.slots there.1 (omega arith))

pub begin_moved-requires-clause-view : goal.begin_moved-requires-clause-view
begin_moved-requires-clause-view c =
    stands_there (is_slot c.args.was.now.view.0) c.args.stack.now.views (omega arith)

pub returns-clause-to_come : goal.returns-clause-to_come
returns-clause-to_come c before change p on =
    let s = c.args.stack.now in
    let there = found_some (is_slot c.args.was.now.view.0) s.views
    (stands_there (is_slot c.args.was.now.view.0) s.views (omega arith)) in
    c.begin_moved.ensures.to_come p on
    ∙ ap once (moved_owns c.args.was.now.view.0 c.args.was.now.place c.args.was.now.rect before s p change
    c.args.was.now.view there.0 refl c.len.ensures.standing.slots there.1 (omega arith))
