use Rattle.nit_screen.proofs.Lemmas.{IsViewChange, all_painted, all_taken, can_paint_gone}
use Rattle.nit_screen.proofs.Lemmas.{can_paint_rest, goes, goes_painted, gone_by_slot, gone_change}
use Rattle.nit_screen.proofs.Lemmas.{gone_painted, length-set, nat_tests, no_repaint, one_less}
use Rattle.nit_screen.proofs.Lemmas.{pixel, place_is, repaint_more, seat_here, stays, stays_clean}
use Rattle.nit_screen.proofs.Lemmas.{taken_more, taken_none, without_views}
use Rattle.std.proofs.Common.{ap, arith, refl, sym, ℕ, ◌+◌, ◌-◌, ◌<◌, ◌∙◌, ◌≡◌, ◌≤◌}
use Rattle.nit_screen.proofs.screen.views.take_views_away.Goals as goal

pub views-init : goal.views-init
views-init g c =
    let s = c.args.server.now.stack in
    record {
      taken = rw c.view_count-i.ensures (taken_none c.args.of s);
      left = refl;
      session = c.requires.session;
      painted = no_repaint (λ k. stays_clean c.args.of s (pixel s.width k));
      rest = refl;
    }

-- the place that is looked at, and those behind it
down : (c : ℕ) → 0 < c → c ≡ (c - 1) + 1
down c l = omega arith

-- the view at the place is of another session
pub views-preserved-then-view-of : goal.views-preserved-then-view-of
views-preserved-then-view-of g c = grind (arith, nat_tests, taken_more, stays)

pub paint_changed-requires : goal.paint_changed-requires
paint_changed-requires g c =
    let i = c.views.invariant in
    let mid = c.views.server in
    let next = c.remove_view.new.self in
    let by = rw c.if-view-of.false at c.seated-view.ensures.named in
    let can = can_paint_rest i.taken i.painted c.requires.can in
    let gone = can_paint_gone _ mid.stack next.stack c.seated-view.result.0.0 _
    (gone_by_slot mid next c.args.of _ _ by c.remove_view.ensures) can in
    rw c.stack.ensures.stack gone

-- the view at the place goes
pub views-preserved : goal.views-preserved
views-preserved g c =
    let i = c.views.invariant in
    let e = c.paint_changed.ensures in
    let mid = c.views.server in
    let next = c.remove_view.new.self in
    let k = c.seated-view.result.0.0 in
    let view = c.seated-view.result.1 in
    let at = c.seated-view.ensures.place in
    let by = rw c.if-view-of.false at c.seated-view.ensures.named in
    let now = gone_by_slot mid next c.args.of view.handle k by c.remove_view.ensures in
    let first = rw (down c.views.i c.views-test.true) at i.taken in
    let gone = goes c.args.of (c.views.i - 1) k mid.stack next.stack _ by.slots at refl c.if-view-of.false first.behind
    now (omega (arith, c.views-test.true, i.taken.within)) in
    let change : IsViewChange k (c.views.i - 1) view.rect mid.stack next.stack =
    gone_change mid.stack next.stack k (c.views.i - 1) view by.slots
    (seat_here mid.stack.views (c.views.i - 1) _ by.slots at)
    (sym (place_is mid.stack.views (c.views.i - 1) _ by.slots at)) now in
    let painted = goes_painted c.args.of (c.views.i - 1) k mid.stack next.stack _ by.slots at refl c.if-view-of.false
    first.behind now _ _ _ _ _ (gone_painted mid.stack next.stack k _ _ _ _ _ now
    ((rw c.stack.ensures.stack at e.painted) mid.stack change)) in
    record {
      taken = taken_more c.args.of (c.views.i - 1) c.args.server.now.stack mid.stack next.stack first gone;
      left = ap (without_views c.args.of) c.remove_view.ensures ∙ one_less c.args.of view.handle mid i.session ∙ i.left;
      session = rw (c.remove_view.ensures, length-set) i.session;
      painted = repaint_more first gone i.painted (record { painted = painted; kept = e.kept });
      rest = e.rest ∙ i.rest;
    }

-- no place is left
none_left : (c : ℕ) → c ≤ 0 → c ≡ 0
none_left c l = omega arith

pub returns-clause-stack : goal.returns-clause-stack
returns-clause-stack g c = grind (arith, nat_tests, all_taken, none_left)

pub returns-clause-painted : goal.returns-clause-painted
returns-clause-painted g c =
    let all = all_painted c.args.of _ c.args.server.now.stack c.views.server.stack _ _ _ _
    (rw (none_left c.views.i c.views-test.false) at c.views.invariant.taken) c.views.invariant.painted.painted in
    record { painted = all; kept = c.views.invariant.painted.kept }
