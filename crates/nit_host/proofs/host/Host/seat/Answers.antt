use Rattle.std.proofs.Common.{Ok, ap, length, ◌<◌}
use Rattle.nit_host.proofs.Lemmas.{HostModel, WasSeated, are_glasses, arith, blank_again_of}
use Rattle.nit_host.proofs.Lemmas.{blank_plain, frame_at, free_of, may_sit, nat_tests, next_client}
use Rattle.nit_host.proofs.Lemmas.{option_map, own_room, seen_seated, set, sheets_of}
use Rattle.nit_host.proofs.Lemmas.{sheets_with, turn_given, was_seated, when_served}
use Rattle.nit_host.proofs.Seatings.{Opens}
use Rattle.nit_host.proofs.host.Host.seat.Goals as goal

pub reopen-requires-clause-free : goal.reopen-requires-clause-free
reopen-requires-clause-free c = grind (arith, nat_tests, may_sit, free_of)

pub reopen-requires-clause-glasses : goal.reopen-requires-clause-glasses
reopen-requires-clause-glasses c =
    let may = may_sit c.self.view_is c.in_default.ensures in
    let inside : c.args.seat < length c.self.inside.desktop.state.config.clients =
    omega (arith, may.inside, c.facts.ensures.sessions) in
    let are = c.self.invariant.0.sheets in
    let is = c.index_mut.ensures.value in
    are_glasses (sheets_with are (blank_plain c.self.inside.desktop.state.config (blank_again_of are is inside c.wipe.ensures.sight))
    (omega (arith, own_room are is inside, c.wipe.ensures.room)))

-- what is left
done : (c : goal.After-way_told-2-1) → WasSeated c.args.seat c.args.label c.args.self.now c.self.inside.turns
    (record {
      frame = option_map (λ s. frame_at s.desktop.value s.sheets.value.items) c.self.inside.seen;
      views = c.self.inside.shown.items;
      came = c.self.inside.came;
    }) c.self.inside.desktop
    c.reopen.new.self c.self.inside.sheets.items c.reopen.new.glasses.items
done c =
    let may = may_sit c.self.view_is c.in_default.ensures in
    let opens : Opens c.args.seat c.args.label (set c.self.inside.sheets.items c.args.seat c.wipe.new.self)
    c.reopen.new.glasses.items c.self.inside.desktop c.reopen.new.self = assumption c.reopen.ensures in
    was_seated c.self.invariant.0 opens c.index_mut.ensures.value
    (omega (arith, may.inside, c.facts.ensures.sessions)) c.facts.ensures.live may.over c.wipe.ensures.sight
    c.wipe.ensures.room c.openings_keep_all.ensures.sources c.self.view_is

pub invariant_of-self : goal.invariant_of-self
invariant_of-self c =
    let d = c.self.inside.desktop in
    let kept = seen_seated d.state c.reopen.new.self.state c.args.seat c.args.label
    (sheets_of c.self.inside.sheets.items) (sheets_of c.reopen.new.glasses.items) c.self.inside.changed
    c.bar_or_screen-part.result c.add.new.self _ c.reopen.ensures.state (done c).words
    c.bar_or_screen-part.ensures c.add.ensures.added c.add.ensures.parts c.self.invariant.1 c.self.invariant.2 in (
      (done c).host,
      kept.0,
      kept.1,
      c.self.invariant.3,
      turn_given c.self.inside.turns c.args.seat c.self.invariant.4 (may_sit c.self.view_is c.in_default.ensures).more,
      λ now. rw c.reopen.ensures.state (c.self.invariant.5 now),
    )

pub returns-clause-seated : goal.returns-clause-seated
returns-clause-seated c = λ _.
    (ap (λ (h : HostModel). Ok (next_client h c.args.seat)) c.self.view_is, (done c).now)

pub returns-clause-turn : goal.returns-clause-turn
returns-clause-turn c = omega (arith, (may_sit c.self.view_is c.in_default.ensures).more)

pub returns-clause-act : goal.returns-clause-act
returns-clause-act c = when_served c.args.self.now c.in_default.ensures (done c).now
