use Rattle.nit_rounds.proofs.Lemmas.{ByUser, FitsInputLine, List, SceneModel, Sight, []}
use Rattle.nit_rounds.proofs.Lemmas.{after_client, after_user, all_own, ap, arith, as_many, begun}
use Rattle.nit_rounds.proofs.Lemmas.{behind_again, clients_move, clients_turn, each_at, found_here}
use Rattle.nit_rounds.proofs.Lemmas.{front_move, get_or_default, no_sight, others_quiet, read_same}
use Rattle.nit_rounds.proofs.Lemmas.{refl, set, settled, users_move, users_turn, ◌∙◌}
use Rattle.nit_rounds.proofs.running.run_rounds.Goals as goal

pub rounds-init : goal.rounds-init
rounds-init g c =
    let same = c.requires.begins.set_up.same in
    record {
      behind = same;
      way = rw (← ap (λ (gs : List Sight). record c.args.scene.now { glasses = gs }) same) (begun g.V.Viewer.fits
          g.V.Viewer.shows c.args.parts.scripts.now c.args.parts.input.now
          c.args.parts.plans.now c.args.scene.now c.args.owns.now c.new-turns.result c.args.viewer.now
          c.new-turns.ensures c.requires.begins.set_up c.requires.begins.entries c.journal.ensures.raw
          c.requires.viewer);
    }

-- ---- a client's turn

pub bounds-owns-sid : goal.bounds-owns-sid
bounds-owns-sid g c =
    (clients_turn c.rounds.scene c.next.ensures.turn c.next.ensures.left c.in-Some.is c.rounds.invariant.way
    c.requires.begins c.settle_others.new.scene c.size.ensures.configured c.settle_others.ensures.scene
    c.in-Client.is).in_owns

pub bounds-parts-sid : goal.bounds-parts-sid
bounds-parts-sid g c =
    (clients_turn c.rounds.scene c.next.ensures.turn c.next.ensures.left c.in-Some.is c.rounds.invariant.way
    c.requires.begins c.settle_others.new.scene c.size.ensures.configured c.settle_others.ensures.scene
    c.in-Client.is).in_scripts

pub bounds-parts-sid-in-Client : goal.bounds-parts-sid-in-Client
bounds-parts-sid-in-Client g c =
    (clients_turn c.rounds.scene c.next.ensures.turn c.next.ensures.left c.in-Some.is c.rounds.invariant.way
    c.requires.begins c.settle_others.new.scene c.size.ensures.configured c.settle_others.ensures.scene
    c.in-Client.is).in_plans

pub client_line-requires-clause-draw : goal.client_line-requires-clause-draw
client_line-requires-clause-draw g c =
    let s = c.settle_others.new.scene in
    let sid = c.in-Client.sid in
    let t = clients_turn c.rounds.scene c.next.ensures.turn c.next.ensures.left c.in-Some.is c.rounds.invariant.way
    c.requires.begins c.settle_others.new.scene c.size.ensures.configured c.settle_others.ensures.scene
    c.in-Client.is in
    let script = get_or_default c.args.parts.scripts.now sid [] c.index-parts-sid.result t.in_scripts in
    record {
      there = record {
        session = t.session;
        glasses = as_many s.glasses c.rounds.owns sid _ c.settle_others.ensures.others t.in_owns;
      };
      line = rw script at t.here;
      donation = t.donation;
      plan = rw script at (rw (get_or_default c.args.parts.plans.now sid _ c.index-parts-sid-in-Client.result
          t.in_plans) at t.plan);
      own = rw (get_or_default c.rounds.owns sid _ no_sight t.in_owns, t.own, script);
      behind = rw (← get_or_default c.rounds.owns sid no_sight _ t.in_owns) c.settle_others.ensures.behind;
    }

pub client_line-requires-clause-quiet : goal.client_line-requires-clause-quiet
client_line-requires-clause-quiet g c =
    others_quiet c.rounds.scene c.next.ensures.turn c.next.ensures.left c.in-Some.is c.rounds.invariant.way
    c.requires.begins c.settle_others.new.scene c.in-Client.sid c.settle_others.ensures.others

pub client_line-requires-clause-spare : goal.client_line-requires-clause-spare
client_line-requires-clause-spare g c =
    let t = clients_turn c.rounds.scene c.next.ensures.turn c.next.ensures.left c.in-Some.is c.rounds.invariant.way
    c.requires.begins c.settle_others.new.scene c.size.ensures.configured c.settle_others.ensures.scene
    c.in-Client.is in
    λ call found. t.spare call
    (rw (get_or_default _ c.in-Client.sid [] c.index-parts-sid.result t.in_scripts, found))

pub rounds-preserved-in-Client : goal.rounds-preserved-in-Client
rounds-preserved-in-Client g c =
    let i = c.rounds.invariant in
    let mid = c.settle_others.new.scene in
    let new = c.client_line.new.scene in
    let owns = c.rounds.owns in
    let own' = c.client_line.new.own in
    let sid = c.in-Client.sid in
    let (m, front, of) = front_move c.rounds.turns c.next.new.self c.next.result c.in-Some.turn c.next.ensures.turn
    c.next.ensures.left c.in-Some.is in
    let others = c.settle_others.ensures.others in
    let e = c.client_line.ensures in
    let all = all_own mid.glasses new.glasses owns (set owns sid own') sid _ own' others e.glasses refl in
    let p = rw (← ap (λ (s : SceneModel Sight). settled s owns) c.settle_others.ensures.scene, front) at i.way in
    let move = clients_move p.way _ _ (of ∙ c.in-Client.is) in
    let script = get_or_default c.args.parts.scripts.now sid c.index-parts-sid.result [] move.inside in
    record {
      behind = behind_again c.client_line.new.stale mid.glasses new.glasses owns _ sid _ own'
          (rw p.way.owns_each move.inside) others e.glasses refl e.drawn.behind;
      way = after_client p mid new sid c.in-Client.line own' move refl (rw (e.drawn.own, script))
          (e.done move.l (rw (script, move.here))) all;
    }

-- ---- the user's turn

pub bounds-lines-line : goal.bounds-lines-line
bounds-lines-line g c =
    let t = users_turn c.rounds.scene c.next.ensures.turn c.next.ensures.left c.in-Some.is c.rounds.invariant.way
    c.requires.begins c.settle.new.scene c.settle.ensures c.in-User.is in
    rw (← c.lines.ensures.value) at t.here

pub offset_bounds-lines-line : goal.offset_bounds-lines-line
offset_bounds-lines-line g c =
    let here = bounds-lines-line g c in
    omega (arith, here, c.lines.ensures.length)

pub user_line-requires-clause-can : goal.user_line-requires-clause-can
user_line-requires-clause-can g c =
    let t = users_turn c.rounds.scene c.next.ensures.turn c.next.ensures.left c.in-Some.is c.rounds.invariant.way
    c.requires.begins c.settle.new.scene c.settle.ensures c.in-User.is in
    let inside = rw (← c.lines.ensures.value) at t.here in
    t.can _
    (read_same c.args.parts.input.now c.lines.result.now c.in-User.line _ c.lines.ensures.value t.here)
    (each_at FitsInputLine c.lines.result.now c.in-User.line _ inside c.lines.ensures.fits)

pub rounds-preserved : goal.rounds-preserved
rounds-preserved g c =
    let owns = c.rounds.owns in
    let new = c.user_line.new.scene in
    let (m, front, of) = front_move c.rounds.turns c.next.new.self c.next.result c.in-Some.turn c.next.ensures.turn
    c.next.ensures.left c.in-Some.is in
    let p = rw (← c.settle.ensures, front) at c.rounds.invariant.way in
    let t = users_turn c.rounds.scene c.next.ensures.turn c.next.ensures.left c.in-Some.is c.rounds.invariant.way
    c.requires.begins c.settle.new.scene c.settle.ensures c.in-User.is in
    let same = read_same c.args.parts.input.now c.lines.result.now c.in-User.line _ c.lines.ensures.value
    t.here in
    let move = users_move p.way _ (of ∙ c.in-User.is) in
    let does = c.user_line.ensures in
    let glasses = does.done.glasses ∙ ap (λ (s : SceneModel Sight). s.glasses) c.settle.ensures in
    record {
      behind = glasses;
      way = rw (ap (λ (gs : List Sight). record new { glasses = gs }) glasses) at (after_user p new _ _
          (move.doing ∙ ap ByUser (found_here c.args.parts.input.now c.in-User.line move.l _ move.here same))
          does.done does.shown does.viewer);
    }
