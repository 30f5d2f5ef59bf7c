use Rattle.nit_host.proofs.Lemmas.{added_on, arith, cases_lt, nat_tests, same_view}
use Rattle.nit_host.proofs.Lemmas.{slice_get_within}
use Rattle.std.proofs.Common.{inl, inr, ◌≡◌}
use Rattle.nit_host.proofs.host.touch.add_views.Goals as goal

pub views-preserved : goal.views-preserved
views-preserved c =
    let known = c.views.invariant in
    let added = c.add.ensures.added in
    let width = c.args.desktop.now.state.config.width in
    let height = c.args.desktop.now.state.config.height in
    record {
      screen = λ on. added_on width height c.views.parts c.view_touched.result c.add.new.self added c.add.ensures.parts
          (known.screen on) (rw c.size-size.ensures at c.view_touched.ensures.area);
      own = λ x y is. added.kept x y (known.own x y is);
      views = λ i x y v less there wide high is. elim (cases_lt i c.views.i) [
        | inl before ↦ added.kept x y (known.views i x y v before there wide high is)
        | inr here ↦
            let at : i ≡ c.views.i = omega arith in
            added.own x y (same_view c.args.desktop.now.state.stack i c.views.i v c.view-view.result
            c.args.touch.now c.args.seat c.size-size.result width height c.view_touched.result x y at there
            c.view-view.ensures.view c.size-size.ensures c.view_touched.ensures.there wide high is)
      ];
    }

pub returns-clause-views : goal.returns-clause-views
returns-clause-views c = grind (arith, nat_tests, slice_get_within)
