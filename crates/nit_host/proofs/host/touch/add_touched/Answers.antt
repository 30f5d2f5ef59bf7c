use Rattle.nit_host.proofs.Lemmas.{added_on, arith, screen_touched}
use Rattle.nit_host.proofs.host.touch.add_touched.Goals as goal

pub returns-in-Screen : goal.returns-in-Screen
returns-in-Screen c =
    let s = c.args.desktop.now.state in
    let rows = rw c.size-size.ensures at c.of_rows.ensures in
    rw c.in-Screen.is (screen_touched s c.args.seat c.args.parts.now c.of_rows.result c.add.new.self c.add.ensures.added
    c.add.ensures.parts (rows.area s.config.height (omega arith)) rows.all)

pub returns-in-Views : goal.returns-in-Views
returns-in-Views c =
    let s = c.args.desktop.now.state in
    let bar = c.bar.ensures in
    let added = c.add-in-Views.ensures.added in
    let views = c.add_views.ensures in
    rw c.in-Views.is (record {
      screen = λ on. views.screen (added_on s.config.width s.config.height c.args.parts.now c.bar.result
          c.add-in-Views.new.self added c.add-in-Views.ensures.parts on bar.area);
      own = λ x y is. views.own x y (added.kept x y is);
      touched = record {
        bare = λ x y wide high is. views.own x y (added.own x y (bar.rows x y wide high is));
        views = λ i x y v there wide high is. views.views i x y v there wide high (rw c.in-Views.is is);
      };
    })
