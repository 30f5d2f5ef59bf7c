use Rattle.std.proofs.Common.{false, true, ◌≡◌}
use Rattle.nit_host.proofs.host.touch.view_touched.Goals as goal

pub returns-in-Nothing : goal.returns-in-Nothing
returns-in-Nothing c = record {
  area = c.none.ensures.area c.args.size.0 c.args.size.1;
  there = λ x y wide high is. let wrong : false ≡ true = rw c.in-Nothing.is at is in cc;
}

pub returns-in-Part : goal.returns-in-Part
returns-in-Part c = rw c.in-Part.is c.part_shown.ensures
