use Rattle.std.proofs.Common.{false, true, ◌≡◌}
use Rattle.nit_host.proofs.host.touch.where_named.Goals as goal

pub returns-then-is_meant : goal.returns-then-is_meant
returns-then-is_meant c = rw c.if-is_meant.true c.of_rect.ensures

pub returns-else-is_meant : goal.returns-else-is_meant
returns-else-is_meant c = record {
  area = c.none.ensures.area c.args.size.0 c.args.size.1;
  there = λ x y wide high is. let wrong : false ≡ true = rw c.if-is_meant.false at is in cc;
}
