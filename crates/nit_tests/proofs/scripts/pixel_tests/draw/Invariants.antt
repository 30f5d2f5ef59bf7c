use Rattle.std.specs.Prelude.{◌≡◌, None}
use Rattle.nit_plan.specs.Surface.{IsPaintedTo}
use Rattle.nit_tests.proofs.scripts.pixel_tests.draw.Given as goal

abbrev pub invariant-loop-line : goal.invariant-loop-line
invariant-loop-line l = record {
  painted : IsPaintedTo l.client 16384 l.plan l.line l.canvas.sight;
  free : l.canvas.sight.stages ≡ None;
}
