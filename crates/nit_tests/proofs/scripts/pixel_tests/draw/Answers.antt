use Rattle.std.proofs.Common.{ap, ◌∙◌}
use Rattle.nit_word.specs.Sight.{Sight}
use Rattle.nit_tests.proofs.scripts.pixel_tests.draw.Goals as goal

pub stroke-requires-clause-before : goal.stroke-requires-clause-before
stroke-requires-clause-before c = (16384, c.loop-line.invariant.painted)

pub stroke-requires-clause-next : goal.stroke-requires-clause-next
stroke-requires-clause-next c = (16384, c.loop-line.invariant.painted, rw c.loop-line.invariant.free tt)

pub loop-line-preserved : goal.loop-line-preserved
loop-line-preserved c = record {
  painted = c.stroke.ensures.after 16384 c.loop-line.invariant.painted;
  free =
      ap (λ (s : Sight). s.stages) (c.stroke.ensures.sight 16384 c.loop-line.invariant.painted)
      ∙ c.loop-line.invariant.free;
}
