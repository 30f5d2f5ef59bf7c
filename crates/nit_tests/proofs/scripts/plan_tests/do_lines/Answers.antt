use Rattle.std.proofs.Common.{◌∙◌, ℕ, ◌+◌, List, ap}
use Rattle.std.specs.Option.{option_map}
use Rattle.nit_word.specs.Sight.{Sight}
use Rattle.nit_plan.specs.ScriptWords.{words_after}
use Rattle.nit_tests.proofs.scripts.plan_tests.do_lines.Goals as goal

pub stroke-requires-clause-before : goal.stroke-requires-clause-before
stroke-requires-clause-before c = (c.args.donation, c.loop-line.invariant.painted)

pub stroke-requires-clause-next : goal.stroke-requires-clause-next
stroke-requires-clause-next c =
    (c.args.donation, c.loop-line.invariant.painted, rw c.loop-line.invariant.stages tt)

pub loop-line-preserved : goal.loop-line-preserved
loop-line-preserved c = record {
  told =
      ap (λ (s : Sight). s.words) (c.stroke.ensures.sight c.args.donation c.loop-line.invariant.painted)
      ∙ ap (option_map (λ (ws : List ℕ). words_after c.args.client.now c.args.donation (c.loop-line.line + 1)))
      c.loop-line.invariant.told;
  painted = c.stroke.ensures.after c.args.donation c.loop-line.invariant.painted;
  stages =
      ap (λ (s : Sight). s.stages) (c.stroke.ensures.sight c.args.donation c.loop-line.invariant.painted)
      ∙ c.loop-line.invariant.stages;
}
