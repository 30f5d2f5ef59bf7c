use Rattle.std.specs.Prelude.{◌≡◌, None, Some}
use Rattle.nit_plan.specs.ScriptWords.{words_after}
use Rattle.nit_plan.specs.Surface.{IsPaintedTo}
use Rattle.nit_tests.proofs.scripts.plan_tests.do_lines.Given as goal

abbrev pub invariant-loop-line : goal.invariant-loop-line
invariant-loop-line l = record {
  told : l.glass.words ≡ Some (words_after l.client l.donation l.line);
  painted : IsPaintedTo l.client l.donation l.plan l.line l.glass;
  stages : l.glass.stages ≡ None;
}
