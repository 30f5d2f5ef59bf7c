use Rattle.std.proofs.Common.{drop, ◌++◌, ◌≡◌}
use Rattle.nit_nested.proofs.Lemmas.{frame_script, woven}
use Rattle.nit_nested.proofs.weaving.frame_script.Given as goal

abbrev pub invariant-loop-line : goal.invariant-loop-line
invariant-loop-line l = l.lines.items ++ woven l.rest (drop l.line-index l.own) ≡ frame_script l.w l.h l.fn.frames l.own
