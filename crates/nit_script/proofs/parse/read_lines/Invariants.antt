use Rattle.nit_script.proofs.Lemmas.{HasRead}
use Rattle.nit_script.proofs.parse.read_lines.Given as goal

abbrev pub invariant-loop-number : goal.invariant-loop-number
invariant-loop-number g l = HasRead g.L.ScriptLine.Fits g.L.ScriptLine.spelling l.bytes l.lines.items l.rest l.number
