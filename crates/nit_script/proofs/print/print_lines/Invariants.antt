use Rattle.std.proofs.Common.{drop, ◌++◌, ◌≡◌}
use Rattle.nit_script.proofs.Lemmas.{flat_map, spelled}
use Rattle.nit_script.proofs.print.print_lines.Given as goal

abbrev pub invariant-loop-line : goal.invariant-loop-line
invariant-loop-line g l =
    let spelling = g.L.ScriptLine.spelling in
    l.out.items ++ flat_map (spelled spelling) (drop l.line-index l.lines) ≡ flat_map (spelled spelling) l.lines
