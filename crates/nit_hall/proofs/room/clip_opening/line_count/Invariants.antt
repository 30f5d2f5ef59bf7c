use Rattle.std.proofs.Common.{length, map, sum, take, ◌*◌, ◌≡◌, ◌≤◌}
use Rattle.nit_hall.proofs.room.clip_opening.line_count.Given as goal

abbrev pub invariant-loop-script : goal.invariant-loop-script
invariant-loop-script l = record {
  sum : l.count ≡ sum (map length (take l.script-index l.scripts));
  most : l.count ≤ 65536 * l.script-index;
}
