use Rattle.std.proofs.Common.{length, map, sum, take, ◌*◌, ◌≡◌, ◌≤◌}
use Rattle.nit_server.proofs.server.Server.counts.Given as goal

abbrev pub invariant-loop-member : goal.invariant-loop-member
invariant-loop-member l = record {
  counted : l.used ≡ sum (map (λ m. length m.session.handles) (take l.member-index l.member-items));
  few : l.used ≤ 64 * l.member-index;
}
