use Rattle.std.proofs.Common.{map, ◌≡◌}
use Rattle.nit_report.proofs.Lemmas.{generated_member, range_with_len}
use Rattle.nit_report.proofs.generated_config.gen_config.Given as goal

abbrev pub invariant-loop-client : goal.invariant-loop-client
invariant-loop-client l = l.clients.items ≡ map generated_member (range_with_len 0 l.client)
