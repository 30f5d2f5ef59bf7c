use Rattle.std.proofs.Common.{arith, sym, ◌≡◌}
use Rattle.nit_report.proofs.Lemmas.{generated_is_configured, generated_member}
use Rattle.nit_report.proofs.Lemmas.{map-range_with_len_more}
use Rattle.nit_report.specs.Generator.{generated_configuration}
use Rattle.nit_report.proofs.generated_config.gen_config.Goals as goal

pub loop-client-preserved : goal.loop-client-preserved
loop-client-preserved c =
    let k = c.loop-client.client in
    rw (c.in_ok-push.ensures.items, c.loop-client.invariant, c.in_ok-member.ensures)
    (sym (map-range_with_len_more generated_member 0 k k (omega arith)))

pub returns-clause-configured : goal.returns-clause-configured
unfolding generated_configuration
returns-clause-configured c =
    let all : c.loop-client.client ≡ 8 = omega arith in
    rw (c.in_ok-new.ensures, c.loop-client.invariant, all) generated_is_configured
