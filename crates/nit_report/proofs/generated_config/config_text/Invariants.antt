use Rattle.std.proofs.Common.{◌++◌, ◌≡◌}
use Rattle.nit_report.proofs.Lemmas.{client_block, codes, flat_map, range_with_len}
use Rattle.nit_report.proofs.generated_config.config_text.Given as goal

abbrev pub invariant-loop-client : goal.invariant-loop-client
invariant-loop-client l = l.out.items ≡ codes "[screen]\nwidth = 320\nheight = 240\n\n[input]\nscript = \"gen.in\"\n"
    ++ flat_map client_block (range_with_len 0 l.client)
