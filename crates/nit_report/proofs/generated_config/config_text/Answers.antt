use Rattle.nit_report.proofs.Lemmas.{append_assoc, arith, client_block, codes, flat_map}
use Rattle.nit_report.proofs.Lemmas.{flat_map_next, range_with_len}
use Rattle.nit_report.proofs.generated_config.config_text.Goals as goal

pub loop-client-preserved : goal.loop-client-preserved
loop-client-preserved c =
    let k = c.loop-client.client in
    rw (c.in_ok-put_block.ensures, c.loop-client.invariant, flat_map_next client_block 0 k k (omega arith))
    (append_assoc (codes "[screen]\nwidth = 320\nheight = 240\n\n[input]\nscript = \"gen.in\"\n")
    (flat_map client_block (range_with_len 0 k)) (client_block k))
