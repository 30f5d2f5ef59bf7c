use Rattle.nit_report.proofs.Lemmas.{arith, client_text, map-append, map-range_with_len_more, sym}
use Rattle.nit_report.proofs.generator.client_texts.Goals as goal

pub loop-client-preserved : goal.loop-client-preserved
loop-client-preserved c =
    let k = c.loop-client.client in
    rw (c.in_ok-push.ensures.items, map-append, c.loop-client.invariant, c.in_ok-client_text.ensures)
    (sym (map-range_with_len_more (client_text c.args.n) 0 k k (omega arith)))
