use Rattle.nit_events.proofs.Lemmas.{zeros_behind}
use Rattle.nit_events.proofs.text.Text.of.Goals as goal

pub invariant_of-result : goal.invariant_of-result
invariant_of-result c = zeros_behind c.args.bytes.now c.copy_from_slice.new.self c.requires c.copy_from_slice.ensures.after
