use Rattle.std.proofs.Common.{not, rules, ◌==◌}
use Rattle.nit_stack.proofs.Lemmas.{filter_same}
use Rattle.nit_stack.proofs.order.take_out.Goals as goal

pub returns-clause-items : goal.returns-clause-items
returns-clause-items c = filter_same _ (λ k. not (k == c.args.slot)) _ (λ x b f r. search rules) _ _
    c.retain.ensures.filtered
