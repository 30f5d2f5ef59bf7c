use Rattle.std.proofs.Common.{not, rules, ℕ, ◌==◌}
use Rattle.nit_slots.proofs.Lemmas.{filter_same}
use Rattle.nit_slots.proofs.table.remove.Goals as goal

pub returns-clause-items : goal.returns-clause-items
returns-clause-items c =
    filter_same _ (λ (p : ℕ × ℕ). not (p.0 == c.args.h)) _ (λ x b f r. search rules) _ _ c.retain.ensures.filtered
