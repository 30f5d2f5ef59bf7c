use Rattle.nit_look.proofs.Lemmas.{joined_more}
use Rattle.nit_look.proofs.joining.join.Goals as goal

pub returns-then-is_full-clause-joined : goal.returns-then-is_full-clause-joined
returns-then-is_full-clause-joined c =
    joined_more _ c.take_in-all.new.areas.items _ _ c.take_in-all.result _ c.take_in-all.ensures.joined
    c.join_nearest.ensures.joined
