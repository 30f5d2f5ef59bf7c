use Rattle.std.proofs.Common.{false, take, ◌≡◌}
use Rattle.nit_look.proofs.Lemmas.{list_any, areas_meet}
use Rattle.nit_look.proofs.joining.first_met.Given as goal

abbrev pub invariant-areas : goal.invariant-areas
invariant-areas l = list_any (λ a. areas_meet a l.one) (take l.place l.areas) ≡ false
