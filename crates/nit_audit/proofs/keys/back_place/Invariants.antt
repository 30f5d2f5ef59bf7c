use Rattle.std.proofs.Common.{drop, false, nat_le, ◌≡◌}
use Rattle.nit_audit.proofs.Lemmas.{layer, list_any, view_under}
use Rattle.nit_audit.proofs.keys.back_place.Given as goal

abbrev pub invariant-loop-i : goal.invariant-loop-i
invariant-loop-i l = list_any (λ k. nat_le (layer l.config (view_under l.records k).sid) l.high) (drop l.i l.keys)
    ≡ false
