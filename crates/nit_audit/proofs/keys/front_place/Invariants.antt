use Rattle.std.proofs.Common.{drop, nat_le, ◌+◌, ◌≡◌}
use Rattle.nit_audit.proofs.Lemmas.{layer, position_or_len, view_under}
use Rattle.nit_audit.proofs.keys.front_place.Given as goal

abbrev pub invariant-loop-i : goal.invariant-loop-i
invariant-loop-i l = position_or_len (λ k. nat_le l.low (layer l.config (view_under l.records k).sid))
    (drop l.i l.keys) + l.i ≡ position_or_len (λ k. nat_le l.low (layer l.config (view_under l.records k).sid)) l.keys
