use Rattle.std.proofs.Common.{drop, ◌+◌, ◌≡◌}
use Rattle.nit_audit.proofs.Lemmas.{is_meant, position_or_len, view_under}
use Rattle.nit_audit.proofs.keys.place_of.Given as goal

abbrev pub invariant-loop-i : goal.invariant-loop-i
invariant-loop-i l = position_or_len (λ k. is_meant l.which (view_under l.records k)) (drop l.i l.keys) + l.i
    ≡ position_or_len (λ k. is_meant l.which (view_under l.records k)) l.keys
