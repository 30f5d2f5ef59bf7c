use Rattle.std.proofs.Common.{drop, find, ◌≡◌}
use Rattle.nit_audit.proofs.Lemmas.{is_meant, view_under}
use Rattle.nit_audit.proofs.keys.first_key.Given as goal

abbrev pub invariant-loop-key : goal.invariant-loop-key
invariant-loop-key l = find (λ k. is_meant l.which (view_under l.records k)) (drop l.key-index l.keys)
    ≡ find (λ k. is_meant l.which (view_under l.records k)) l.keys
