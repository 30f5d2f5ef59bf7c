use Rattle.std.proofs.Common.{drop, find, ◌≡◌}
use Rattle.nit_audit.proofs.Lemmas.{covers, view_under}
use Rattle.nit_audit.proofs.keys.covering.Given as goal

abbrev pub invariant-loop-key : goal.invariant-loop-key
invariant-loop-key l = find (λ k. covers (view_under l.records k).rect l.p) (drop l.key-index l.keys)
    ≡ find (λ k. covers (view_under l.records k).rect l.p) l.keys
