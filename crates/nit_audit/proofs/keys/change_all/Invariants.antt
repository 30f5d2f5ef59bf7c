use Rattle.std.proofs.Common.{take, ℕ, ◌≡◌}
use Rattle.nit_audit.proofs.Lemmas.{changed_if, get, swept}
use Rattle.nit_audit.proofs.keys.change_all.Given as goal

abbrev pub invariant-loop-key : goal.invariant-loop-key
invariant-loop-key l = (k : ℕ)
    → get l.records k ≡ swept (changed_if l.which l.change) (take l.key-index l.keys) l.fn.records k
