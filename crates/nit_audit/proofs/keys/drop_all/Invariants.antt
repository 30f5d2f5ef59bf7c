use Rattle.std.proofs.Common.{take, ℕ, ◌≡◌}
use Rattle.nit_audit.proofs.Lemmas.{get, swept, taken_if}
use Rattle.nit_audit.proofs.keys.drop_all.Given as goal

abbrev pub invariant-loop-key : goal.invariant-loop-key
invariant-loop-key l = (k : ℕ) → get l.records k ≡ swept (taken_if l.which) (take l.key-index l.keys) l.fn.records k
