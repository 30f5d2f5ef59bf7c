use Rattle.std.proofs.Common.{arith, rules, suc, zero, ℕ, ◌<◌, ◌≡◌}
use Rattle.nit_tests.proofs.scenes.stage.Stage.finish.Goals as goal

-- what holds of both holds of each
of_both : (P : ℕ → Type 0) (n : ℕ) → n ≡ 2 → P 0 → P 1 → (t : ℕ) → t < n → P t
of_both P n two first second zero lt = first
of_both P n two first second (suc zero) lt = second
of_both P n two first second (suc (suc t)) lt = absurd (omega (arith, two))

pub finish-requires-clause-owns : goal.finish-requires-clause-owns
finish-requires-clause-owns g c = record {
  each = search rules;
  tables = of_both _ _ c.self.invariant.0 c.self.invariant.3 c.self.invariant.4;
}
