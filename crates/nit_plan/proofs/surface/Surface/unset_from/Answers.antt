use Rattle.nit_plan.proofs.Lemmas.{for_any}
use Rattle.std.proofs.Common.{arith, slice_index, ℕ, ◌<◌, ◌≡◌, ◌≤◌}
use Rattle.nit_plan.proofs.surface.Surface.unset_from.Goals as goal

pub returns-clause-unset : goal.returns-clause-unset
returns-clause-unset g c =
    let s = g.Self.Glass.sight c.args.self.now in
    for_any (λ words. (i : ℕ) → c.args.end ≤ i → i < c.args.end → slice_index words i ≡ 0) s.words
    (λ words i low high. absurd (omega (arith, low, high)))
