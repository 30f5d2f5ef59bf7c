use Rattle.nit_audit.proofs.Lemmas.{back_at, back_none, layer, view_under}
use Rattle.std.proofs.Common.{arith, get_or, ℕ, ◌+◌, ◌-◌, ◌≡◌, ◌≤◌}
use Rattle.nit_audit.proofs.keys.back_place.Goals as goal

pub returns : goal.returns
returns c =
    let on : ℕ → ℕ = λ k. layer c.args.config.now (view_under c.args.records.now k).sid in
    let none : c.loop-i.i ≡ 0 = omega arith in
    record {
      place = λ v. back_none on c.args.high v c.args.keys.now (rw none at c.loop-i.invariant);
      within = omega arith;
    }

pub returns-then-layer_of-high : goal.returns-then-layer_of-high
returns-then-layer_of-high c =
    let on : ℕ → ℕ = λ k. layer c.args.config.now (view_under c.args.records.now k).sid in
    let more : c.loop-i.i ≡ c.loop-i.i - 1 + 1 = omega arith in
    let same = rw c.view_under.ensures at c.layer_of.ensures in
    let low : on (get_or c.args.keys.now (c.loop-i.i - 1) 0) ≤ c.args.high = omega (arith, same) in
    record {
      place = λ v. back_at on c.args.high v c.args.keys.now (c.loop-i.i - 1) 0 (omega arith) low
          (rw more at c.loop-i.invariant);
      within = omega arith;
    }
