use Rattle.std.proofs.Common.{false, true, ℕ, ◌-◌, ◌<◌, ◌≡◌}
use Rattle.nit_labels.proofs.Lemmas.{IsAgainAbove, owner_at}
use Rattle.nit_labels.proofs.map.is_again.Given as goal

abbrev pub invariant-columns : goal.invariant-columns
invariant-columns l = record {
  again : l.same ≡ true → (x : ℕ) → x < l.x → owner_at l.own l.width x (l.y - 1) ≡ owner_at l.own l.width x l.y;
  other : l.same ≡ false → IsAgainAbove (owner_at l.own l.width) l.width l.y → ⊥;
}
