use Rattle.std.proofs.Common.{get_or, length, map, take, ℕ, ◌<◌, ◌≡◌, ◌≤◌}
use Rattle.nit_c.proofs.Lemmas.{c_part, no_part}
use Rattle.nit_c.proofs.damage.damage_of.Given as goal

abbrev pub invariant-areas : goal.invariant-areas
invariant-areas l = record {
  long : length l.part ≡ 16;
  parts : take l.place l.part ≡ map c_part (take l.place l.areas);
  past : (k : ℕ) → l.place ≤ k → k < 16 → get_or l.part k no_part ≡ no_part;
}
