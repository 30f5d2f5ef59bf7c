-- Words that are all 0.
use Rattle.std.proofs.Common.{arith, inl, inr, length, refl, replicate, ℕ, ◌++◌, ◌+◌, ◌≡◌}
use Rattle.nit_word.proofs.Basics.{Ink, IsInked, cases_lt, get_or-replicate, get_or_past}
use Rattle.nit_word.proofs.Basics.{length-replicate, replicate-append-replicate, slice_index}
use Rattle.nit_word.specs.Zeros.{zeros}

pub length-zeros : (n : ℕ) → length (zeros n) ≡ n
unfolding zeros
length-zeros n = length-replicate n 0

-- the word at any place is 0, also after the last one
pub zero_at : (n i : ℕ) → slice_index (zeros n) i ≡ 0
unfolding zeros
zero_at n i = elim (cases_lt i n) [
  | inl inside ↦ get_or-replicate n i 0 0 inside
  | inr past ↦ get_or_past (replicate n 0) i 0 (omega (arith, length-replicate {A = ℕ} n 0))
]

-- so it is in every ink
pub zero_inked : (ink : Ink) (at n i : ℕ) → IsInked ink at (slice_index (zeros n) i)
zero_inked ink at n i = rw (zero_at n i) refl

-- more of them
pub zeros_joined : (m n : ℕ) → zeros m ++ zeros n ≡ zeros (m + n)
unfolding zeros
zeros_joined m n = replicate-append-replicate m n 0
