-- Bytes that are filled up with 0.
use Rattle.std.proofs.Common.{List, arith, drop, length, length-append, replicate, subst, sym, take}
use Rattle.std.proofs.Common.{true, ℕ, ◌++◌, ◌∙◌, ◌≡◌, ◌≤◌}
use Rattle.nit_events.proofs.Basics.{HasZerosBehind, and_parts, drop-append_seam, drop-replicate}
use Rattle.nit_events.proofs.Basics.{is_text, leb-true, take-append_seam}

-- an array of 40 zeros whose beginning was written
pub zeros_behind : (bytes copy : List ℕ) → is_text bytes ≡ true → copy ≡ bytes
    → HasZerosBehind (copy ++ drop (length bytes) (replicate 40 0)) (length bytes)
    × (is_text (take (length bytes) (copy ++ drop (length bytes) (replicate 40 0))) ≡ true)
zeros_behind bytes copy is same =
    let few : length bytes ≤ 40 = leb-true _ _ (and_parts _ _ is).0 in
    let tail : List ℕ = drop (length bytes) (replicate 40 0) in
    subst (λ (c : List ℕ). HasZerosBehind (c ++ tail) (length bytes)
    × (is_text (take (length bytes) (c ++ tail)) ≡ true)) (sym same) (
      record {
        fits = omega (arith, length-append bytes tail);
        zeros = drop-append_seam bytes tail
            ∙ drop-replicate (length bytes) 40 0;
      },
      rw (take-append_seam bytes tail) is,
    )
