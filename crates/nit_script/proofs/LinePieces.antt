-- Lines written piece by piece.
use Rattle.std.proofs.Common.{List, [], arith, ℕ, ◌%◌, ◌++◌, ◌/◌, ◌∷◌, ◌≡◌}
use Rattle.nit_script.proofs.Basics.{KeepsBytes, append-nil, hex, take-append_seam, take-length}
use Rattle.nit_script.specs.Spelling.{hex_digits}

pub ruleset ends = (append-nil)

-- six digits in base 16
pub six_digits : (c : ℕ) → hex_digits 6 c ≡ hex (c / 1048576 % 16) ∷ hex (c / 65536 % 16) ∷ hex (c / 4096 % 16)
    ∷ hex (c / 256 % 16) ∷ hex (c / 16 % 16) ∷ hex (c % 16) ∷ []
unfolding hex_digits
six_digits c =
    let two : c / 16 / 16 ≡ c / 256 = omega arith in
    let three : c / 256 / 16 ≡ c / 4096 = omega arith in
    let four : c / 4096 / 16 ≡ c / 65536 = omega arith in
    let five : c / 65536 / 16 ≡ c / 1048576 = omega arith in
    rw (two, three, four, five)

pub ruleset sixes = (six_digits)

-- bytes with more after them are kept
pub keeps_more : (xs ys zs : List ℕ) → zs ≡ xs ++ ys → KeepsBytes xs zs
keeps_more xs ys zs more = rw more (take-append_seam xs ys)

pub ruleset keeps = (take-length, keeps_more)
