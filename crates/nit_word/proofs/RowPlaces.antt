-- Places among rows, one after the other: the column and the row of each.
use Rattle.std.proofs.Common.{arith, ℕ, ◌%◌, ◌*◌, ◌+◌, ◌/◌, ◌<◌, ◌≤◌}
use Rattle.nit_word.proofs.Basics.{div-add-mod', div-lt_iff_lt-mul, mod_below, mul-le-mul_right}

-- a place among the rows is in one of the columns and in one of the rows
pub column_and_row : (width height k : ℕ) → k < width * height → (k % width < width) × (k / width < height)
column_and_row width height k lt =
    let some : 0 < width = grind arith in
    (omega arith, (div-lt_iff_lt-mul some).1 (omega arith))

-- a place in a row above another lies before it
pub before_row : (n w j : ℕ) → 0 < w → n / w < j → n < j * w
before_row n w j some higher =
    let rows : (n / w + 1) * w ≤ j * w = mul-le-mul_right w (omega arith) in
    omega (arith, div-add-mod' n w, mod_below n w some)
