-- Digits in front of bytes, and the numbers that they spell.
use Rattle.std.proofs.Common.{Bool, List, Some, [], ap, arith, get_or, length, refl, suc, sym, take}
use Rattle.std.proofs.Common.{true, zero, ℕ, ◌*◌, ◌++◌, ◌+◌, ◌-◌, ◌<◌, ◌^◌, ◌∷◌, ◌≡◌, ◌≤◌}
use Rattle.nit_script.proofs.Basics.{AllDigits, append-nil, cond_some, decimal}
use Rattle.nit_script.proofs.Basics.{decimal-digits_value, decimal_digit, decimal_is_IsNumeral}
use Rattle.nit_script.proofs.Basics.{digit_at, digit_from_value, digit_value_digit, digits_value}
use Rattle.nit_script.proofs.Basics.{digits_value-take-le, digits_value_more, digits_value_short}
use Rattle.nit_script.proofs.Basics.{drop_at, first_decimal, is_ascii_digit, is_number}
use Rattle.nit_script.proofs.Basics.{length-decimal-le, length-prefix_len, nat_tests, not, not-true}
use Rattle.nit_script.proofs.Basics.{numerals_by_value, prefix_len, prefix_len-le-length}
use Rattle.nit_script.proofs.Basics.{take-append-drop, take_at, take_while-cons, tells_digits}
use Rattle.nit_script.specs.FieldReaders.{nat_at}

-- what stands in front are digits
pub front_digits : (bytes : List ℕ) → AllDigits 10 (take (prefix_len is_ascii_digit bytes) bytes)
front_digits [] = tt
front_digits (b ∷ bytes) =
    rw (take_while-cons is_ascii_digit b bytes) (grind (arith, nat_tests, digit_value_digit b, front_digits bytes))

-- digits have no more than nine places
pub below_billion : (ds : List ℕ) → AllDigits 10 ds → length ds ≤ 9 → digits_value 10 ds < 10 ^ 9
below_billion ds all few = digits_value_short (numerals_by_value _ tells_digits) ds 9 all few

-- the value after one more digit
pub next_value : (ds : List ℕ) (i v : ℕ) → AllDigits 10 ds → length ds ≤ 9 → i < length ds
    → v ≡ digits_value 10 (take i ds) → (v * 10 + (get_or ds i 0 - 48) ≡ digits_value 10 (take (i + 1) ds))
    × (v * 10 + (get_or ds i 0 - 48) < 10 ^ 9) × (48 ≤ get_or ds i 0)
next_value ds i v all few lt is =
    let range = digit_at ds i all lt in
    let digit = digit_value_digit (get_or ds i 0) range in
    let more = digits_value_more 10 ds i lt in
    let below = below_billion ds all few in
    (omega arith, omega (arith, digits_value-take-le 10 ds (i + 1) (omega arith)), range.0)

pub ruleset values = (next_value, below_billion, digits_value-take-le)

-- no digit stands first
abbrev pub stops : List ℕ → Bool
stops [] = true
stops (b ∷ rest) = not (is_ascii_digit b)

prefix_digits : (ds rest : List ℕ) → AllDigits 10 ds → stops rest ≡ true → prefix_len is_ascii_digit (ds ++ rest)
    ≡ length ds
prefix_digits [] [] all s = refl
prefix_digits [] (b ∷ rest) all s = rw (not-true _ s)
prefix_digits (d ∷ ds) rest all s = grind (arith, nat_tests, digit_from_value d all.0, prefix_digits ds rest all.1 s)

pub number_parts : (ds : List ℕ) → is_number ds ≡ true → (0 < length ds) × (length ds ≤ 9)
    × (get_or ds 0 0 ≡ 48 → length ds ≡ 1)
number_parts ds h = (grind (arith, nat_tests), grind (arith, nat_tests), grind (arith, nat_tests))

-- what is read as a number is spelled so
pub nat_takes : (bytes : List ℕ) (n : ℕ) (rest : List ℕ) → nat_at bytes ≡ Some (n, rest) → (bytes ≡ decimal n ++ rest)
    × (n < 10 ^ 9)
unfolding nat_at
nat_takes bytes n rest e =
    let ds = take (prefix_len is_ascii_digit bytes) bytes in
    let (is, same) = cond_some (is_number ds) _ _ e in
    let (some, few, first) = number_parts ds is in
    let below = below_billion ds (front_digits bytes) few in
    let own = numerals_by_value _ tells_digits in
    let text = decimal-digits_value own ds (front_digits bytes) some first (omega (arith, below)) in
    rw (← ap (λ p. p.0) same, ← ap (λ p. p.1) same, text) (sym (take-append-drop _ bytes), below)

nonzero_first : (n : ℕ) → n < 10 ^ 9 → get_or (decimal n) 0 0 ≡ 48 → length (decimal n) ≡ 1
nonzero_first zero lt e = rw (decimal_digit 0 (omega arith))
nonzero_first (suc n) lt e = absurd (omega (arith, first_decimal (suc n) (omega arith) (omega arith)))

-- what is spelled as a number is read so
pub nat_again : (n : ℕ) (rest : List ℕ) → n < 10 ^ 9 → stops rest ≡ true → nat_at (decimal n ++ rest) ≡ Some (n, rest)
unfolding nat_at
nat_again n rest lt s =
    let is = decimal_is_IsNumeral n (omega arith) in
    let few = length-decimal-le 9 n (omega arith) lt (omega arith) in
    let first = nonzero_first n lt in
    let number : is_number (decimal n) ≡ true = grind (arith, nat_tests, is.0.0) in
    rw (
      prefix_digits (decimal n) rest is.0.1 s,
      take_at (decimal n) rest (length (decimal n)) refl,
      drop_at (decimal n) rest (length (decimal n)) refl,
      number,
      is.1,
    )

pub ruleset front = (prefix_len-le-length, length-prefix_len)

pub ruleset digits = (front_digits, prefix_len-le-length, length-prefix_len, number_parts)

-- a whole text that is a number
pub number_found : (text : List ℕ) (n : ℕ) (rest : List ℕ) → nat_at text ≡ Some (n, rest) → rest ≡ []
    → (n < 10 ^ 9) × (text ≡ decimal n)
number_found text n rest e none = let (is, fits) = nat_takes text n rest e in (fits, rw (none, append-nil) at is)

pub number_read : (text : List ℕ) (n : ℕ) → n < 10 ^ 9 → text ≡ decimal n → nat_at text ≡ Some (n, [])
number_read text n lt e = rw e (rw append-nil at (nat_again n [] lt refl))
