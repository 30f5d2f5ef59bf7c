-- Fields read from left to right, each as its value and the rest.
use Rattle.std.specs.Prelude.{ℕ, zero, suc, ◌+◌, ◌-◌, ◌*◌, ℤ, pos, negsuc, Bool, ◌&&◌, ◌||◌, not}
use Rattle.std.specs.Prelude.{List, [], ◌∷◌, length, take, drop, Option, Some, None, nat_lt, nat_le}
use Rattle.std.specs.Prelude.{nat_eq, ◌==◌, if◌then◌else◌, slice_index}
use Rattle.nit_script.specs.Below.{digits_value, is_ascii_digit, is_in_range, is_printable, is_text}
use Rattle.nit_script.specs.Below.{prefix_len, starts_with}
pub use Rattle.nit_rect.specs.Options.{◌>>=◌}

-- the first of two that is there
abbrev pub first_of : {A : Type 0} → Option A → Option A → Option A
first_of (Some x) y = Some x
first_of None y = y

-- what follows a byte
abbrev pub byte_at : ℕ → List ℕ → Option (List ℕ)
byte_at c [] = None
byte_at c (b ∷ rest) = if b == c then Some rest else None

-- what follows a word
abbrev pub word_at : List ℕ → List ℕ → Option (List ℕ)
word_at w bytes = if starts_with nat_eq bytes w then Some (drop (length w) bytes) else None

-- ---- readers made of others

-- no field
abbrev pub nothing_at : List ℕ → Option (Unit {0} × List ℕ)
nothing_at bytes = Some (tt, bytes)

-- a space, and then a field
abbrev pub at_spaced : {A : Type 0} → (List ℕ → Option (A × List ℕ)) → List ℕ → Option (A × List ℕ)
at_spaced f bytes = byte_at 32 bytes >>= f

-- one field, and then another
abbrev pub at_both : {A B : Type 0} → (List ℕ → Option (A × List ℕ))
    → (List ℕ → Option (B × List ℕ)) → List ℕ → Option ((A × B) × List ℕ)
at_both f g bytes = do
  x ← f bytes
  y ← g x.1
  Some ((x.0, y.0), y.1)

-- what is made of a field
abbrev pub at_made : {A B : Type 0} → (A → B) → (List ℕ → Option (A × List ℕ)) → List ℕ
    → Option (B × List ℕ)
at_made make f bytes = do
  x ← f bytes
  Some (make x.0, x.1)

-- a field that passes a test
abbrev pub at_tested : {A : Type 0} → (A → Bool) → (List ℕ → Option (A × List ℕ)) → List ℕ
    → Option (A × List ℕ)
at_tested test f bytes = do
  x ← f bytes
  if test x.0 then Some (x.0, x.1) else None

-- a word, and what is made of the fields after it
abbrev pub at_kind : {A L : Type 0} → List ℕ → (List ℕ → Option (A × List ℕ)) → (A → L) → List ℕ
    → Option (L × List ℕ)
at_kind w f make bytes = do
  fields ← word_at w bytes
  x ← f fields
  Some (make x.0, x.1)

-- a value with a line feed after it
abbrev pub at_ended : {L : Type 0} → (List ℕ → Option (L × List ℕ)) → List ℕ → Option (L × List ℕ)
at_ended f bytes = do
  x ← f bytes
  rest ← byte_at 10 x.1
  Some (x.0, rest)

-- ---- numbers

-- 1 to 9 digits, the first of several not 0
abbrev pub is_number : List ℕ → Bool
is_number ds =
    nat_lt 0 (length ds) && nat_le (length ds) 9
    && (not (slice_index ds 0 == 48) || (length ds == 1))

-- the digits in front, where they are a number
unfoldable pub nat_at : List ℕ → Option (ℕ × List ℕ)
nat_at bytes =
    let n = prefix_len is_ascii_digit bytes in
    if is_number (take n bytes) then Some (digits_value 10 (take n bytes), drop n bytes) else None

-- the number with a minus; 0 has none
abbrev pub negative : ℕ × List ℕ → Option (ℤ × List ℕ)
negative (zero, rest) = None
negative (suc n, rest) = Some (negsuc n, rest)

-- the number without one
abbrev pub positive : ℕ × List ℕ → Option (ℤ × List ℕ)
positive (n, rest) = Some (pos n, rest)

-- what follows a minus is a number below 0, and without a minus it is none
abbrev pub signed_at : List ℕ → Option (List ℕ) → Option (ℤ × List ℕ)
signed_at bytes (Some rest) = nat_at rest >>= negative
signed_at bytes None = nat_at bytes >>= positive

-- a number that may have a minus in front
unfoldable pub int_at : List ℕ → Option (ℤ × List ℕ)
int_at bytes = signed_at bytes (byte_at 45 bytes)

-- ---- colours

-- the value of a digit in base 16
abbrev pub hex_value : ℕ → Option ℕ
hex_value c =
    if is_in_range 48 57 c
    then Some (c - 48)
    else (if is_in_range 65 70 c then Some (c - 55) else None)

-- one digit in base 16
abbrev pub nibble_at : List ℕ → Option (ℕ × List ℕ)
nibble_at [] = None
nibble_at (b ∷ rest) = hex_value b >>= λ d. Some (d, rest)

-- six numbers below 16
abbrev pub Nibbles : Type 0
Nibbles = ℕ × (ℕ × (ℕ × (ℕ × (ℕ × ℕ))))

-- six digits in base 16
abbrev pub nibbles_at : List ℕ → Option (Nibbles × List ℕ)
nibbles_at =
    at_both nibble_at
    (at_both nibble_at (at_both nibble_at (at_both nibble_at (at_both nibble_at nibble_at))))

-- the number that they make
abbrev pub value_of_nibbles : Nibbles → ℕ
value_of_nibbles p =
    ((((p.0 * 16 + p.1.0) * 16 + p.1.1.0) * 16 + p.1.1.1.0) * 16 + p.1.1.1.1.0) * 16 + p.1.1.1.1.1

-- a colour
unfoldable pub colour_at : List ℕ → Option (ℕ × List ℕ)
colour_at = at_made value_of_nibbles nibbles_at

-- ---- texts

-- the printable bytes in front, where they are a text
unfoldable pub text_at : List ℕ → Option (List ℕ × List ℕ)
text_at bytes =
    let n = prefix_len is_printable bytes in
    if is_text (take n bytes) then Some (take n bytes, drop n bytes) else None

-- ---- fields of a line

-- a number after a space
abbrev pub nat_field : List ℕ → Option (ℕ × List ℕ)
nat_field = at_spaced nat_at

-- a number with a sign after a space
abbrev pub int_field : List ℕ → Option (ℤ × List ℕ)
int_field = at_spaced int_at

-- a colour after a space
abbrev pub colour_field : List ℕ → Option (ℕ × List ℕ)
colour_field = at_spaced colour_at

-- an equals sign, and the text directly after it
abbrev pub text_field : List ℕ → Option (List ℕ × List ℕ)
text_field bytes = byte_at 32 bytes >>= (byte_at 61) >>= text_at
