-- Texts of a script.
use Rattle.std.specs.Prelude.{◌≡◌, ℕ, ◌-◌, ◌≤◌, Bool, ◌&&◌, nat_le, List, ◌++◌, length, take, drop}
use Rattle.std.specs.Prelude.{replicate}
use Rattle.nit_events.specs.Below.{first_printable, last_printable, list_all}
use Rattle.std.proofs.Common.{ap, sym, ◌∙◌}
use Rattle.std.proofs.lemmas.List.{length-take-le, take-append-drop}

-- a byte of printable ASCII
abbrev pub is_printable : ℕ → Bool
is_printable b = nat_le first_printable b && nat_le b last_printable

-- how many bytes a text has at most
abbrev pub most_text : ℕ
most_text = 40

-- at most 40 printable bytes
abbrev pub is_text : List ℕ → Bool
is_text bytes = nat_le (length bytes) most_text && list_all is_printable bytes

-- bytes, and after them as many that are 0 as a text has room for
abbrev pub with_zeros : List ℕ → List ℕ
with_zeros bytes = bytes ++ replicate (most_text - length bytes) 0

-- after its first `len` bytes, an array of 40 is filled with 0
pub record HasZerosBehind (bytes : List ℕ) (len : ℕ) : Type 0 where
  pub fits : len ≤ length bytes
  pub zeros : drop len bytes ≡ replicate (most_text - len) 0

-- so its first bytes give the array again
pub length_again : (bytes : List ℕ) (len : ℕ) → HasZerosBehind bytes len
    → length (take len bytes) ≡ len
length_again bytes len p = length-take-le len bytes p.fits

pub bytes_again : (bytes : List ℕ) (len : ℕ) → HasZerosBehind bytes len
    → take len bytes ++ replicate (most_text - length (take len bytes)) 0 ≡ bytes
bytes_again bytes len p =
    ap (λ (n : ℕ). take len bytes ++ replicate (most_text - n) 0) (length_again bytes len p)
    ∙ ap (λ (zs : List ℕ). take len bytes ++ zs) (sym p.zeros) ∙ take-append-drop len bytes
