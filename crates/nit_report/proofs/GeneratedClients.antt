-- Digits, titles, and that the configuration of a generated run is within the ranges of the format.
use Rattle.std.proofs.Common.{IsTrue, [], ap, arith, drop, get_or, le-leb, length, length-append}
use Rattle.std.proofs.Common.{map, refl, true, ℕ, ◌%◌, ◌+◌, ◌/◌, ◌<◌, ◌^◌, ◌∷◌, ◌≡◌, ◌≢◌, ◌≤◌}
use Rattle.nit_report.proofs.Basics.{IsRunConfiguration, IsRunMember, Member, cases_lt, decimal}
use Rattle.nit_report.proofs.Basics.{decimal_digit, decimal_injective, decimal_step, false≢true}
use Rattle.nit_report.proofs.Basics.{generated_member, get_or-map-range_with_len, is_printable}
use Rattle.nit_report.proofs.Basics.{is_text, length-decimal-le, range_with_len}
use Rattle.nit_report.specs.Generator.{generated_configuration}

-- ---- how many digits a number has in decimal

pub one_digit : (n : ℕ) → n < 10 → length (decimal n) ≡ 1
one_digit n lt = rw (decimal_digit n lt) refl

pub one_digit_more : (n : ℕ) → 10 ≤ n → n < 2 ^ 64 → length (decimal n) ≡ length (decimal (n / 10)) + 1
one_digit_more n le lt = rw (decimal_step n le lt) (length-append (decimal (n / 10)) ((48 + n % 10) ∷ []))

pub few_digits : (n : ℕ) → n < 2 ^ 32 → length (decimal n) ≤ 10
few_digits n lt = length-decimal-le 10 n (omega arith) (omega arith) (omega arith)

-- ---- the titles of generated views

-- a digit is printable
pub digit_is_printable : (d : ℕ) → d < 10 → is_printable (48 + d) ≡ true
digit_is_printable d lt = grind (arith, le-leb)

pub is_title : (v : ℕ) → v ≤ 99 → (length (decimal v) ≤ 2) × IsTrue (is_text (119 ∷ decimal v))
is_title v few = grind (arith, cases_lt v 10, decimal_digit, decimal_step, digit_is_printable)

-- ---- the configuration of a generated run is within the ranges of the format

member_configured : (c : ℕ) → c < 8 → IsRunMember (generated_member c)
member_configured c few = record {
  label = rw (decimal_digit c (omega arith)) (grind (arith, le-leb));
  donation = (omega arith, omega arith);
  script = rw (decimal_digit c (omega arith), digit_is_printable c (omega arith)) refl;
  layer = omega arith;
}

-- the client of a number
client_at : (k : ℕ) (d : Member) → k < 8 → get_or (map generated_member (range_with_len 0 8)) k d ≡ generated_member k
client_at k d few = get_or-map-range_with_len generated_member 0 8 k k d few (omega arith)

pub generated_is_configured : IsRunConfiguration generated_configuration
unfolding generated_configuration
generated_is_configured = record {
  width = (omega arith, omega arith);
  height = (omega arith, omega arith);
  lettering = (omega arith, omega arith);
  bar = omega arith;
  input = refl;
  count = (omega arith, omega arith);
  clients = λ k d few. rw (client_at k d few) (member_configured k few);
  labels = λ i j d less few same.
      let e = ap (drop 1) (rw (client_at i d (omega arith), client_at j d few) at same) in
      omega (arith, decimal_injective i j (omega arith) (omega arith) e);
}
