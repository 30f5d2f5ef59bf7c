-- A reader takes what is spelled so, and nothing else.
use Rattle.nit_script.proofs.Basics.{FitsColour, FitsInt, FitsNat, FitsText, Nibbles, and_parts}
use Rattle.nit_script.proofs.Basics.{at_both, at_ended, at_kind, at_made, at_spaced, at_tested}
use Rattle.nit_script.proofs.Basics.{byte_at, bytes_eq-Decides, colour, colour_field, cond_some}
use Rattle.nit_script.proofs.Basics.{decimal, decimal_is_IsNumeral, digit_at, drop_at, first_of}
use Rattle.nit_script.proofs.Basics.{get_or_append_left, hex, int, int_field, is_printable, is_text}
use Rattle.nit_script.proofs.Basics.{list_all, nat, nat_at, nat_field, nat_tests, ne_eqb, negative}
use Rattle.nit_script.proofs.Basics.{nibble_at, nibbles_at, not, not-true, nothing_at, prefix_len}
use Rattle.nit_script.proofs.Basics.{signed_at, signed_decimal, some_pair_parts, spelled}
use Rattle.nit_script.proofs.Basics.{starts_with, take-append-drop, take_at, text, text_field}
use Rattle.nit_script.proofs.Basics.{value_of_nibbles, word_at, ◌>>=◌}
use Rattle.std.proofs.Common.{Bool, List, None, Option, Some, [], ap, append_assoc, arith, get_or}
use Rattle.std.proofs.Common.{length, nat_eq, negsuc, pos, refl, suc, sym, take, true, zero, ℕ, ℤ}
use Rattle.std.proofs.Common.{◌%◌, ◌*◌, ◌++◌, ◌+◌, ◌/◌, ◌<◌, ◌∷◌, ◌≡◌}
use Rattle.nit_script.specs.FieldReaders.{colour_at, int_at, text_at}
use Rattle.nit_script.specs.Spelling.{hex_digits}
use Rattle.nit_script.proofs.Digits.{nat_again, nat_takes, stops}

-- What is read is spelled so, and fits.
abbrev pub Takes : {L : Type 0} → (List ℕ → Option (L × List ℕ)) → (L → List ℕ) → (L → Type 0) → Type 0
Takes {L = L} at spelling Fits = (bytes : List ℕ) (l : L) (rest : List ℕ) → at bytes ≡ Some (l, rest)
    → (bytes ≡ spelling l ++ rest) × Fits l

-- At bytes that do not stop it, a reader takes what text spells of a value that fits.
pub record Exact {A : Type 0} (at : List ℕ → Option (A × List ℕ)) (text : A → List ℕ) (Fits : A → Type 0) (stop : List ℕ
    → Bool) : Type 0 where
  pub takes : Takes at text Fits
  pub again : (x : A) (rest : List ℕ) → Fits x → stop rest ≡ true → at (text x ++ rest) ≡ Some (x, rest)

abbrev pub anything : List ℕ → Bool
anything rest = true

-- A kind of line is read exactly.
pub record IsKind {A L : Type 0} (at : List ℕ → Option (L × List ℕ)) (spelling : L → List ℕ) (Fits : L → Type 0)
    (stop : List ℕ → Bool) (make : A → L) : Type 0 where
  pub takes : Takes at spelling Fits
  pub again : (x : A) (rest : List ℕ) → Fits (make x) → stop rest ≡ true
      → at (spelling (make x) ++ rest) ≡ Some (make x, rest)

-- what was read before the step after it
through : {A B P : Type 0} (o : Option A) (f : A → Option B) (y : B) → (o >>= f) ≡ Some y
    → ((x : A) → o ≡ Some x → f x ≡ Some y → P) → P
through (Some x) f y e next = next x refl e
through None f y e next = cc

-- ---- bytes and words

byte_takes : (c : ℕ) (bytes rest : List ℕ) → byte_at c bytes ≡ Some rest → bytes ≡ c ∷ rest
byte_takes c [] rest e = cc
byte_takes c (b ∷ bytes) rest e = grind (arith, nat_tests)

word_takes : (w bytes rest : List ℕ) → word_at w bytes ≡ Some rest → bytes ≡ w ++ rest
word_takes w bytes rest e =
    let (same, behind) = cond_some (starts_with nat_eq bytes w) _ _ e in
    let front : w ≡ take (length w) bytes = (bytes_eq-Decides w _).0 same in
    cc (take-append-drop (length w) bytes)

word_again : (w rest : List ℕ) → word_at w (w ++ rest) ≡ Some rest
word_again w rest =
    rw ((bytes_eq-Decides w _).1 (sym (take_at w rest (length w) refl)), drop_at w rest (length w) refl)

-- ---- what is taken by readers made of others

pub first_takes : {L : Type 0} (f g : List ℕ → Option (L × List ℕ)) (spelling : L → List ℕ) (Fits : L → Type 0)
    → Takes f spelling Fits → Takes g spelling Fits → Takes (λ bytes. first_of (f bytes) (g bytes)) spelling Fits
first_takes f g spelling Fits p q bytes l rest e = grind (arith, p bytes l rest, q bytes l rest)

pub made_takes : {A L : Type 0} (f : List ℕ → Option (A × List ℕ)) (t : A → List ℕ) (F : A → Type 0) (make : A
    → L) (spelling : L → List ℕ) (Fits : L → Type 0)
    → Takes f t F → ((x : A) → t x ≡ spelling (make x)) → ((x : A) → F x → Fits (make x))
    → Takes (at_made make f) spelling Fits
made_takes f t F make spelling Fits p is there bytes l rest e =
    through (f bytes) _ _ e λ x read made.
    let (same, after) = some_pair_parts _ _ _ _ made in
    let (whole, fits) = p bytes x.0 x.1 read in
    rw (← same, ← after, ← is x.0) (whole, there x.0 fits)

pub ended_takes : {L : Type 0} (f : List ℕ → Option (L × List ℕ)) (spelling : L → List ℕ) (Fits : L → Type 0)
    → Takes f spelling Fits → Takes (at_ended f) (spelled spelling) Fits
ended_takes f spelling Fits p bytes l rest e =
    through (f bytes) _ _ e λ x read ended. through (byte_at 10 x.1) _ _ ended λ r feed made.
    let (same, after) = some_pair_parts _ _ _ _ made in
    rw (← same, ← after, append_assoc, ← byte_takes 10 x.1 r feed) (p bytes x.0 x.1 read)

-- what is read up to the line feed is read with it
pub ended_again : {L : Type 0} (f : List ℕ → Option (L × List ℕ)) (spelling : L → List ℕ) (l : L) (rest : List ℕ)
    → f (spelling l ++ 10 ∷ rest) ≡ Some (l, 10 ∷ rest) → at_ended f (spelled spelling l ++ rest) ≡ Some (l, rest)
ended_again f spelling l rest e = rw (append_assoc (spelling l) (10 ∷ []) rest, e)

-- ---- one reader from others

pub nothing : Exact nothing_at (λ _. []) (λ _. Unit {0}) anything
nothing = record { takes = λ bytes x rest e. ((some_pair_parts _ _ _ _ e).1, tt); again = λ x rest fits ok. refl }

module _ {A : Type 0} {f : List ℕ → Option (A × List ℕ)} {t : A → List ℕ} {F : A → Type 0} {s : List ℕ → Bool}
    (inner : Exact f t F s) where
  pub spaced : Exact (at_spaced f) (λ x. 32 ∷ t x) F s
  spaced = record {
    takes = λ bytes x rest e.
        through (byte_at 32 bytes) _ _ e λ after space read.
        let (is, fits) = inner.takes after x rest read in
        rw (byte_takes 32 bytes after space, is) (refl, fits);
    again = inner.again;
  }

  pub tested : (test : A → Bool) (G : A → Type 0) → ((x : A) → test x ≡ true → G x)
      → ((x : A) → G x → F x × (test x ≡ true)) → Exact (at_tested test f) t G s
  tested test G there back = record {
    takes = λ bytes x rest e.
        through (f bytes) _ _ e λ y read made.
        let (passed, is) = cond_some (test y.0) _ _ made in
        rw (← ap (λ p. p.0) is, ← ap (λ p. p.1) is) ((inner.takes bytes y.0 y.1 read).0, there y.0 passed);
    again = λ x rest fits ok. let (fits, passes) = back x fits in rw (inner.again x rest fits ok, passes);
  }

  -- a word, and what is made of the fields after it
  pub word_made : {L : Type 0} (spelling : L → List ℕ) (Fits : L → Type 0) (w : List ℕ) (make : A → L)
      → ((x : A) → F x → (w ++ t x ≡ spelling (make x)) × Fits (make x)) → Takes (at_kind w f make) spelling Fits
  word_made spelling Fits w make there bytes l rest e =
      through (word_at w bytes) _ _ e λ behind word e'. through (f behind) _ _ e' λ x read made.
      let (same, after) = some_pair_parts _ _ _ _ made in
      let (middle, fits) = inner.takes behind x.0 x.1 read in
      let (is, fits') = there x.0 fits in
      rw (← same, ← after, ← is, append_assoc, ← middle) (word_takes w bytes behind word, fits')

  pub kind : {L : Type 0} (spelling : L → List ℕ) (Fits : L → Type 0) (w : List ℕ) (make : A → L)
      → ((x : A) → F x → Fits (make x)) → ((x : A) → Fits (make x) → F x) → ((x : A) → w ++ t x ≡ spelling (make x))
      → IsKind (at_kind w f make) spelling Fits s make
  kind spelling Fits w make there back is = record {
    takes = word_made spelling Fits w make (λ x h. (is x, there x h));
    again = λ x rest fits ok.
        rw (← is x, append_assoc w (t x) rest, word_again w (t x ++ rest), inner.again x rest (back x fits) ok);
  }

pub both : {A B : Type 0} {f : List ℕ → Option (A × List ℕ)} {g : List ℕ → Option (B × List ℕ)} {t : A → List ℕ} {u : B
    → List ℕ} {F : A → Type 0} {G : B → Type 0} {s r : List ℕ → Bool}
    → Exact f t F s → Exact g u G r → ((y : B) (rest : List ℕ) → r rest ≡ true → s (u y ++ rest) ≡ true)
    → Exact (at_both f g) (λ p. t p.0 ++ u p.1) (λ p. F p.0 × G p.1) r
both {f = f} {g = g} {t = t} {u = u} first second joins = record {
  takes = λ bytes x rest e.
      through (f bytes) _ _ e λ a read e'. through (g a.1) _ _ e' λ b read' made.
      let (same, after) = some_pair_parts _ _ _ _ made in
      let (p, fits) = first.takes bytes a.0 a.1 read in
      let (q, fits') = second.takes a.1 b.0 b.1 read' in
      rw (← same, ← after, append_assoc, ← q) (p, (fits, fits'));
  again = λ x rest fits ok.
      rw (
        append_assoc (t x.0) (u x.1) rest,
        first.again x.0 (u x.1 ++ rest) fits.0 (joins x.1 rest ok),
        second.again x.1 rest fits.1 ok,
      );
}

-- ---- numbers and colours

natural : Exact nat_at decimal FitsNat stops
natural = record { takes = nat_takes; again = nat_again }

nibble : Exact nibble_at (λ d. hex d ∷ []) (λ d. d < 16) anything
nibble = record { takes = nibble_takes; again = λ d rest fits ok. grind (arith, nat_tests) }
  where
    nibble_takes : Takes nibble_at (λ d. hex d ∷ []) (λ d. d < 16)
    nibble_takes [] d rest e = cc
    nibble_takes (b ∷ bytes) d rest e = grind (arith, nat_tests)

negative_takes : (bytes : List ℕ) (n : ℕ × List ℕ) (z : ℤ) (rest : List ℕ) → nat_at bytes ≡ Some n
    → negative n ≡ Some (z, rest) → (45 ∷ bytes ≡ signed_decimal z ++ rest) × FitsInt z
negative_takes bytes (zero, behind) z rest read e = cc
negative_takes bytes (suc n, behind) z rest read e =
    let (same, after) = some_pair_parts _ _ _ _ e in
    let (whole, fits) = nat_takes bytes (suc n) behind read in
    rw (← same, ← after) (ap (λ r. 45 ∷ r) whole, fits)

by_sign_takes : (bytes : List ℕ) (o : Option (List ℕ)) (z : ℤ) (rest : List ℕ) → byte_at 45 bytes ≡ o
    → signed_at bytes o ≡ Some (z, rest) → (bytes ≡ signed_decimal z ++ rest) × FitsInt z
by_sign_takes bytes (Some r) z rest found e =
    through (nat_at r) _ _ e λ n read signed.
    rw (byte_takes 45 bytes r found) (negative_takes r n z rest read signed)
by_sign_takes bytes None z rest found e =
    through (nat_at bytes) _ _ e λ n read signed.
    let (same, after) = some_pair_parts _ _ _ _ signed in
    rw (← same, ← after) (nat_takes bytes n.0 n.1 read)

byte_none : (c : ℕ) (bytes : List ℕ) → (get_or bytes 0 0 ≡ c → ⊥) → byte_at c bytes ≡ None
byte_none c [] other = refl
byte_none c (b ∷ bytes) other = rw (ne_eqb b c other)

signed_again : (z : ℤ) (rest : List ℕ) → FitsInt z → stops rest ≡ true → int_at (signed_decimal z ++ rest)
    ≡ Some (z, rest)
unfolding int_at
signed_again (pos n) rest fits ok =
    let is = decimal_is_IsNumeral n (omega arith) in
    let digit = digit_at (decimal n) 0 is.0.1 is.0.0 in
    rw (
      byte_none 45 (decimal n ++ rest) (omega (arith, digit, get_or_append_left (decimal n) rest 0 0 is.0.0)),
      nat_again n rest fits ok,
    )
signed_again (negsuc n) rest fits ok = rw (nat_again (suc n) rest fits ok)

integer : Exact int_at signed_decimal FitsInt stops
unfolding int_at
integer = record {
  takes = λ bytes z rest e. by_sign_takes bytes (byte_at 45 bytes) z rest refl e;
  again = signed_again;
}

abbrev AreNibbles : Nibbles → Type 0
AreNibbles p = (p.0 < 16) × ((p.1.0 < 16)
    × ((p.1.1.0 < 16) × ((p.1.1.1.0 < 16) × ((p.1.1.1.1.0 < 16) × (p.1.1.1.1.1 < 16)))))

abbrev nibbles_text : Nibbles → List ℕ
nibbles_text p = hex p.0 ∷ hex p.1.0 ∷ hex p.1.1.0 ∷ hex p.1.1.1.0 ∷ hex p.1.1.1.1.0 ∷ hex p.1.1.1.1.1 ∷ []

nibbles : Exact nibbles_at nibbles_text AreNibbles anything
nibbles = both nibble (both nibble
    (both nibble (both nibble (both nibble nibble (λ _ _ _. refl)) (λ _ _ _. refl)) (λ _ _ _. refl)) (λ _ _ _. refl))
    (λ _ _ _. refl)

-- one more digit at the end
onto : (k q r : ℕ) (ds : List ℕ) → r < 16 → hex_digits k q ≡ ds → hex_digits (suc k) (q * 16 + r) ≡ ds ++ hex r ∷ []
unfolding hex_digits
onto k q r ds lt e =
    let over : (q * 16 + r) / 16 ≡ q = omega arith in
    let last : (q * 16 + r) % 16 ≡ r = omega arith in
    rw (over, last, e)

nibbles_are : (p : Nibbles) → AreNibbles p → hex_digits 6 (value_of_nibbles p) ≡ nibbles_text p
unfolding hex_digits
nibbles_are p h =
    let last : p.0 % 16 ≡ p.0 = omega (arith, h.0) in
    let one : hex_digits 1 p.0 ≡ hex p.0 ∷ [] = rw last in
    onto 5 _ _ _ h.1.1.1.1.1 (onto 4 _ _ _ h.1.1.1.1.0
    (onto 3 _ _ _ h.1.1.1.0 (onto 2 _ _ _ h.1.1.0 (onto 1 _ _ _ h.1.0 one))))

abbrev nibbles_of : ℕ → Nibbles
nibbles_of c = (
  c / 16 / 16 / 16 / 16 / 16,
  (c / 16 / 16 / 16 / 16 % 16, (c / 16 / 16 / 16 % 16, (c / 16 / 16 % 16, (c / 16 % 16, c % 16)))),
)

colours_in_front : Exact colour_at (hex_digits 6) FitsColour anything
unfolding colour_at
colours_in_front = record {
  takes = λ bytes c rest e.
      through (nibbles_at bytes) _ _ e λ p read made.
      let (same, after) = some_pair_parts _ _ _ _ made in
      let (whole, are) = nibbles.takes bytes p.0 p.1 read in
      rw (← same, ← after, nibbles_are p.0 are) (whole, omega arith);
  again = λ c rest fits ok.
      let are : AreNibbles (nibbles_of c) = omega arith in
      let same : value_of_nibbles (nibbles_of c) ≡ c = omega arith in
      let spelled : hex_digits 6 c ≡ nibbles_text (nibbles_of c) = rw same at (nibbles_are (nibbles_of c) are) in
      rw (spelled, nibbles.again (nibbles_of c) rest are ok, same);
}

-- ---- texts

-- no printable byte stands first
abbrev pub stops_text : List ℕ → Bool
stops_text [] = true
stops_text (b ∷ rest) = not (is_printable b)

prefix_printable : (t rest : List ℕ) → list_all is_printable t ≡ true → stops_text rest ≡ true
    → prefix_len is_printable (t ++ rest) ≡ length t
prefix_printable [] [] all s = refl
prefix_printable [] (b ∷ rest) all s = rw (not-true _ s)
prefix_printable (c ∷ t) rest all s =
    let (is, more) = and_parts (is_printable c) _ all in
    rw (is, prefix_printable t rest more s) (omega arith)

text_again : (t rest : List ℕ) → FitsText t → stops_text rest ≡ true → text_at (t ++ rest) ≡ Some (t, rest)
unfolding text_at
text_again t rest fits ok =
    let k = prefix_printable t rest (and_parts _ _ fits).1 ok in
    rw (k, take_at t rest (length t) refl, drop_at t rest (length t) refl, fits)

texts : Exact text_at (λ t. t) FitsText stops_text
unfolding text_at
texts = record {
  takes = λ bytes t rest e.
      let (fits, is) = cond_some (is_text (take (prefix_len is_printable bytes) bytes)) _ _ e in
      rw (← ap (λ p. p.0) is, ← ap (λ p. p.1) is) (sym (take-append-drop (prefix_len is_printable bytes) bytes), fits);
  again = text_again;
}

-- ---- fields of a line

pub nat_fields : Exact nat_field nat FitsNat stops
nat_fields = spaced natural

pub int_fields : Exact int_field int FitsInt stops
int_fields = spaced integer

pub colour_fields : Exact colour_field colour FitsColour anything
colour_fields = spaced colours_in_front

pub text_fields : Exact text_field text FitsText stops_text
text_fields = record {
  takes = λ bytes t rest e.
      through (byte_at 32 bytes >>= byte_at 61) _ _ e λ inside is read.
      through (byte_at 32 bytes) _ _ is λ behind space equals.
      let (front, fits) = texts.takes inside t rest read in
      rw (byte_takes 32 bytes behind space, byte_takes 61 behind inside equals, front) (refl, fits);
  again = texts.again;
}

-- a number in front of a field
module _ {B : Type 0} {g : List ℕ → Option (B × List ℕ)} {u : B → List ℕ} {G : B → Type 0} {r : List ℕ → Bool}
    (behind : Exact g (λ y. 32 ∷ u y) G r) where
  pub nat_then : Exact (at_both nat_field g) (λ p. nat p.0 ++ 32 ∷ u p.1) (λ p. FitsNat p.0 × G p.1) r
  nat_then = both nat_fields behind (λ _ _ _. refl)

  pub int_then : Exact (at_both int_field g) (λ p. int p.0 ++ 32 ∷ u p.1) (λ p. FitsInt p.0 × G p.1) r
  int_then = both int_fields behind (λ _ _ _. refl)
