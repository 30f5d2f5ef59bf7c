-- The lines of a script, one after the other, and that only one answer fits the bytes.
use Rattle.std.proofs.Common.{Bool, Err, List, None, Ok, Option, Result, Some, [], ap, append_assoc}
use Rattle.std.proofs.Common.{arith, eqb, false, length, refl, sym, ℕ, ◌++◌, ◌+◌, ◌∙◌, ◌∷◌, ◌≡◌}
use Rattle.std.proofs.Common.{◌≤◌}
use Rattle.nit_script.proofs.Basics.{AllByRecursion, Bad, Begins, BeginsWith, Gives, Global}
use Rattle.nit_script.proofs.Basics.{HasNoReading, HasOneReading, IfOk, IsFirstBad, IsOkAnd}
use Rattle.nit_script.proofs.Basics.{IsScriptAnswer, IsTooLong, MatchOption, NoMemory, Reads}
use Rattle.nit_script.proofs.Basics.{ScriptError, TooLong, UnlessMemory, Vec, append-nil, flat_map}
use Rattle.nit_script.proofs.Basics.{flat_map-append, length-append, length_push, nil_from_length}
use Rattle.nit_script.proofs.Basics.{some_pair_parts, spelled, true≢false}
use Rattle.nit_script.proofs.Exact.{Takes}

-- Lines are read exactly, each with its line feed.
pub record IsReader {L : Type 0} (Fits : L → Type 0) (spelling : L → List ℕ) (at : List ℕ → Option (L × List ℕ)) : Type
    0 where
  pub takes : Takes at (spelled spelling) Fits
  pub again : (l : L) (rest : List ℕ) → Fits l → at (spelled spelling l ++ rest) ≡ Some (l, rest)

module _ {L : Type 0} {Fits : L → Type 0} {spelling : L → List ℕ} {at : List ℕ → Option (L × List ℕ)}
    (g : IsReader Fits spelling at) where
  -- a line that is read is spelled in front
  pub taken_begins : (bytes : List ℕ) (l : L) (rest : List ℕ) → at bytes ≡ Some (l, rest)
      → BeginsWith Fits spelling bytes l rest
  taken_begins bytes l rest e = let (is, fits) = g.takes bytes l rest e in (fits, is)

  -- where no line is read, none is spelled
  pub no_reading : (bytes : List ℕ) → at bytes ≡ None → HasNoReading Fits spelling bytes
  no_reading bytes none l rest fits e = cc (g.again l rest fits)

  -- what a reader returns is the line in front
  pub in_front : {X : Type 0} (view : X → L × List ℕ) (bytes : List ℕ) (o : Option X) → Gives view o (at bytes)
      → MatchOption o (HasNoReading Fits spelling bytes) (λ x. BeginsWith Fits spelling bytes (view x).0 (view x).1)
  in_front view bytes (Some x) e = taken_begins bytes (view x).0 (view x).1 e
  in_front view bytes None e = no_reading bytes e

  -- a reader finds one line in front of bytes at most
  pub one_reading : HasOneReading Fits spelling
  one_reading = record {
    same = λ bytes a b r s p q. some_pair_parts a b r s (cc (g.again a r p.0, g.again b s q.0, p.1, q.1));
  }

-- ---- a line more

pub nothing_spelled : {L : Type 0} (spelling : L → List ℕ) (l : L) (rest : List ℕ) → [] ≡ spelled spelling l ++ rest → ⊥
nothing_spelled spelling l rest e =
    absurd (omega (arith, ap length e, length-append (spelled spelling l) rest, length-append (spelling l) (10 ∷ [])))

pub fits_push : {L : Type 0} (Fits : L → Type 0) (lines : List L) (l : L) → AllByRecursion Fits lines → Fits l
    → AllByRecursion Fits (lines ++ l ∷ [])
fits_push Fits [] l all fits = (fits, tt)
fits_push Fits (x ∷ lines) l all fits = (all.0, fits_push Fits lines l all.1 fits)

pub begins_more : {L : Type 0} (Fits : L → Type 0) (spelling : L → List ℕ) (bytes : List ℕ) (lines : List L)
    (rest : List ℕ) (l : L) (after : List ℕ)
    → Begins Fits spelling bytes lines rest → BeginsWith Fits spelling rest l after
    → Begins Fits spelling bytes (lines ++ l ∷ []) after
begins_more Fits spelling bytes lines rest l after so_far t = (
  fits_push Fits lines l so_far.0 t.0,
  rw (flat_map-append, append-nil (spelled spelling l), append_assoc (flat_map _ lines), ← t.1) so_far.1,
)

-- What a loop over the lines has read, and how many lines.
pub record HasRead {L : Type 0} (Fits : L → Type 0) (spelling : L → List ℕ) (bytes : List ℕ) (lines : List L)
    (rest : List ℕ) (count : ℕ) : Type 0 where
  pub read : Begins Fits spelling bytes lines rest
  pub count_is : length lines ≡ count

pub has_read_more : {L : Type 0} {Fits : L → Type 0} {spelling : L → List ℕ} {bytes : List ℕ} {lines : List L}
    {rest : List ℕ} {count : ℕ} (l : L) (after : List ℕ) → HasRead Fits spelling bytes lines rest count
    → BeginsWith Fits spelling rest l after
    → HasRead Fits spelling bytes (lines ++ l ∷ []) after (count + 1)
has_read_more {Fits = Fits} {spelling = spelling} {bytes = bytes} {lines = lines} {rest = rest} l after so_far begins =
    record {
      read = begins_more Fits spelling bytes lines rest l after so_far.read begins;
      count_is = omega (arith, length_push lines l, so_far.count_is);
    }

-- a line that is not read is the first bad one
pub first_bad_here : {L : Type 0} {Fits : L → Type 0} {spelling : L → List ℕ} {bytes : List ℕ} {lines : List L}
    {rest : List ℕ} {count : ℕ} → HasRead Fits spelling bytes lines rest count → (rest ≡ [] → ⊥)
    → HasNoReading Fits spelling rest
    → count + 1 ≤ 65536 → IsFirstBad Fits spelling bytes (count + 1)
first_bad_here {lines = lines} {rest = rest} so_far some none few =
    (lines, rest, so_far.read, some, none, omega (arith, so_far.count_is), few)

-- ---- only one answer fits

pub reads_begins : {L : Type 0} (Fits : L → Type 0) (spelling : L → List ℕ) (bytes : List ℕ) (lines : List L)
    → Reads Fits spelling bytes lines → Begins Fits spelling bytes lines []
reads_begins Fits spelling bytes lines h = (h.0, rw append-nil h.1)

module _ {L : Type 0} {Fits : L → Type 0} {spelling : L → List ℕ} (one : HasOneReading Fits spelling) where
  -- lines up to a rest with no reading are as many as any others, or more
  most_lines : (bytes : List ℕ) (xs ys : List L) (r s : List ℕ) → Begins Fits spelling bytes xs r
      → HasNoReading Fits spelling r → Begins Fits spelling bytes ys s
      → (zs : List L) × (xs ≡ ys ++ zs) × Begins Fits spelling s zs r
  most_lines bytes xs [] r s p stuck q = (xs, refl, (p.0, sym q.1 ∙ p.1))
  most_lines bytes [] (y ∷ ys) r s p stuck q =
      absurd (stuck y _ q.0.0 (sym p.1 ∙ q.1 ∙ append_assoc (spelled spelling y) _ s))
  most_lines bytes (x ∷ xs) (y ∷ ys) r s p stuck q =
      let (same, after) = one.same bytes x y _ _ (p.0.0, p.1 ∙ append_assoc (spelled spelling x) _ r)
      (q.0.0, q.1 ∙ append_assoc (spelled spelling y) _ s) in
      let (zs, is, more) =
      most_lines (flat_map (spelled spelling) xs ++ r) xs ys r s (p.0.1, refl) stuck (q.0.1, after) in
      (zs, cc, more)

  -- lines up to a rest with no reading are these and no others
  pub same_lines : (bytes : List ℕ) (xs ys : List L) (r s : List ℕ) → Begins Fits spelling bytes xs r
      → HasNoReading Fits spelling r → Begins Fits spelling bytes ys s → HasNoReading Fits spelling s
      → (xs ≡ ys) × (r ≡ s)
  same_lines bytes xs ys r s p stuck q stuck' =
      let (zs, is, more) = most_lines bytes xs ys r s p stuck q in by_rest zs is more
    where
      by_rest : (zs : List L) → xs ≡ ys ++ zs → Begins Fits spelling s zs r → (xs ≡ ys) × (r ≡ s)
      by_rest [] is more = (is ∙ append-nil ys, sym more.1)
      by_rest (z ∷ zs) is more = absurd (stuck' z _ more.0.0 (more.1 ∙ append_assoc (spelled spelling z) _ r))

  ends_here : HasNoReading Fits spelling []
  ends_here l rest fits e = nothing_spelled spelling l rest e

  module _ (bytes : List ℕ) where
    pub same_read : (xs ys : List L) → Reads Fits spelling bytes xs → Reads Fits spelling bytes ys → xs ≡ ys
    same_read xs ys p q =
        (same_lines bytes xs ys [] [] (reads_begins _ _ _ xs p) ends_here (reads_begins _ _ _ ys q) ends_here).0

    pub same_bad : (m n : ℕ) → IsFirstBad Fits spelling bytes m → IsFirstBad Fits spelling bytes n → m ≡ n
    same_bad m n p q = omega (arith, ap length (same_lines bytes p.0 q.0 p.1 q.1 p.2 p.4 q.2 q.4).0, p.5, q.5)

    pub read_and_bad : (lines : List L) (line : ℕ) → Reads Fits spelling bytes lines
        → IsFirstBad Fits spelling bytes line → ⊥
    read_and_bad lines line reads bad =
        bad.3 (sym (same_lines bytes lines bad.0 [] bad.1 (reads_begins _ _ _ lines reads) ends_here bad.2 bad.4).1)

    pub read_and_long : (lines : List L) → Reads Fits spelling bytes lines → length lines ≤ 65536
        → IsTooLong Fits spelling bytes → ⊥
    read_and_long lines reads few long =
        let whole = reads_begins _ _ _ lines reads in
        let (zs, is, more) = most_lines bytes lines long.0 [] long.1 whole ends_here long.2 in
        let none = nil_from_length zs (omega (arith, ap length is, length-append long.0 zs, long.4)) in
        long.3 (rw none at more.1)

    pub bad_and_long : (line : ℕ) → IsFirstBad Fits spelling bytes line → IsTooLong Fits spelling bytes → ⊥
    bad_and_long line bad long =
        let m = most_lines bytes bad.0 long.0 bad.1 long.1 bad.2 bad.4 long.2 in
        absurd (omega (arith, ap length m.1, length-append long.0 m.0, long.4, bad.5, bad.6))

    -- what an answer says
    pub is_read : (r : Result (Vec L Global) ScriptError) (lines : List L) → IsScriptAnswer Fits spelling bytes r
        → Reads Fits spelling bytes lines → length lines ≤ 65536 → UnlessMemory r (IsOkAnd r (λ v. v.items ≡ lines))
    is_read (Ok v) lines a h few = same_read v.items lines a.0 h
    is_read (Err (Bad n)) lines a h few = absurd (read_and_bad lines n h a)
    is_read (Err TooLong) lines a h few = absurd (read_and_long lines h few a)
    is_read (Err NoMemory) lines a h few = tt

    pub is_bad : (r : Result (Vec L Global) ScriptError) (line : ℕ) → IsScriptAnswer Fits spelling bytes r
        → IsFirstBad Fits spelling bytes line → UnlessMemory r (r ≡ Err (Bad line))
    is_bad (Ok v) line a h = absurd (read_and_bad v.items line a.0 h)
    is_bad (Err (Bad n)) line a h = ap (λ (k : ℕ). Err (Bad k)) (same_bad n line a h)
    is_bad (Err TooLong) line a h = absurd (bad_and_long line h a)
    is_bad (Err NoMemory) line a h = tt

    pub is_long : (r : Result (Vec L Global) ScriptError) → IsScriptAnswer Fits spelling bytes r
        → IsTooLong Fits spelling bytes → UnlessMemory r (r ≡ Err TooLong)
    is_long (Ok v) a h = absurd (read_and_long v.items a.0 a.1 h)
    is_long (Err (Bad n)) a h = absurd (bad_and_long n a h)
    is_long (Err TooLong) a h = refl
    is_long (Err NoMemory) a h = tt

-- ---- what an answer says

pub read_is : {L : Type 0} (Fits : L → Type 0) (spelling : L → List ℕ) (bytes : List ℕ)
    (r : Result (Vec L Global) ScriptError) → IsScriptAnswer Fits spelling bytes r
    → IfOk r (λ v. Reads Fits spelling bytes v.items × (length v.items ≤ 65536))
read_is Fits spelling bytes (Ok v) a = a
read_is Fits spelling bytes (Err e) a = tt

-- an error is told of another value in the same way
pub bad_for : (A B : Type 0) (e : ScriptError) (line : ℕ)
    → UnlessMemory {A = A} (Err e) (◌≡◌ {A = Result A ScriptError} (Err e) (Err (Bad line)))
    → UnlessMemory {A = B} (Err e) (◌≡◌ {A = Result B ScriptError} (Err e) (Err (Bad line)))
bad_for A B (Bad n) line h = cc
bad_for A B TooLong line h = cc
bad_for A B NoMemory line h = tt

pub not_empty : (xs : List ℕ) (b : Bool) → b ≡ eqb (length xs) 0 → b ≡ false → xs ≡ [] → ⊥
not_empty [] b p q e = true≢false (sym p ∙ q)
not_empty (x ∷ xs) b p q e = cc
