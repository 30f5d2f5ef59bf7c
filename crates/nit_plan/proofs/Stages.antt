-- The colours of a script's lines.
use Rattle.nit_plan.proofs.Basics.{All, All-append, All-cons, All-nil, AllByRecursion, Buffer}
use Rattle.nit_plan.proofs.Basics.{Check, Fill, FitsLine, HasStages, IsAmong, IsInked, IsOfColours}
use Rattle.nit_plan.proofs.Basics.{IsWord, Line, List, Painting, Size, Some, Stroke, [], after_line}
use Rattle.nit_plan.proofs.Basics.{arith, blank, colours, drop, either, enumerate_from, eq-eqb}
use Rattle.nit_plan.proofs.Basics.{eqb-true, ink, inked_fits, is_accepted, length, list_any}
use Rattle.nit_plan.proofs.Basics.{list_any-append, map, nat_tests, or_cases, or_right}
use Rattle.nit_plan.proofs.Basics.{painted_from, range_with_len, script_ink, serve, session_size}
use Rattle.nit_plan.proofs.Basics.{slice_get, slice_index, stages_from, stages_within}
use Rattle.nit_plan.proofs.Basics.{stroke_colour, table_size, word_after_stroke, words_after}
use Rattle.nit_plan.proofs.Basics.{words_left, zero_at}
use Rattle.std.proofs.Common.{refl, inl, inr, subst, suc, sym, take, true, zero, ℕ, ◌%◌, ◌*◌, ◌++◌}
use Rattle.std.proofs.Common.{◌+◌, ◌-◌, ◌/◌, ◌<◌, ◌==◌, ◌∙◌, ◌∷◌, ◌≡◌, ◌≤◌}
use Rattle.nit_script.specs.declared.line.Line.TheVariants as line
use Rattle.nit_plan.specs.Strokes.{cleared, stroked}
use Rattle.nit_word.specs.Zeros.{zeros}
use Rattle.nit_plan.proofs.LineWords.{last_line}
use Rattle.nit_plan.proofs.Places.{colour_inked}

colours_fit : (l : Line) → FitsLine l → All IsWord (colours l)
colours_fit (line.Stroke (Fill x y w h c)) fits = All-cons IsWord c [] fits.4 (All-nil IsWord)
colours_fit (line.Stroke (Check x y w h c d)) fits =
    All-cons IsWord c (d ∷ []) fits.4 (All-cons IsWord d [] fits.5 (All-nil IsWord))
colours_fit other fits = All-nil IsWord

-- the colours of lines that fit are words
pub ink_fits : (lines : List Line) → AllByRecursion FitsLine lines → All IsWord (ink lines)
ink_fits [] fits = All-nil IsWord
ink_fits (l ∷ lines) fits = All-append IsWord (colours l) (ink lines) (colours_fit l fits.0) (ink_fits lines fits.1)

-- ---- a colour among others

among_more : (xs ys : List ℕ) (c : ℕ) → IsOfColours ys c → IsOfColours (xs ++ ys) c
among_more xs ys c inked = grind (arith, nat_tests, list_any-append (λ y. y == c) xs ys)

first_among : (c : ℕ) (ws : List ℕ) → IsOfColours (c ∷ ws) c
first_among c ws = grind (arith, nat_tests)

-- the colours of a line are in the ink of any script that begins with it
own_colours : (l : Line) (rest : List ℕ) → AllByRecursion (IsOfColours (colours l ++ rest)) (colours l)
own_colours (line.Stroke (Fill x y w h c)) rest = (first_among c rest, tt)
own_colours (line.Stroke (Check x y w h c d)) rest =
    (first_among c (d ∷ rest), (among_more (c ∷ []) (d ∷ rest) d (first_among d rest), tt))
own_colours other rest = tt

more_colours : (xs ys cs : List ℕ) → AllByRecursion (IsOfColours ys) cs → AllByRecursion (IsOfColours (xs ++ ys)) cs
more_colours xs ys [] inked = tt
more_colours xs ys (c ∷ cs) inked = (among_more xs ys c inked.0, more_colours xs ys cs inked.1)

-- a line of a script has its colours in the script's ink
pub colours_inked : (script : List Line) (k : ℕ) (l : Line) → slice_get script k ≡ Some l
    → AllByRecursion (IsOfColours (ink script)) (colours l)
colours_inked [] k l here = cc
colours_inked (first ∷ script) zero l here = let same : first ≡ l = cc in rw (← same) (own_colours first (ink script))
colours_inked (first ∷ script) (suc k) l here =
    more_colours (colours first) (ink script) (colours l) (colours_inked script k l here)

-- and it fits where all lines do
pub line_fits : (script : List Line) (k : ℕ) (l : Line) → slice_get script k ≡ Some l → AllByRecursion FitsLine script
    → FitsLine l
line_fits [] k l here fits = cc
line_fits (first ∷ script) zero l here fits = let same : first ≡ l = cc in rw (← same) fits.0
line_fits (first ∷ script) (suc k) l here fits = line_fits script k l here fits.1

-- each of the words is 0 or in the ink
abbrev AreInked : List ℕ → List ℕ → Type 0
AreInked ink words = AllByRecursion (IsOfColours ink) words

zeros_inked : (ink : List ℕ) (n : ℕ) → AreInked ink (zeros n)
unfolding zeros
zeros_inked ink zero = tt
zeros_inked ink (suc n) = (refl, zeros_inked ink n)

-- ---- one line

both_inked : (ink xs ys : List ℕ) → AreInked ink xs → AreInked ink ys → AreInked ink (xs ++ ys)
both_inked ink [] ys first second = second
both_inked ink (x ∷ xs) ys first second = (first.0, both_inked ink xs ys first.1 second)

back_inked : (ink : List ℕ) (n : ℕ) (words : List ℕ) → AreInked ink words → AreInked ink (drop n words)
back_inked ink zero words inked = inked
back_inked ink (suc n) [] inked = inked
back_inked ink (suc n) (w ∷ words) inked = back_inked ink n words inked.1

cleared_inked : (ink : List ℕ) (w h : ℕ) (words : List ℕ) → AreInked ink words → AreInked ink (cleared w h words)
unfolding cleared
cleared_inked ink w h words inked = both_inked ink (zeros (w * h)) (drop (w * h) words) (zeros_inked ink (w * h))
    (back_inked ink (w * h) words inked)

stroked_from : (ink : List ℕ) (size : Size) (s : Stroke) (n : ℕ) (words : List ℕ)
    → AllByRecursion (IsOfColours ink) (colours (line.Stroke s)) → AreInked ink words
    → AreInked ink (map (λ p. word_after_stroke size s p.0 p.1) (enumerate_from n words))
stroked_from ink size s n [] named inked = tt
stroked_from ink size s n (w ∷ words) named inked = (
  either (IsOfColours ink) _ (stroke_colour s (n % size.w) (n / size.w)) w
      (colour_inked ink s (n % size.w) (n / size.w) named) inked.0,
  stroked_from ink size s (n + 1) words named inked.1,
)

stroked_inked : (ink : List ℕ) (size : Size) (s : Stroke) (words : List ℕ)
    → AllByRecursion (IsOfColours ink) (colours (line.Stroke s)) → AreInked ink words
    → AreInked ink (stroked size s words)
unfolding stroked
stroked_inked ink size s words named inked = stroked_from ink size s 0 words named inked

line_inked : (ink : List ℕ) (p : Painting) (l : Line) → AllByRecursion (IsOfColours ink) (colours l)
    → AreInked ink p.words
    → AreInked ink (after_line p l).words
line_inked ink p (line.Call (Buffer w h)) named inked =
    either (AreInked ink) (is_accepted (serve p.session (Buffer w h)).reply) (cleared w h p.words) p.words
    (cleared_inked ink w h p.words inked) inked
line_inked ink p (line.Stroke s) named inked = stroked_inked ink (session_size p.session) s p.words named inked
line_inked ink p other named inked = inked

-- ---- the lines of a script

-- each line names colours of the ink alone
abbrev AllNamed : List ℕ → List Line → Type 0
AllNamed ink lines = (k : ℕ) (l : Line) → slice_get lines k ≡ Some l → AllByRecursion (IsOfColours ink) (colours l)

lines_inked : (ink : List ℕ) (k : ℕ) (p : Painting) (lines : List Line) → AllNamed ink lines → AreInked ink p.words
    → AreInked ink (painted_from p (take k lines)).words
lines_inked ink zero p lines named inked = inked
lines_inked ink (suc k) p [] named inked = inked
lines_inked ink (suc k) p (l ∷ lines) named inked =
    lines_inked ink k (after_line p l) lines (λ j m here. named (suc j) m here)
    (line_inked ink p l (named zero l refl) inked)

at_place : (ink words : List ℕ) (i : ℕ) → AreInked ink words → IsOfColours ink (slice_index words i)
at_place ink [] i inked = refl
at_place ink (w ∷ words) zero inked = inked.0
at_place ink (w ∷ words) (suc i) inked = at_place ink words i inked.1

pub word_inked : (script : List Line) (donation k i : ℕ)
    → IsOfColours (ink script) (slice_index (words_after script donation k) i)
word_inked script donation k i =
    at_place (ink script) (words_after script donation k) i
    (lines_inked (ink script) k (blank donation) script (colours_inked script)
    (zeros_inked (ink script) (table_size donation)))

pub left_inked : (script : List Line) (donation i : ℕ)
    → IsOfColours (ink script) (slice_index (words_left script donation) i)
left_inked script donation i =
    subst (λ (p : Painting). IsOfColours (ink script) (slice_index p.words i))
    (last_line (blank donation) script (length script) (omega arith)) (word_inked script donation (length script) i)

-- what the first lines leave is one of the stages
among : (p : Painting) (script : List Line) (k i : ℕ)
    → list_any (λ (words : List ℕ). slice_index words i == slice_index (painted_from p (take k script)).words i)
    (stages_from p script) ≡ true
among p [] zero i = rw (eq-eqb (slice_index p.words i) (slice_index p.words i) refl) refl
among p [] (suc k) i = rw (eq-eqb (slice_index p.words i) (slice_index p.words i) refl) refl
among p (l ∷ rest) zero i = rw (eq-eqb (slice_index p.words i) (slice_index p.words i) refl) refl
among p (l ∷ rest) (suc k) i = or_right _ _ (among (after_line p l) rest k i)

pub has_stages : (script : List Line) (donation : ℕ) → HasStages script donation (script_ink script donation)
has_stages script donation k i = or_right _ _ (among (blank donation) script k i)

-- one of the stages is what so many lines leave
abbrev LeftBySome : Painting → List Line → ℕ → ℕ → Type 0
LeftBySome p script i w = (k : ℕ) × (w ≡ slice_index (painted_from p (take k script)).words i)

stage_of : (p : Painting) (script : List Line) (i w : ℕ)
    → list_any (λ (words : List ℕ). slice_index words i == w) (stages_from p script) ≡ true → LeftBySome p script i w
stage_of p [] i w found = (zero, grind (arith, nat_tests))
stage_of p (l ∷ rest) i w found = elim (or_cases _ _ found) [
  | inl is ↦ (zero, sym (eqb-true _ _ is))
  | inr later ↦ (let some = stage_of (after_line p l) rest i w later in (suc some.0, some.1))
]

pub left_by_some : (script : List Line) (donation i w : ℕ) → IsInked (script_ink script donation) i w
    → (k : ℕ) × (w ≡ slice_index (words_after script donation k) i)
left_by_some script donation i w inked = elim (or_cases _ _ inked) [
  | inl is ↦ (zero, eqb-true w 0 is ∙ sym (zero_at (table_size donation) i))
  | inr some ↦ stage_of (blank donation) script i w some
]

pub stage_fits : (script : List Line) (donation i w : ℕ) → AllByRecursion FitsLine script
    → IsInked (script_ink script donation) i w → IsWord w
stage_fits script donation i w fits inked =
    let some = left_by_some script donation i w inked in
    inked_fits (ink script) w (ink_fits script fits)
    (rw some.1 (word_inked script donation some.0 i))

-- ---- the stages from one number of lines to another

ranged : (f : ℕ → List ℕ) (from n k i : ℕ) → from ≤ k → k < from + n
    → IsAmong (map f (range_with_len from n)) i (slice_index (f k) i)
ranged f from zero k i first last = absurd (omega arith)
ranged f from (suc n) k i first last = grind (arith, nat_tests, ranged f (from + 1) n k i)

pub stage_within : (script : List Line) (donation from to n i : ℕ) → from ≤ n → n ≤ to
    → IsAmong (stages_within script donation from to) i (slice_index (words_after script donation n) i)
stage_within script donation from to n i first last =
    ranged (words_after script donation) from (to + 1 - from) n i first (omega arith)

-- a number of the range whose list has the word there
abbrev InRange : (ℕ → List ℕ) → ℕ → ℕ → ℕ → ℕ → Type 0
InRange f from n i w = (k : ℕ) × (from ≤ k) × (k < from + n) × (w ≡ slice_index (f k) i)

in_range : (f : ℕ → List ℕ) (from n i w : ℕ) → IsAmong (map f (range_with_len from n)) i w → InRange f from n i w
in_range f from zero i w found = cc
in_range f from (suc n) i w found = elim (or_cases _ _ found) [
  | inl is ↦ (from, omega arith, omega arith, sym (eqb-true _ _ is))
  | inr later ↦ (let k = in_range f (from + 1) n i w later in (k.0, omega (arith, k.1), omega (arith, k.2), k.3))
]

pub within_only : (script : List Line) (donation from to i w : ℕ) → IsAmong (stages_within script donation from to) i w
    → (n : ℕ) × (from ≤ n) × (n ≤ to) × (w ≡ slice_index (words_after script donation n) i)
within_only script donation from to i w among =
    let k = in_range (words_after script donation) from (to + 1 - from) i w among in
    (k.0, k.1, omega (arith, k.1, k.2), k.3)
