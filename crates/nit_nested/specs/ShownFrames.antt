-- What is seen in the buffer of the script that shows frames.
use Rattle.std.specs.Prelude.{◌≡◌, ℕ, zero, suc, ◌*◌, ◌<◌, true, List, [], ◌∷◌, length, take}
use Rattle.std.specs.Prelude.{slice_index_or}
use Rattle.nit_nested.specs.Below.{Buffer, Line, first_session, is_accepted, serve, words_after}
use Rattle.nit_script.specs.declared.line.Line.TheVariants as line

-- how many lines stand before the end of the phase of this number; phases count from 0
abbrev pub lines_before_end : ℕ → List Line → ℕ
lines_before_end k [] = 0
lines_before_end zero (line.Phase ∷ rest) = 0
lines_before_end (suc k) (line.Phase ∷ rest) = suc (lines_before_end k rest)
lines_before_end k (line.Call c ∷ rest) = suc (lines_before_end k rest)
lines_before_end k (line.Stroke s ∷ rest) = suc (lines_before_end k rest)

-- a session that opens with this donation can pay for a buffer of w by h
abbrev pub CanPay : ℕ → ℕ → ℕ → Type 0
CanPay donation w h = is_accepted (serve (first_session donation) (Buffer w h)).reply ≡ true

-- at the end of each phase the first w * h words that the script leaves by then are those of the
-- phase's frame
abbrev pub ShowsFrames : ℕ → ℕ → List (List ℕ) → List Line → ℕ → Type 0
ShowsFrames w h frames script donation =
    (k : ℕ) → k < length frames
    → take (w * h) (words_after script donation (lines_before_end k script))
    ≡ slice_index_or frames k []
