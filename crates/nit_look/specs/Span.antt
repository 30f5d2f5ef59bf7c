-- Where two rows, or two pictures, differ.
use Rattle.std.specs.Prelude.{◌≡◌, ◌≢◌, ◌≤◌, ℕ, List, Option, Some, None, slice_index}
use Rattle.nit_look.specs.Below.{Span}

-- two lists have not the same word at this place
abbrev pub Differs : List ℕ → List ℕ → ℕ → Type 0
Differs a b k = slice_index a k ≢ slice_index b k

-- they differ at both ends of the span, and not outside of it
pub record Spans (a b : List ℕ) (s : Span) : Type 0 where
  pub first : Differs a b s.first
  pub last : Differs a b s.last
  pub held : (k : ℕ) → Differs a b k → (s.first ≤ k) × (k ≤ s.last)

-- the span of two lists of one length, where they differ
abbrev pub IsSpan : List ℕ → List ℕ → Option Span → Type 0
IsSpan a b (Some s) = Spans a b s
IsSpan a b None = a ≡ b
