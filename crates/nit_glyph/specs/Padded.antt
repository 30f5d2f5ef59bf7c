-- A text in an array that is longer than the text.
use Rattle.std.specs.Prelude.{◌≡◌, ℕ, ◌-◌, ◌≤◌, List, ◌++◌, length, replicate, take}

-- the text, and zeros after it up to `room` bytes
abbrev pub padded : ℕ → List ℕ → List ℕ
padded room text = text ++ replicate (room - length text) 0

-- of these `room` bytes the first `len` are a text, and the others are zeros
pub record IsPadded (room : ℕ) (bytes : List ℕ) (len : ℕ) : Type 0 where
  pub fits : len ≤ room
  pub counted : length (take len bytes) ≡ len
  pub zeros : padded room (take len bytes) ≡ bytes
