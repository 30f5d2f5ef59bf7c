-- A word as three channels, read as 0x00RRGGBB.
use Rattle.std.specs.Prelude.{ℕ, ◌+◌, ◌*◌, ◌/◌, ◌%◌, List, [], ◌∷◌}

-- the red channel: bits 16 to 23
abbrev pub red : ℕ → ℕ
red w = w / 0x10000

-- the green channel: bits 8 to 15
abbrev pub green : ℕ → ℕ
green w = w / 0x100 % 0x100

-- the blue channel: bits 0 to 7
abbrev pub blue : ℕ → ℕ
blue w = w % 0x100

-- red, green and blue, a byte each
abbrev pub channels : ℕ → List ℕ
channels word = red word ∷ green word ∷ blue word ∷ []

-- the word of three channels
abbrev pub word_of : ℕ → ℕ → ℕ → ℕ
word_of r g b = r * 0x10000 + g * 0x100 + b

-- each channel halved, rounded down
abbrev pub dim : ℕ → ℕ
dim w = word_of (red w / 2) (green w / 2) (blue w / 2)

-- red is 128 and half of it, green and blue are halved, each rounded down
abbrev pub tint : ℕ → ℕ
tint w = word_of (128 + red w / 2) (green w / 2) (blue w / 2)

-- the word of the bare screen: a little blue
abbrev pub bare_word : ℕ
bare_word = word_of 0 0 0x20
