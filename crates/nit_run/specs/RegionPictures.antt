-- What pictures of a screen, as bytes, show inside a region.
use Rattle.std.specs.Prelude.{◌≡◌, ℕ, ◌+◌, ◌-◌, ◌*◌, ◌<◌, ◌≤◌, List, length}
use Rattle.nit_run.specs.Below.{AllZip, Configuration, Region, word_of_bytes}

-- two configurations have a screen of one size
abbrev pub HaveOneScreen : Configuration → Configuration → Type 0
HaveOneScreen a b = (a.width ≡ b.width) × (a.height ≡ b.height)

-- the region has the pixel of this column and row
abbrev pub HasPixelAt : Region → ℕ → ℕ → Type 0
HasPixelAt r x y = (r.x ≤ x) × (x < r.x + r.w) × (r.y ≤ y) × (y < r.y + r.h)

-- the word that a picture has at a column and row of the screen: its last bytes are three for each
-- pixel, row by row from the top
abbrev pub word_seen : Configuration → List ℕ → ℕ → ℕ → ℕ
word_seen config bytes x y =
    let front = length bytes - 3 * (config.width * config.height) in
    word_of_bytes bytes (front + 3 * (y * config.width + x))

-- two pictures of a screen have the same word at each pixel of the region
abbrev pub AgreeInRegion : Region → Configuration → List ℕ → List ℕ → Type 0
AgreeInRegion region config a b =
    (x y : ℕ) → HasPixelAt region x y → word_seen config a x y ≡ word_seen config b x y

-- two lists of pictures are as long, and agree in the region picture by picture
abbrev pub AllAgreeInRegion : Region → Configuration → List (List ℕ) → List (List ℕ) → Type 0
AllAgreeInRegion region config a b = AllZip (AgreeInRegion region config) a b
