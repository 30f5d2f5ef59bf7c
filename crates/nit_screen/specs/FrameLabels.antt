-- What a frame shows of the labels of views.
use Rattle.std.specs.Prelude.{◌≡◌, ℕ, ◌+◌, ◌*◌, ◌<◌, ◌≤◌, pos, List, length, slice_index, All}
use Rattle.nit_screen.specs.Below.{AllPairs, IfSome, IsApart, IsTrue, IsWord, Rectangle, Scenery}
use Rattle.nit_screen.specs.Below.{View, draws_labels, frame, ink_of, label_place_of}
use Rattle.nit_screen.specs.Below.{picture_height, picture_width, rectangle, text_dot, view_text}

-- how many columns the label of a view has
abbrev pub label_width : Scenery → View → ℕ
label_width s v = picture_width s.lettering (length (view_text s v))

-- The whole label of a view lies on the screen, with its first pixel in this column and row. Each
-- of its pixels in the frame is white where the view's text has a dot, and black where it has none.
pub record IsLabelShown (s : Scenery) (words : List ℕ) (v : View) (q : ℕ × ℕ) : Type 0 where
  pub right : q.0 + label_width s v ≤ s.width
  pub bottom : q.1 + picture_height s.lettering ≤ s.height
  pub dots : (x y : ℕ) → x < label_width s v → y < picture_height s.lettering
      → slice_index words ((q.1 + y) * s.width + (q.0 + x))
      ≡ ink_of (text_dot s.lettering (view_text s v) x y)

-- what the label of a view covers, with its first pixel in this column and row
abbrev pub label_area : Scenery → View → ℕ × ℕ → Rectangle
label_area s v q = rectangle (pos q.0) (pos q.1) (label_width s v)
    (picture_height s.lettering)

-- where the labels of both views have a place, they share no pixel
abbrev pub AreLabelsApart : Scenery → View → View → Type 0
AreLabelsApart s v u =
    IfSome (label_place_of s v) (λ q.
    IfSome (label_place_of s u) (λ r. IsApart (label_area s v q) (label_area s u r)))

-- Each view for whose label there is a place has its label there, and no two labels share a pixel.
pub record AreLabelsShown (s : Scenery) (words : List ℕ) : Type 0 where
  pub each : All (λ v. IfSome (label_place_of s v) (IsLabelShown s words v)) s.stack
  pub apart : AllPairs (AreLabelsApart s) s.stack

-- a frame shows the labels, if its mode draws them
abbrev pub ShowsLabels : Scenery → List ℕ → Type 0
ShowsLabels s words = IsTrue (draws_labels s.mode) → AreLabelsShown s words

-- these words are the frame of a scenery and of raw words, each is below 2^24, and they show the
-- labels
pub record IsFrameShown (s : Scenery) (raw out : List ℕ) : Type 0 where
  pub frame : out ≡ frame s raw
  pub labels : ShowsLabels s out
  pub words : All IsWord out
