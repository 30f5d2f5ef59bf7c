-- The server's own marks on the pixels of views.
use Rattle.std.specs.Prelude.{◌≡◌, ◌⊎◌, ℕ, ◌<◌, ◌≤◌, Bool, true, false, ◌&&◌, List, ◌++◌, codes}
use Rattle.std.specs.Prelude.{Option, None, Some}
use Rattle.nit_overlay.specs.Below.{Lettering, Point, View, blue, green, owner, red}
use Rattle.nit_overlay.specs.Frame.{Scenery, bar_text, grey_word, has_dot, is_in_picture}
use Rattle.nit_overlay.specs.Frame.{is_on_ring, label_of, label_place_of, view_text, white_word}

-- ---- words

-- a channel of the word is 128 or more
abbrev pub IsBright : ℕ → Type 0
IsBright w = (128 ≤ red w) ⊎ (128 ≤ green w) ⊎ (128 ≤ blue w)

-- red is 128 or more, and green and blue are below
pub record IsReddish (w : ℕ) : Type 0 where
  pub much_red : 128 ≤ red w
  pub little_green : green w < 128
  pub little_blue : blue w < 128

-- ---- labels

-- a text that stands at this column and row, where it stands anywhere, covers the pixel
abbrev pub is_in_text : Lettering → List ℕ → Option (ℕ × ℕ) → Point → Bool
is_in_text l text None p = false
is_in_text l text (Some q) p = is_in_picture l text q.0 q.1 p

-- and it has a dot there
abbrev pub is_dot_of_text : Lettering → List ℕ → Option (ℕ × ℕ) → Point → Bool
is_dot_of_text l text None p = false
is_dot_of_text l text (Some q) p = is_in_picture l text q.0 q.1 p && has_dot l text q.0 q.1 p

-- the pixel lies in the drawn label of a view
abbrev pub in_label : Scenery → View → Point → Bool
in_label s v p = is_in_text s.lettering (view_text s v) (label_place_of s v) p

-- it is a dot of it
abbrev pub is_label_dot : Scenery → View → Point → Bool
is_label_dot s v p = is_dot_of_text s.lettering (view_text s v) (label_place_of s v) p

-- ---- who shows a word

-- The pixel is a mark of the server on the view that owns it: a dot of the view's own label, which
-- is white, or the ring of its rectangle outside the label, which is grey.
pub record IsMark (s : Scenery) (p : Point) (word : ℕ) : Type 0 where
  pub view : View
  pub owns : owner s.bar s.stack p ≡ Some view
  pub is : ((is_label_dot s view p ≡ true) × (word ≡ white_word))
      ⊎ ((in_label s view p ≡ false) × (is_on_ring view.rect p ≡ true) × (word ≡ grey_word))

-- a view of the focused session owns the pixel, and the status bar names that session
pub record IsOfNamed (s : Scenery) (p : Point) : Type 0 where
  pub view : View
  pub owns : owner s.bar s.stack p ≡ Some view
  pub focused : s.focus ≡ Some view.sid
  pub named : bar_text s ≡ codes "xray:" ++ label_of s view.sid
