-- Worked rows of the screen, computed from the definitions.
use Rattle.std.proofs.Common.{None, [], false, map, pos, refl, true, ℕ, ◌∷◌, ◌≡◌}
use Rattle.nit_overlay.proofs.Basics.{Flat, Kill, Scenery, View, Xray, codes, in_label}
use Rattle.nit_overlay.proofs.Basics.{is_label_dot, plain, point, range_with_len, rectangle, shown}
use Rattle.nit_glyph.specs.Pictures.{dot, glyph_rows}

-- two views on a screen of 12 by 7: that of session 1, of 3 by 7, stands in front of the other, of 12 by 7
abbrev view_of : ℕ → ℕ → View
view_of sid width = record {
  sid = sid;
  handle = 1;
  rect = rectangle (pos 0) (pos 0) width 7;
  ox = pos 0;
  oy = pos 0;
  title = [];
}

abbrev labelled : Scenery
labelled = record {
  width = 12;
  height = 7;
  bar = 0;
  stack = view_of 1 3 ∷ view_of 0 12 ∷ [];
  labels = codes "ab" ∷ codes "b" ∷ [];
  mode = Xray;
  focus = None;
  lettering = plain;
}

abbrev F : ℕ
F = 0xFFFFFF

-- the label "ab" stands at (3, 0), and "b" has no place
label_row : map (λ x. shown labelled (point x 1) 0xFF) (0 ∷ 1 ∷ 2 ∷ []) ≡ 0x808080 ∷ 0x7F ∷ 0x808080 ∷ []
unfolding dot glyph_rows
label_row = refl

label_dots : map (λ x. shown labelled (point x 1) 0xFF0000) (3 ∷ 4 ∷ 5 ∷ 6 ∷ 7 ∷ 8 ∷ 9 ∷ 10 ∷ 11 ∷ [])
    ≡ 0 ∷ 0 ∷ F ∷ 0 ∷ 0 ∷ F ∷ F ∷ 0 ∷ 0 ∷ []
unfolding dot glyph_rows
label_dots = refl

-- the label covers columns 3 to 11, and has its dots where white is shown
label_covers : map (λ x. in_label labelled (view_of 0 12) (point x 1)) (2 ∷ 3 ∷ 11 ∷ []) ≡ false ∷ true ∷ true ∷ []
label_covers = refl

label_has_dots : map (λ x. is_label_dot labelled (view_of 0 12) (point x 1)) (2 ∷ 4 ∷ 5 ∷ 8 ∷ []) ≡ false ∷ false ∷ true
    ∷ true ∷ []
unfolding dot glyph_rows
label_has_dots = refl

-- in mode Kill a client that paints white is shown as a light red, but for ring and label
killed_row : map (λ x. shown (record labelled { mode = Kill }) (point x 1) 0xFFFFFF) (0 ∷ 1 ∷ 4 ∷ 5 ∷ [])
    ≡ 0xFF0000 ∷ 0xFF7F7F ∷ 0 ∷ F ∷ []
unfolding dot glyph_rows
killed_row = refl

-- a status bar of a screen of 12 by 12
abbrev with_bar : Scenery
with_bar = record {
  width = 12;
  height = 12;
  bar = 7;
  stack = record (view_of 0 12) { rect = rectangle (pos 0) (pos 0) 12 12 } ∷ [];
  labels = codes "a" ∷ [];
  mode = Flat;
  focus = None;
  lettering = plain;
}

bar_row : map (λ x. shown with_bar (point x 1) 0xFF0000) (range_with_len 0 12) ≡ 0 ∷ F ∷ F ∷ F ∷ 0 ∷ F ∷ 0 ∷ 0 ∷ 0 ∷ 0
    ∷ F ∷ 0 ∷ []
unfolding dot glyph_rows
bar_row = refl

below_the_bar : shown with_bar (point 3 7) 0xFF0000 ≡ 0xFF0000
unfolding dot glyph_rows
below_the_bar = refl
