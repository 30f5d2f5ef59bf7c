-- What a screen shows at a pixel.
use Rattle.std.specs.Prelude.{ℕ, ◌-◌, ◌*◌, Bool, true, false, ◌&&◌, ◌||◌, ℤ, pos, negsuc, ◌+ℤ◌}
use Rattle.std.specs.Prelude.{◌-ℤ◌, List, [], map, length, slice_index, slice_index_or, Option}
use Rattle.std.specs.Prelude.{Some, None, option_map, codes, if◌then◌else◌}
use Rattle.nit_overlay.specs.Below.{Flat, Kill, Lettering, Mode, Point, Rectangle, View, Xray}
use Rattle.nit_overlay.specs.Below.{bar_text_of, bare_word, covers, dim, in_bar, int_eq, is_same}
use Rattle.nit_overlay.specs.Below.{label_place, label_text_of, owner, picture_height}
use Rattle.nit_overlay.specs.Below.{picture_width, pixel, range_with_len, rectangle, text_dot, tint}

-- what a frame is made by, but for the words of the clients: the screen's size and the rows of its
-- status bar, all views, front first, the labels of the sessions, the mode, the focused session,
-- and how texts are drawn
pub record Scenery : Type 0 where
  pub width : ℕ
  pub height : ℕ
  pub bar : ℕ
  pub stack : List View
  pub labels : List (List ℕ)
  pub mode : Mode
  pub focus : Option ℕ
  pub lettering : Lettering

-- ---- the colours of the server's own marks

abbrev pub white_word : ℕ
white_word = 0xFFFFFF

abbrev pub grey_word : ℕ
grey_word = 0x808080

abbrev pub red_word : ℕ
red_word = 0xFF0000

-- a dot is white on black
abbrev pub ink_of : Bool → ℕ
ink_of is_dot = if is_dot then white_word else 0

-- ---- texts

abbrev pub label_of : Scenery → ℕ → List ℕ
label_of s session = slice_index_or s.labels session []

abbrev pub mode_word : Mode → List ℕ
mode_word Flat = codes "flat"
mode_word Xray = codes "xray"
mode_word Kill = codes "kill"

-- the text of the status bar
abbrev pub bar_text : Scenery → List ℕ
bar_text s = bar_text_of (mode_word s.mode) (option_map (label_of s) s.focus)

-- the text of a view's label
abbrev pub view_text : Scenery → View → List ℕ
view_text s v = label_text_of (label_of s v.sid) v.title

-- a column or row of the screen, which is not below 0
abbrev pub screen_place : ℤ → ℕ
screen_place (pos n) = n
screen_place (negsuc n) = 0

-- the picture of a text that stands at a column and row of the screen has this pixel
abbrev pub is_in_picture : Lettering → List ℕ → ℕ → ℕ → Point → Bool
is_in_picture l text x y p =
    covers (rectangle (pos x) (pos y) (picture_width l (length text)) (picture_height l)) p

-- whether it has a dot there
abbrev pub has_dot : Lettering → List ℕ → ℕ → ℕ → Point → Bool
has_dot l text x y p = text_dot l text (screen_place p.x - x) (screen_place p.y - y)

-- ---- rules

-- the status bar: its text stands at the top left, and what is cut off at the right is not shown
abbrev pub bar_word : Scenery → Point → ℕ
bar_word s p =
    ink_of (is_in_picture s.lettering (bar_text s) 0 0 p && has_dot s.lettering (bar_text s) 0 0 p)

-- the first or last column or row of a rectangle
abbrev pub is_on_ring : Rectangle → Point → Bool
is_on_ring r p =
    int_eq p.x r.x || int_eq p.x ((r.x +ℤ pos r.w) -ℤ pos 1)
    || int_eq p.y r.y || int_eq p.y ((r.y +ℤ pos r.h) -ℤ pos 1)

-- what a mode makes of a view's pixel outside its label
abbrev pub by_mode : Mode → Bool → Bool → ℕ → ℕ
by_mode Flat is_ring is_focused w = w
by_mode Xray true is_focused w = if is_focused then white_word else grey_word
by_mode Xray false is_focused w = if is_focused then w else dim w
by_mode Kill true is_focused w = red_word
by_mode Kill false is_focused w = tint w

-- the view's own pixel, or its label where that stands there
abbrev pub by_label : Lettering → List ℕ → Option (ℕ × ℕ) → Point → ℕ → ℕ
by_label l text None p w = w
by_label l text (Some q) p w =
    if is_in_picture l text q.0 q.1 p then ink_of (has_dot l text q.0 q.1 p) else w

-- where the label of a view stands
abbrev pub label_place_of : Scenery → View → Option (ℕ × ℕ)
label_place_of s v =
    label_place s.width s.height s.bar s.stack v
    (picture_width s.lettering (length (view_text s v))) (picture_height s.lettering)

-- a pixel of a view, with its raw word
abbrev pub view_word : Mode → Scenery → View → Point → ℕ → ℕ
view_word Flat s v p w = w
view_word mode s v p w =
    by_label s.lettering (view_text s v) (label_place_of s v) p
    (by_mode mode (is_on_ring v.rect p) (is_same s.focus (Some v.sid)) w)

abbrev pub owner_word : Scenery → Point → ℕ → Option View → ℕ
owner_word s p w None = bare_word
owner_word s p w (Some v) = view_word s.mode s v p w

-- what is shown at a pixel that no view owns
abbrev pub unowned_word : Scenery → Point → ℕ
unowned_word s p = if in_bar s.bar p then bar_word s p else bare_word

-- The word that the screen shows at a pixel whose raw word is w.
abbrev pub shown : Scenery → Point → ℕ → ℕ
shown s p w = if in_bar s.bar p then bar_word s p else owner_word s p w (owner s.bar s.stack p)

-- The frame: what is shown at each pixel, row by row from the top, where raw has the pixels' raw
-- words.
unfoldable pub frame : Scenery → List ℕ → List ℕ
frame s raw =
    map (λ k. shown s (pixel s.width k) (slice_index raw k)) (range_with_len 0 (s.width * s.height))
