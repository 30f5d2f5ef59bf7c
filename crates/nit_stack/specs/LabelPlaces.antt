-- Where a label stands on the screen.
use Rattle.std.specs.Prelude.{ℕ, ◌==◌, Bool, false, ◌&&◌, pos, int_lt, List, map, find, Option}
use Rattle.nit_stack.specs.Below.{None, Point, Some, View, flat_map, list_all, most_picture_width}
use Rattle.nit_stack.specs.Below.{range_with_len}
use Rattle.nit_stack.specs.Sources.{point, owner}

-- the pixels of a rectangle from a column and a row on, row by row from the top
abbrev pub pixels : ℕ → ℕ → ℕ → ℕ → List Point
pixels x y w h =
    flat_map (λ row. map (λ column. point column row) (range_with_len x w)) (range_with_len y h)

-- the most columns and rows of a label on the screen: the widest picture of a text has so many
abbrev pub most_tag : ℕ
most_tag = most_picture_width

-- a view of a session is named by its handle
abbrev pub is_view : ℕ → ℕ → View → Bool
is_view sid handle v = v.sid == sid && v.handle == handle

abbrev pub is_owner : ℕ → ℕ → Option View → Bool
is_owner sid handle None = false
is_owner sid handle (Some v) = is_view sid handle v

-- the pixel is on a screen of this size, and this view owns it
abbrev pub owns : ℕ → ℕ → ℕ → List View → View → Point → Bool
owns width height rows stack v p =
    int_lt p.x (pos width) && int_lt p.y (pos height)
    && is_owner v.sid v.handle (owner rows stack p)

-- a rectangle of w by h with its first pixel at this column and row lies in pixels that the view
-- owns
abbrev pub fits : ℕ → ℕ → ℕ → List View → View → ℕ → ℕ → ℕ → ℕ → Bool
fits width height rows stack v w h x y = list_all (owns width height rows stack v) (pixels x y w h)

-- The first column and row of the screen, row by row from the top, at which a label of w by h lies
-- in pixels that its view owns. None where there is no such place.
abbrev pub label_place : ℕ → ℕ → ℕ → List View → View → ℕ → ℕ → Option (ℕ × ℕ)
label_place width height rows stack v w h =
    find (λ q. fits width height rows stack v w h q.0 q.1)
    (flat_map (λ y. map (λ x. (x, y)) (range_with_len 0 width)) (range_with_len 0 height))
