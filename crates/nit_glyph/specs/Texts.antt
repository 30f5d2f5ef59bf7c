-- Labels, titles, and the texts that are made of them.
use Rattle.std.specs.Prelude.{ℕ, ◌==◌, Bool, ◌&&◌, ◌||◌, List, [], ◌∷◌, ◌++◌, Option, None, Some}
use Rattle.std.specs.Prelude.{length, nat_le, codes}
use Rattle.nit_glyph.specs.Below.{is_ascii_digit, is_ascii_lowercase, list_all, list_any}

-- a byte of a label: `a` to `z`, `0` to `9`, `-`, `.` or `_`
abbrev pub is_label_byte : ℕ → Bool
is_label_byte c =
    is_ascii_lowercase c || is_ascii_digit c || list_any (λ mark. mark == c) (codes "-._")

-- a byte of a title: one of a label, or the space
abbrev pub is_title_byte : ℕ → Bool
is_title_byte c = is_label_byte c || c == 32

-- how many bytes a label has at most, and a title
abbrev pub most_label : ℕ
most_label = 20

abbrev pub most_title : ℕ
most_title = 12

-- how many bytes a text of the screen has at most: those of a label, `:` and those of a title
abbrev pub most_label_text : ℕ
most_label_text = 33

-- a label: 1 to 20 of its bytes
abbrev pub is_label : List ℕ → Bool
is_label text =
    nat_le 1 (length text) && nat_le (length text) most_label && list_all is_label_byte text

-- a title: 0 to 12 of its bytes
abbrev pub is_title : List ℕ → Bool
is_title text = nat_le (length text) most_title && list_all is_title_byte text

-- the text of a view: its session's label, and `:` and the view's title where that is not empty
abbrev pub label_text_of : List ℕ → List ℕ → List ℕ
label_text_of label [] = label
label_text_of label (c ∷ title) = label ++ codes ":" ++ (c ∷ title)

-- the text of the status bar: the mode's word, and `:` and the focused session's label where there
-- is one
abbrev pub bar_text_of : List ℕ → Option (List ℕ) → List ℕ
bar_text_of mode None = mode
bar_text_of mode (Some focus) = mode ++ codes ":" ++ focus
