-- Which texts are texts of the glyphs.
use Rattle.std.proofs.Common.{Bool, List, Option, Some, [], arith, not, refl, true, ℕ, ◌++◌, ◌<◌}
use Rattle.std.proofs.Common.{◌||◌, ◌∙◌, ◌∷◌, ◌≡◌}
use Rattle.nit_glyph.proofs.Basics.{IfSome, IsOfGlyphs, IsTrue, None, Small, agree_below_at}
use Rattle.nit_glyph.proofs.Basics.{and_from}
use Rattle.nit_glyph.proofs.Basics.{and_parts, bar_text_of, codes, is_label, is_label_byte, is_some}
use Rattle.nit_glyph.proofs.Basics.{is_title, is_title_byte, label_text_of, list_all-append}
use Rattle.nit_glyph.proofs.Basics.{nat_tests, or_left}
use Rattle.nit_glyph.specs.Pictures.{glyph_rows}
use Rattle.nit_glyph.proofs.BoolLemmas.{implies, list_all_weaker}

-- whether a character has a glyph
abbrev has_glyph : ℕ → Bool
has_glyph c = is_some (glyph_rows Small c)

-- each byte of a title has a glyph: at each byte below 128, by computing
title_byte_passes : (c : ℕ) → c < 128 → (not (is_title_byte c) || has_glyph c) ≡ true
unfolding glyph_rows
title_byte_passes c below = agree_below_at (λ c. not (is_title_byte c) || has_glyph c) (λ _. true) 128 c refl below

-- and at each byte of a title, as all of them are below 128
title_byte_has_glyph : (c : ℕ) → is_title_byte c ≡ true → has_glyph c ≡ true
title_byte_has_glyph c is =
    let below : c < 128 = grind (arith, nat_tests) in
    implies _ _ (title_byte_passes c below) is

-- `:` has a glyph
colon_has_glyph : IsOfGlyphs (codes ":")
unfolding glyph_rows
colon_has_glyph = refl

-- two texts of the glyphs, one after the other
append_has_glyphs : (s t : List ℕ) → IsOfGlyphs s → IsOfGlyphs t → IsOfGlyphs (s ++ t)
append_has_glyphs s t first second = list_all-append has_glyph s t ∙ and_from _ _ first second

-- two texts of the glyphs with `:` between them
pub joined_has_glyphs : (s t : List ℕ) → IsOfGlyphs s → IsOfGlyphs t → IsOfGlyphs (s ++ codes ":" ++ t)
joined_has_glyphs s t first second =
    append_has_glyphs (s ++ codes ":") t (append_has_glyphs s (codes ":") first colon_has_glyph) second

-- a title is a text of the glyphs
pub title_has_glyphs : (text : List ℕ) → IsTrue (is_title text) → IsOfGlyphs text
title_has_glyphs text is =
    list_all_weaker is_title_byte has_glyph text title_byte_has_glyph (and_parts _ _ is).1

-- a label is a text of the glyphs
pub label_has_glyphs : (text : List ℕ) → IsTrue (is_label text) → IsOfGlyphs text
label_has_glyphs text is =
    list_all_weaker is_label_byte has_glyph text (λ c label. title_byte_has_glyph c (or_left _ _ label))
    (and_parts _ _ is).1

-- so is the text of a view
pub label_text_has_glyphs : (label title : List ℕ) → IsTrue (is_label label) → IsTrue (is_title title)
    → IsOfGlyphs (label_text_of label title)
label_text_has_glyphs label [] is_label is_title = label_has_glyphs label is_label
label_text_has_glyphs label (c ∷ title) is_label is_title =
    joined_has_glyphs label (c ∷ title) (label_has_glyphs label is_label) (title_has_glyphs (c ∷ title) is_title)

-- and the text of the status bar
pub bar_text_has_glyphs : (mode : List ℕ) (focus : Option (List ℕ)) → IsTrue (is_label mode)
    → IfSome focus (λ label. IsTrue (is_label label))
    → IsOfGlyphs (bar_text_of mode focus)
bar_text_has_glyphs mode None is_word none = label_has_glyphs mode is_word
bar_text_has_glyphs mode (Some label) is_word is_focus =
    joined_has_glyphs mode label (label_has_glyphs mode is_word) (label_has_glyphs label is_focus)
