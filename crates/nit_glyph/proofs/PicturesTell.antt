-- What a picture tells of its text.
use Rattle.std.proofs.Common.{Bool, List, ap, ap₂, arith, leb, length, not, refl, sym, true, ℕ, ◌%◌}
use Rattle.std.proofs.Common.{◌*◌, ◌+◌, ◌-◌, ◌/◌, ◌<◌, ◌==◌, ◌||◌, ◌∙◌, ◌≡◌}
use Rattle.nit_glyph.proofs.Basics.{AllPass-from_list_all, Glyphs, IsLettering, IsOfGlyphs, Large}
use Rattle.nit_glyph.proofs.Basics.{Lettering, SamePicture, Small, agree_below, columns_of}
use Rattle.nit_glyph.proofs.Basics.{div-mul-add, eq_of_mul-eq-mul_left, eqb-true, glyph_row}
use Rattle.nit_glyph.proofs.Basics.{is_some, le-leb, list_all, mod-mul-add, mul-div_cancel_left}
use Rattle.nit_glyph.proofs.Basics.{mul-lt-mul_of_pos_left, row_has_dot, rows_of, same_number_lists}
use Rattle.nit_glyph.proofs.Basics.{slice_index, step_of, table_of, text_dot}
use Rattle.nit_glyph.specs.Pictures.{dot, glyph_rows}
use Rattle.nit_glyph.proofs.BoolLemmas.{implies, agree}
use Rattle.nit_glyph.proofs.TableLemmas.{Glyph, glyph_of, of_table, passes, passes_all, row_of}

-- ---- glyphs with equal dots

-- whether two rows have equal dots
abbrev same_row : Glyphs → ℕ → ℕ → Bool
same_row s a b = agree_below (row_has_dot s a) (row_has_dot s b) (columns_of s)

-- whether two lists of rows have
abbrev same_dots : Glyphs → List ℕ → List ℕ → Bool
same_dots s rows others =
    agree_below (λ j. same_row s (slice_index rows j) (slice_index others j)) (λ _. true) (rows_of s)

-- whether two glyphs with equal dots have one character
abbrev tells : Glyphs → Glyph → Glyph → Bool
tells s g h = not (same_dots s g.1 h.1) || g.0 == h.0

-- no two glyphs of a table have equal dots, by computing
table_tells : (s : Glyphs) → passes_all (tells s) (table_of s) ≡ true
table_tells Small = refl
table_tells Large = refl

-- characters with equal dots are equal
char_same : (s : Glyphs) (c d : ℕ) → is_some (glyph_rows s c) ≡ true → is_some (glyph_rows s d) ≡ true
    → ((j : ℕ) → j < rows_of s → (column : ℕ) → column < columns_of s → row_has_dot s (glyph_row s c j) column
    ≡ row_has_dot s (glyph_row s d j) column) → c ≡ d
char_same s c d some_c some_d same =
    let first = glyph_of s c some_c in
    let second = glyph_of s d some_d in
    let g : Glyph = first.0 in
    let h : Glyph = second.0 in
    let told : tells s g h ≡ true = passes s (tells s) (table_tells s) c d g h first.1 second.1 in
    let dots : same_dots s g.1 h.1 ≡ true =
    agree (λ j. same_row s (slice_index g.1 j) (slice_index h.1 j)) (λ _. true) (rows_of s)
    (λ j lt.
    agree (row_has_dot s (slice_index g.1 j)) (row_has_dot s (slice_index h.1 j)) (columns_of s)
    (λ column below.
    sym (ap (λ r. row_has_dot s r column) (row_of s c g j first.1))
    ∙ same j lt column below
    ∙ ap (λ r. row_has_dot s r column) (row_of s d h j second.1))) in
    sym first.1.character ∙ eqb-true g.0 h.0 (implies _ _ told dots) ∙ second.1.character

-- ---- texts with equal dots

-- a glyph's columns and a free one
step_is : (s : Glyphs) → step_of s ≡ columns_of s + 1
step_is Small = refl
step_is Large = refl

-- the dots of a text at its character i are those of the character
dot_at : (s : Glyphs) (text : List ℕ) (i j column : ℕ) → j < rows_of s → column < columns_of s
    → dot s text (i * step_of s + column + 1) (j + 1) ≡ row_has_dot s (glyph_row s (slice_index text i) j) column
unfolding dot
dot_at s text i j column row_lt column_lt =
    let at : ℕ = i * step_of s + column in
    let less : column < step_of s = omega (arith, step_is s) in
    let behind : at + 1 - 1 ≡ at = omega arith in
    let below : j + 1 - 1 ≡ j = omega arith in
    let index : (at + 1 - 1) / step_of s ≡ i = ap (λ n. n / step_of s) behind ∙ div-mul-add i (step_of s) column less in
    let rest : (at + 1 - 1) % step_of s ≡ column =
    ap (λ n. n % step_of s) behind ∙ mod-mul-add i (step_of s) column less in
    let right : leb 1 (at + 1) ≡ true = le-leb 1 (at + 1) (omega arith) in
    let top : leb 1 (j + 1) ≡ true = le-leb 1 (j + 1) (omega arith) in
    let bottom : leb (j + 1) (rows_of s) ≡ true = le-leb (j + 1) (rows_of s) (omega arith) in
    rw (right, top, bottom)
    (ap₂ (λ n m. row_has_dot s (glyph_row s (slice_index text n) m) ((at + 1 - 1) % step_of s)) index below
    ∙ ap (row_has_dot s (glyph_row s (slice_index text i) j)) rest)

-- a dot of the glyphs, at the first pixel of its square
dot_scaled : (l : Lettering) (text : List ℕ) (x y : ℕ) → IsLettering l
    → text_dot l text (l.scale * x) (l.scale * y) ≡ dot l.glyphs text x y
dot_scaled l text x y is =
    ap₂ (dot l.glyphs text) (mul-div_cancel_left x is.0) (mul-div_cancel_left y is.0)

-- the column of a character's dot lies in the picture
within : (s : Glyphs) (i n column : ℕ) → i < n → column < columns_of s
    → i * step_of s + column + 1 < step_of s * n + 1
within Small i n column lt less = omega arith
within Large i n column lt less = omega arith

-- pictures of one width are of equally many characters
same_count : (s : Glyphs) (n m : ℕ) → step_of s * n + 1 ≡ step_of s * m + 1 → n ≡ m
same_count Small n m e = omega (arith, e)
same_count Large n m e = omega (arith, e)

-- texts of glyphs with one picture are one text
tells_text : (l : Lettering) (s t : List ℕ) → IsLettering l
    → list_all (λ c. is_some (glyph_rows l.glyphs c)) s ≡ true
    → list_all (λ c. is_some (glyph_rows l.glyphs c)) t ≡ true → SamePicture l s t → s ≡ t
tells_text l s t is glyphs_s glyphs_t same =
    let step : ℕ = step_of l.glyphs in
    let long : length s ≡ length t =
    same_count l.glyphs (length s) (length t)
    (eq_of_mul-eq-mul_left l.scale is.0 (step * length s + 1) (step * length t + 1) same.width) in
    same_number_lists s t long
    (λ i lt.
    char_same l.glyphs (slice_index s i) (slice_index t i) (AllPass-from_list_all _ s glyphs_s i 0 lt)
    (AllPass-from_list_all _ t glyphs_t i 0 (omega arith))
    (λ j row_lt column column_lt.
    sym (dot_at l.glyphs s i j column row_lt column_lt)
    ∙ sym (dot_scaled l s (i * step + column + 1) (j + 1) is)
    ∙ same.dots (l.scale * (i * step + column + 1)) (l.scale * (j + 1))
    (mul-lt-mul_of_pos_left (within l.glyphs i (length s) column lt column_lt) is.0)
    (mul-lt-mul_of_pos_left (omega (arith, row_lt)) is.0)
    ∙ dot_scaled l t (i * step + column + 1) (j + 1) is
    ∙ dot_at l.glyphs t i j column row_lt column_lt))

-- texts of the glyphs with one picture are one text
pub texts_same : (l : Lettering) (s t : List ℕ) → IsLettering l → IsOfGlyphs s → IsOfGlyphs t → SamePicture l s t
    → s ≡ t
texts_same l s t is glyphs_s glyphs_t same =
    tells_text l s t is (of_table l.glyphs s glyphs_s) (of_table l.glyphs t glyphs_t) same
