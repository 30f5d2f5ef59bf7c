-- A character's glyph in a table.
use Rattle.std.proofs.Common.{Bool, List, Option, Some, ap, cond, false, map, refl, sym}
use Rattle.std.proofs.Common.{true, ℕ, [], ◌==◌, ◌||◌, ◌∙◌, ◌∷◌, ◌≡◌}
use Rattle.nit_glyph.proofs.Basics.{Glyphs, IsOfGlyphs, Large, Small, and_parts, eqb-true, find}
use Rattle.nit_glyph.proofs.Basics.{glyph_row, is_some, large_glyphs, list_all, list_any}
use Rattle.nit_glyph.proofs.Basics.{option_map, slice_index, small_glyphs, table_of, unwrap_or}
use Rattle.nit_glyph.specs.Pictures.{glyph_rows}
use Rattle.nit_glyph.proofs.BoolLemmas.{list_all_weaker}

-- ---- a character's glyph in a table

-- a character with its rows
abbrev pub Glyph : Type 0
Glyph = ℕ × List ℕ

-- the rows of a character in a table
abbrev pub found : List Glyph → ℕ → Option (List ℕ)
found table c = option_map (λ g. g.1) (find (λ g. g.0 == c) table)

-- the same in a table that begins with g, by whether that is the character's glyph
abbrev found_by : Glyph → List Glyph → ℕ → Bool → Option (List ℕ)
found_by g table c is = option_map (λ (h : Glyph). h.1) (cond is (Some g) (find (λ h. h.0 == c) table))

-- g is the character's glyph in the table, and passes each test that the whole table passes
pub record IsGlyphOf (table : List Glyph) (c : ℕ) (g : Glyph) : Type 0 where
  pub character : g.0 ≡ c
  pub rows : found table c ≡ Some g.1
  pub passes : (p : Glyph → Bool) → list_all p table ≡ true → p g ≡ true

found_step : (g : Glyph) (table : List Glyph) (c : ℕ) (b : Bool) → (g.0 == c) ≡ b
    → (is_some (found table c) ≡ true → (h : Glyph) × IsGlyphOf table c h) → is_some (found (g ∷ table) c) ≡ true
    → (h : Glyph) × IsGlyphOf (g ∷ table) c h
found_step g table c true e rest some = (
  g,
  record {
    character = eqb-true g.0 c e;
    rows = ap (found_by g table c) e;
    passes = λ p all. (and_parts _ _ all).0;
  },
)
found_step g table c false e rest some =
    let skips : found (g ∷ table) c ≡ found table c = ap (found_by g table c) e in
    let r = rest (sym (ap is_some skips) ∙ some) in (
      r.0,
      record {
        character = r.1.character;
        rows = skips ∙ r.1.rows;
        passes = λ p all. r.1.passes p (and_parts _ _ all).1;
      },
    )

-- what has rows in a table has a glyph there
glyph_in : (table : List Glyph) (c : ℕ) → is_some (found table c) ≡ true → (g : Glyph) × IsGlyphOf table c g
glyph_in [] c some = absurd (cc)
glyph_in (g ∷ table) c some = found_step g table c (g.0 == c) refl (glyph_in table c) some

-- what has rows has a glyph in the table of all glyphs
pub glyph_of : (s : Glyphs) (c : ℕ) → is_some (glyph_rows s c) ≡ true → (g : Glyph) × IsGlyphOf (table_of s) c g
unfolding glyph_rows
glyph_of s c some = glyph_in (table_of s) c some

-- a row of a character is that of its glyph
pub row_of : (s : Glyphs) (c : ℕ) (g : Glyph) (j : ℕ) → IsGlyphOf (table_of s) c g
    → glyph_row s c j ≡ slice_index g.1 j
unfolding glyph_rows
row_of s c g j is = ap (λ o. slice_index (unwrap_or o []) j) is.rows

-- whether a test passes each two glyphs of a table
abbrev pub passes_all : (Glyph → Glyph → Bool) → List Glyph → Bool
passes_all p table = list_all (λ g. list_all (λ h. p g h) table) table

-- so it passes those of any two characters
pub passes : (s : Glyphs) (p : Glyph → Glyph → Bool) → passes_all p (table_of s) ≡ true → (c d : ℕ) (g h : Glyph)
    → IsGlyphOf (table_of s) c g → IsGlyphOf (table_of s) d h → p g h ≡ true
passes s p all c d g h first second =
    second.passes (λ y. p g y) (first.passes (λ x. list_all (λ y. p x y) (table_of s)) all)

-- ---- the characters of both tables

-- a character has rows in a table where it is one of the table's
has_rows : (table : List Glyph) (c : ℕ) → is_some (found table c) ≡ list_any (λ d. d == c) (map (λ g. g.0) table)
has_rows [] c = refl
has_rows (g ∷ table) c = by_first (g.0 == c) (has_rows table c)
  where
    by_first : (b : Bool) → is_some (found table c) ≡ list_any (λ d. d == c) (map (λ h. h.0) table)
        → is_some (found_by g table c b) ≡ (b || list_any (λ d. d == c) (map (λ h. h.0) table))
    by_first true rest = refl
    by_first false rest = rest

-- both tables have the same characters, by computing
same_characters : map (λ (g : Glyph). g.0) large_glyphs ≡ map (λ (g : Glyph). g.0) small_glyphs
same_characters = refl

pub both_tables : (c : ℕ) → is_some (glyph_rows Large c) ≡ is_some (glyph_rows Small c)
unfolding glyph_rows
both_tables c =
    has_rows large_glyphs c ∙ ap (λ (cs : List ℕ). list_any (λ d. d == c) cs) same_characters
    ∙ sym (has_rows small_glyphs c)

-- so a text of the glyphs is one in each table
pub of_table : (s : Glyphs) (text : List ℕ) → IsOfGlyphs text
    → list_all (λ c. is_some (glyph_rows s c)) text ≡ true
of_table Small text is = is
of_table Large text is =
    list_all_weaker (λ c. is_some (glyph_rows Small c)) (λ c. is_some (glyph_rows Large c)) text
    (λ c has. both_tables c ∙ has) is
