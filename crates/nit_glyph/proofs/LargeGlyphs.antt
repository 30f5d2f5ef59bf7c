-- How far large glyphs are apart.
use Rattle.std.proofs.Common.{Bool, ap₂, false, map, refl, sym, true, ℕ, ◌==◌, ◌||◌, ◌∙◌, ◌≡◌}
use Rattle.std.proofs.Common.{◌≢◌, ◌≤◌}
use Rattle.nit_glyph.proofs.Basics.{Large, bit_xor, count_ones, dots_apart, glyph_row, is_some}
use Rattle.nit_glyph.proofs.Basics.{large_glyphs, leb-true, nat_le, ne_eqb, range_with_len}
use Rattle.nit_glyph.proofs.Basics.{slice_index, sum}
use Rattle.nit_glyph.specs.Pictures.{glyph_rows}
use Rattle.nit_glyph.proofs.TableLemmas.{Glyph, glyph_of, passes, passes_all, row_of}

-- in how many dots two lists of rows differ
abbrev rows_apart : Glyph → Glyph → ℕ
rows_apart g h = sum (map (λ j. count_ones (bit_xor (slice_index g.1 j) (slice_index h.1 j))) (range_with_len 0 7))

-- whether two glyphs of different characters differ in at least five
abbrev far : Glyph → Glyph → Bool
far g h = g.0 == h.0 || nat_le 5 (rows_apart g h)

-- any two of the large table do, by computing
table_far : passes_all far large_glyphs ≡ true
unfolding lib.Count.ones
table_far = refl

-- the glyphs of different characters do
pub large_apart : (c d : ℕ) → is_some (glyph_rows Large c) ≡ true → is_some (glyph_rows Large d) ≡ true → c ≢ d
    → 5 ≤ dots_apart Large c d
large_apart c d some_c some_d other =
    let first = glyph_of Large c some_c in
    let second = glyph_of Large d some_d in
    let g : Glyph = first.0 in
    let h : Glyph = second.0 in
    let told : far g h ≡ true = passes Large far table_far c d g h first.1 second.1 in
    let differ : (g.0 == h.0) ≡ false =
    ne_eqb g.0 h.0 (λ e. other (sym first.1.character ∙ e ∙ second.1.character)) in
    let many : 5 ≤ rows_apart g h = leb-true 5 (rows_apart g h) (rw differ at told) in
    let same : (j : ℕ) → count_ones (bit_xor (slice_index g.1 j) (slice_index h.1 j))
    ≡ count_ones (bit_xor (glyph_row Large c j) (glyph_row Large d j)) =
    λ j. ap₂ (λ (a b : ℕ). count_ones (bit_xor a b)) (sym (row_of Large c g j first.1)) (sym (row_of Large d h j second.1)) in
    rw (← same 0, ← same 1, ← same 2, ← same 3, ← same 4, ← same 5, ← same 6) many
