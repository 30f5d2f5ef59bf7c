-- Where the pixels of tiles lie: each place of a picture is that of one pixel of one tile.
use Rattle.nit_capture.proofs.Basics.{All, All-set, Bool, IsPicture, IsPictureSize, IsWord, List}
use Rattle.nit_capture.proofs.Basics.{ap, append-nil, append_assoc, arith, div-add-mod'}
use Rattle.nit_capture.proofs.Basics.{div-mul-add, div_below, drop, eq-eqb, ext_get_or, false}
use Rattle.nit_capture.proofs.Basics.{fill_by_all, filter, get_or-drop, get_or-map-range_with_len}
use Rattle.nit_capture.proofs.Basics.{get_or-range_with_len, get_or-take, get_or_past, length-drop}
use Rattle.nit_capture.proofs.Basics.{length-map-range_with_len, length-range_with_len, length-set}
use Rattle.nit_capture.proofs.Basics.{length-take, list_any, list_any_at, list_any_none}
use Rattle.nit_capture.proofs.Basics.{map-range_with_len_more, mod-mul-add, mod_below, mul-add-lt}
use Rattle.nit_capture.proofs.Basics.{mul-le, nat_tests, range_with_len, same_from_place}
use Rattle.nit_capture.proofs.Basics.{slice_index, slice_set, take-put_mid, tile}
use Rattle.nit_capture.proofs.Basics.{true_from_ne_false, true≢false}
use Rattle.nit_capture.specs.Tiles.{area, differs, high, left_of, place, tile_count, top_of, wide}
use Rattle.nit_capture.specs.Tiles.{row_place, tiles_along}
use Rattle.std.proofs.Common.{length, map, refl, suc, true, ◌∙◌, ℕ, min, mul_comm, take, zero, ◌%◌}
use Rattle.std.proofs.Common.{◌*◌, ◌++◌, ◌+◌, ◌-◌, ◌/◌, ◌<◌, ◌^◌, ◌≡◌, ◌≤◌}
use borrow.Rule.Slice.PartMut.{put_mid}

pub left_fits : (w t : ℕ) → 1 ≤ w → left_of w t < w
unfolding left_of tiles_along
left_fits w t some = grind (arith, nat_tests, mod_below)

pub top_fits : (w h t : ℕ) → 1 ≤ w → t < tile_count w h → top_of w t < h
unfolding top_of tile_count tiles_along
top_fits w h t some lt = grind (arith, nat_tests, mul_comm, div_below)

pub record Wide (w t : ℕ) : Type 0 where
  pub some : 1 ≤ wide w t
  pub few : wide w t ≤ 16
  pub within : left_of w t + wide w t ≤ w

pub wide_some : (w t : ℕ) → 1 ≤ w → Wide w t
unfolding wide
wide_some w t some = grind (arith, nat_tests, left_fits)

pub record High (w h t : ℕ) : Type 0 where
  pub some : 1 ≤ high w h t
  pub few : high w h t ≤ 16
  pub within : top_of w t + high w h t ≤ h

pub high_some : (w h t : ℕ) → 1 ≤ w → t < tile_count w h → High w h t
unfolding high
high_some w h t some lt = grind (arith, nat_tests, top_fits)

-- where a pixel lies within its tile
pub record Within (w h t k : ℕ) : Type 0 where
  pub down : k / wide w t < high w h t
  pub across : k % wide w t < wide w t

pub pixel_within : (w h t k : ℕ) → 1 ≤ w → k < area w h t → Within w h t k
unfolding area
pixel_within w h t k some lt = grind (arith, nat_tests, wide_some, div_below, mod_below)

-- the row of a pixel is one of the picture's
pub place_down : (w h t k : ℕ) → 1 ≤ w → t < tile_count w h → k < area w h t → top_of w t + k / wide w t < h
place_down w h t k some lt below = grind (arith, high_some w h t some lt, pixel_within w h t k some below)

pub place_within : (w h t k : ℕ) → 1 ≤ w → t < tile_count w h → k < area w h t → place w t k < w * h
unfolding place
place_within w h t k some lt below =
    let W = wide_some w t some in
    let p = pixel_within w h t k some below in
    mul-add-lt _ _ _ _ (place_down w h t k some lt below) (omega arith)

-- two sums of sixteens and a rest
same_parts : (a b r s : ℕ) → r < 16 → s < 16 → 16 * a + r ≡ 16 * b + s → (a ≡ b) × (r ≡ s)
same_parts a b r s p q e = (omega arith, omega arith)

-- two numbers of one quotient and one rest
same_whole : (a b m : ℕ) → a / m ≡ b / m → a % m ≡ b % m → a ≡ b
same_whole a b m p q = rw (← div-add-mod' a m, ← div-add-mod' b m, p, q) refl

pub same_place : (w h t u j k : ℕ) → 1 ≤ w → t < tile_count w h → u < tile_count w h → j < area w h t → k < area w h u
    → place w t j ≡ place w u k → (t ≡ u) × (j ≡ k)
unfolding place left_of top_of
same_place w h t u j k some below_t below_u below_j below_k e =
    let p = pixel_within w h t j some below_j in
    let q = pixel_within w h u k some below_k in
    let s = same_from_place (top_of w t + j / wide w t) (left_of w t + j % wide w t) (top_of w u + k / wide w u)
    (left_of w u + k % wide w u) w (grind (arith, wide_some)) (grind (arith, wide_some)) e in
    grind (arith, nat_tests, wide_some, high_some, same_parts, same_whole)

-- the pixel of a tile that lies at a place
pub record LiesAt (w h i : ℕ) : Type 0 where
  pub number : ℕ
  pub pixel : ℕ
  pub tile_below : number < tile_count w h
  pub pixel_below : pixel < area w h number
  pub is : place w number pixel ≡ i

sixteenth_below : (x w : ℕ) → x < w → x / 16 < tiles_along w
unfolding tiles_along
sixteenth_below x w lt = omega arith

pub lies_at : (w h i : ℕ) → 1 ≤ w → i < w * h → LiesAt w h i
unfolding place area tile_count wide high left_of top_of
lies_at w h i some lt =
    let x_below = mod_below i w some in
    let y_below : i / w < h = grind (arith, mul_comm, div_below) in
    let column = sixteenth_below (i % w) w x_below in
    let row = sixteenth_below (i / w) h y_below in
    let t : ℕ = i / w / 16 * tiles_along w + i % w / 16 in
    let is_row = div-mul-add (i / w / 16) (tiles_along w) (i % w / 16) column in
    let is_column = mod-mul-add (i / w / 16) (tiles_along w) (i % w / 16) column in
    let W : ℕ = min 16 (w - 16 * (t % tiles_along w)) in
    let H : ℕ = min 16 (h - 16 * (t / tiles_along w)) in
    let x_rest : i % w % 16 < W = omega arith in
    let k : ℕ = i / w % 16 * W + i % w % 16 in
    let down = div-mul-add (i / w % 16) W (i % w % 16) x_rest in
    let across = mod-mul-add (i / w % 16) W (i % w % 16) x_rest in
    let y_is : 16 * (t / tiles_along w) + k / W ≡ i / w = omega arith in
    let x_is : 16 * (t % tiles_along w) + k % W ≡ i % w = omega arith in
    record {
      number = t;
      pixel = k;
      tile_below = mul-add-lt _ _ _ _ row column;
      pixel_below = rw (mul_comm H W) (mul-add-lt _ _ _ _ (omega arith) x_rest);
      is = rw (y_is, x_is) (div-add-mod' i w);
    }

-- Numbers one after another, and tiles that differ.

-- ---- the same for each number

pub same_map : (f g : ℕ → ℕ) (count : ℕ) → ((u : ℕ) → u < count → f u ≡ g u)
    → map f (range_with_len 0 count) ≡ map g (range_with_len 0 count)
same_map f g count same = fill_by_all g _ count 0 (length-map-range_with_len f 0 count)
    (λ k lt. get_or-map-range_with_len f 0 count k k 0 lt (omega arith) ∙ same k lt)

pub same_any : (f g : ℕ → Bool) (t count : ℕ) → ((u : ℕ) → t ≤ u → u < t + count → f u ≡ g u)
    → list_any f (range_with_len t count) ≡ list_any g (range_with_len t count)
same_any f g t zero same = refl
same_any f g t (suc count) same = grind (arith, nat_tests, same_any f g (t + 1) count)

pub same_filter : (f g : ℕ → Bool) (t count : ℕ) → ((u : ℕ) → t ≤ u → u < t + count → f u ≡ g u)
    → filter f (range_with_len t count) ≡ filter g (range_with_len t count)
same_filter f g t zero same = refl
same_filter f g t (suc count) same = grind (arith, nat_tests, same_filter f g (t + 1) count)

-- ---- tiles that differ, and tiles that are the same

-- two pictures have the same pixels in tile t
abbrev pub SameTile : ℕ → ℕ → ℕ → List ℕ → List ℕ → Type 0
SameTile w h t a b = (k : ℕ) → k < area w h t → slice_index a (place w t k) ≡ slice_index b (place w t k)

differs_at : (w h : ℕ) (a b : List ℕ) (t k : ℕ) → k < area w h t
    → (slice_index a (place w t k) ≡ slice_index b (place w t k) → ⊥) → differs w h a b t ≡ true
unfolding differs
differs_at w h a b t k below ne =
    list_any_at _ (range_with_len 0 (area w h t)) k 0 (rw length-range_with_len below)
    (grind (arith, nat_tests, get_or-range_with_len))

pub same_tile : (w h : ℕ) (a b : List ℕ) (t : ℕ) → SameTile w h t a b → differs w h a b t ≡ false
unfolding differs
same_tile w h a b t same = grind (arith, nat_tests, list_any_none, length-range_with_len, get_or-range_with_len, eq-eqb)

pub same_pixel : (w h : ℕ) (a b : List ℕ) (t : ℕ) → differs w h a b t ≡ false → SameTile w h t a b
same_pixel w h a b t is k below = grind (arith, nat_tests, true≢false, differs_at)

pub same_differs : (w h : ℕ) (a b p q : List ℕ) (t : ℕ) → SameTile w h t a b → SameTile w h t p q
    → differs w h a p t ≡ differs w h b q t
unfolding differs
same_differs w h a b p q t one other = grind (arith, nat_tests, same_any)

pub same_pixels : (w h : ℕ) (a b : List ℕ) (t : ℕ) → SameTile w h t a b → tile w h a t ≡ tile w h b t
same_pixels w h a b t same = same_map _ _ (area w h t) same

-- pictures whose tiles are the same are the same
pub same_picture : (w h : ℕ) (a b : List ℕ) → 1 ≤ w → length a ≡ w * h → length b ≡ w * h
    → ((u : ℕ) → u < tile_count w h → SameTile w h u a b) → a ≡ b
same_picture w h a b some size_a size_b same = ext_get_or 0 a b (cc) (λ i below.
    let l = lies_at w h i some (omega arith) in rw l.is at (same l.number l.tile_below l.pixel l.pixel_below))

-- ---- pixels that stand side by side in a row

-- a part that ends so far after its start is so long
pub span_is : (at wide : ℕ) → at + wide - at ≡ wide
span_is at wide = omega arith

pub next_row : (row wide : ℕ) → (row + 1) * wide ≡ row * wide + wide
next_row row wide = omega arith

-- what is given for so many numbers, and for as many more
pub map_joined : (f g : ℕ → ℕ) (m n : ℕ) → ((j : ℕ) → j < n → f (m + j) ≡ g j)
    → map f (range_with_len 0 (m + n)) ≡ map f (range_with_len 0 m) ++ map g (range_with_len 0 n)
map_joined f g m zero same = grind (arith, nat_tests, append-nil)
map_joined f g m (suc n) same =
    let e : m + suc n ≡ (m + n) + 1 = omega arith in
    let one : suc n ≡ n + 1 = omega arith in
    let last = ap (λ (k : ℕ). map g (range_with_len 0 k)) one ∙ map-range_with_len_more g 0 n n (omega arith) in
    rw (e, last) (grind (arith, map_joined f g m n, map-range_with_len_more, append_assoc))

pub part_long : (p : List ℕ) (at n : ℕ) → at + n ≤ length p → length (take n (drop at p)) ≡ n
part_long p at n le = omega (arith, length-take n (drop at p), length-drop at p)

pub part_at : (p : List ℕ) (at n j : ℕ) → j < n → slice_index (take n (drop at p)) j ≡ slice_index p (at + j)
part_at p at n j lt = get_or-take n (drop at p) j 0 lt ∙ get_or-drop at p j 0

-- the words of a list from one place on
pub part_is : (p : List ℕ) (at n : ℕ) → at + n ≤ length p
    → take n (drop at p) ≡ map (λ j. slice_index p (at + j)) (range_with_len 0 n)
part_is p at n le = fill_by_all _ (take n (drop at p)) n 0 (part_long p at n le) (part_at p at n)

-- ---- the rows of a tile

pub place_in_row : (w t row j : ℕ) → j < wide w t → place w t (row * wide w t + j) ≡ row_place w t row + j
unfolding place row_place
place_in_row w t row j lt = grind (arith, nat_tests, div-mul-add, mod-mul-add)

pub row_within : (w h t row : ℕ) → 1 ≤ w → t < tile_count w h → row < high w h t → row_place w t row + wide w t ≤ w * h
unfolding row_place
row_within w h t row some below lt =
    let W = wide_some w t some in
    let H = high_some w h t some below in
    let last = mul-add-lt (top_of w t + row) w (left_of w t + (wide w t - 1)) h (omega arith) (omega arith) in
    omega arith

-- ---- rows of two pictures

-- two pictures have the same pixels in the first rows of tile t
abbrev pub SameRows : ℕ → ℕ → ℕ → List ℕ → List ℕ → Type 0
SameRows w t rows a b = (k : ℕ) → k < rows * wide w t → slice_index a (place w t k) ≡ slice_index b (place w t k)

pub one_more_row : (w t row : ℕ) (a b : List ℕ) → SameRows w t row a b → take (wide w t) (drop (row_place w t row) a)
    ≡ take (wide w t) (drop (row_place w t row) b) → SameRows w t (row + 1) a b
one_more_row w t row a b same e k lt =
    grind (arith, nat_tests, next_row, part_at, place_in_row w t row (k - row * wide w t))

pub all_rows : (w h t rows : ℕ) (a b : List ℕ) → high w h t ≤ rows → SameRows w t rows a b → differs w h a b t ≡ false
unfolding area
all_rows w h t rows a b le same = grind (arith, nat_tests, same_tile, mul-le)

pub row_differs : (w h t row : ℕ) (a b : List ℕ) → 1 ≤ w → t < tile_count w h → row < high w h t → length a ≡ w * h
    → length b ≡ w * h
    → (take (wide w t) (drop (row_place w t row) a) ≡ take (wide w t) (drop (row_place w t row) b) → ⊥)
    → differs w h a b t ≡ true
unfolding area
row_differs w h t row a b some below lt size_a size_b ne =
    let at : ℕ = row_place w t row in
    let within = row_within w h t row some below lt in
    true_from_ne_false _ (λ alike. ne (
    rw (part_is a at (wide w t) (omega (arith, size_a)), part_is b at (wide w t) (omega (arith, size_b)))
    (same_map _ _ (wide w t) (λ j small.
    let inside = mul-add-lt row (wide w t) j (high w h t) lt small in
    rw (← place_in_row w t row j small) (same_pixel w h a b t alike (row * wide w t + j)
    (omega (arith, mul_comm (wide w t) (high w h t))))))))

-- ---- bounds

-- a place in a picture of this size
pub place_small : (w h : ℕ) → IsPictureSize w h → w * h ≤ 786432
place_small w h s = mul-le w h 1024 768 s.columns s.rows

-- ---- a row that was copied

-- A row was written after the rows before it.
pub row_put : (f g : ℕ → ℕ) (row wide k : ℕ) (words part : List ℕ) → row * wide + wide ≤ length words
    → take (row * wide) words ≡ map f (range_with_len 0 (row * wide))
    → part ≡ map g (range_with_len 0 wide) → ((j : ℕ) → j < wide → f (row * wide + j) ≡ g j)
    → take ((row + 1) * wide) (put_mid (row * wide) k words part) ≡ map f (range_with_len 0 ((row + 1) * wide))
row_put f g row wide k words part room before is same =
    grind (arith, nat_tests, length-map-range_with_len, next_row, take-put_mid, map_joined)

-- a row of a tile has room among so many words
pub row_room : (w h t row : ℕ) → 1 ≤ w → t < tile_count w h → row < high w h t → row * wide w t + wide w t ≤ 256
row_room w h t row some below lt = grind (arith, nat_tests, wide_some, high_some, mul-le, next_row)

-- ---- pictures that keep their size, and the words that they have

pub picture_set : (w h : ℕ) (frame : List ℕ) (at word : ℕ) → IsPicture w h frame → IsWord word
    → IsPicture w h (slice_set frame at word)
picture_set w h frame at word p fits =
    record { size = length-set _ _ _ ∙ p.size; words = All-set IsWord frame at word fits p.words }

-- every word that a picture has, and 0 after its end
pub words_fit : (p : List ℕ) → All IsWord p → (i : ℕ) → slice_index p i < 2 ^ 24
words_fit p all i = grind (arith, nat_tests, get_or_past)

pub map_fits : (f : ℕ → ℕ) (n : ℕ) → ((i : ℕ) → f i < 2 ^ 24) → All IsWord (map f (range_with_len 0 n))
map_fits f n fits k d lt = grind (arith, nat_tests, length-map-range_with_len, get_or-map-range_with_len)

pub tile_fits : (w h t : ℕ) (p : List ℕ) → IsPicture w h p → All IsWord (tile w h p t)
tile_fits w h t p is = grind (arith, nat_tests, map_fits, words_fit)
