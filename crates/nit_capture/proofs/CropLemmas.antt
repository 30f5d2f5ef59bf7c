-- The part of a picture inside a rectangle.
use Rattle.nit_capture.proofs.Basics.{All, HasPixels, IsPartOfScreen, IsPicture, IsPlace, IsWord}
use Rattle.nit_capture.proofs.Basics.{List, Rectangle, Shows, add_assoc, ap, arith, channels, crop}
use Rattle.nit_capture.proofs.Basics.{crop_pixel, div-mul-add, div_below, drop, flat_map}
use Rattle.nit_capture.proofs.Basics.{get_or-append-add, get_or-flat_map, ints, length}
use Rattle.nit_capture.proofs.Basics.{length-append, length-take-le, lit<, map, mod-mul-add}
use Rattle.nit_capture.proofs.Basics.{mod_below, mul-add-lt, mul_comm, nat_abs, nat_tests, negsuc}
use Rattle.nit_capture.proofs.Basics.{pos, range_with_len, screen, slice_index, take_all, to_z-of_z}
use Rattle.nit_capture.proofs.Basics.{within, ℤ}
use Rattle.std.proofs.Common.{[], of_z, refl, take, to_z, w32, ℕ, ◌%◌, ◌*◌, ◌++◌, ◌+◌, ◌-◌, ◌/◌}
use Rattle.std.proofs.Common.{◌<◌, ◌∙◌, ◌∷◌, ◌≡◌, ◌≤◌, ◌+ℤ◌, ◌≤ℤ◌}
use Rattle.nit_capture.specs.Crop.{crop_bytes, crop_place, crop_row_place, word_of_bytes}
use Rattle.nit_capture.proofs.TilesRead.{AreBytes}
use Rattle.nit_capture.proofs.Tiles.{map_fits, part_at, same_map, words_fit}

-- ---- where the rectangle lies

edge : (x : ℤ) (w width : ℕ) → pos 0 ≤ℤ x → (x +ℤ pos w) ≤ℤ (pos 0 +ℤ pos width) → nat_abs x + w ≤ width
edge (pos n) w width low high = omega (arith, ints)
edge (negsuc n) w width low high = absurd (omega (arith, ints))

pub record HasEdges (width height : ℕ) (r : Rectangle) : Type 0 where
  pub right : nat_abs r.x + r.w ≤ width
  pub bottom : nat_abs r.y + r.h ≤ height

pub on_screen : (width height : ℕ) (r : Rectangle) → IsPartOfScreen width height r → HasEdges width height r
on_screen width height r is =
    let i = within r (screen width height) is.pixels is.inside in
    record { right = edge _ _ _ i.left i.right; bottom = edge _ _ _ i.top i.bottom }

-- where a pixel lies in the rectangle
pub record InCut (r : Rectangle) (k : ℕ) : Type 0 where
  pub down : k / r.w < r.h
  pub across : k % r.w < r.w

pub in_cut : (r : Rectangle) (k : ℕ) → HasPixels r → k < r.w * r.h → InCut r k
in_cut r k some lt = grind (arith, nat_tests, div_below, mul_comm, mod_below)

pub cut_within : (width height : ℕ) (r : Rectangle) (k : ℕ) → IsPartOfScreen width height r → k < r.w * r.h
    → crop_place width r k < width * height
unfolding crop_place
cut_within width height r k is lt =
    let on = on_screen width height r is in
    let c = in_cut r k is.pixels lt in
    mul-add-lt _ _ _ _ (omega (arith, on.bottom, c.down)) (omega (arith, on.right, c.across))

-- the place of a pixel in a row
pub cut_in_row : (width : ℕ) (r : Rectangle) (row j : ℕ) → j < r.w → crop_place width r (row * r.w + j)
    ≡ crop_row_place width r row + j
unfolding crop_place crop_row_place
cut_in_row width r row j lt = grind (arith, nat_tests, div-mul-add, mod-mul-add)

pub cut_row_within : (width height : ℕ) (r : Rectangle) (row : ℕ) → IsPartOfScreen width height r → row < r.h
    → crop_row_place width r row + r.w ≤ width * height
unfolding crop_row_place
cut_row_within width height r row is lt =
    let on = on_screen width height r is in
    let last = mul-add-lt (nat_abs r.y + row) width (nat_abs r.x + (r.w - 1)) height (omega arith)
    (omega (arith, is.pixels.0)) in
    omega (arith, is.pixels.0)

-- ---- words of bytes

-- a pixel of a part of the bytes
pub pixel_in_part : (bytes : List ℕ) (from n j : ℕ) → 3 * j + 3 ≤ n → word_of_bytes (take n (drop from bytes)) (3 * j)
    ≡ word_of_bytes bytes (from + 3 * j)
unfolding word_of_bytes
pixel_in_part bytes from n j le = grind (arith, nat_tests, part_at, add_assoc)

pub pixel_in_row : (width height : ℕ) (r : Rectangle) (bytes : List ℕ) (row j : ℕ) → j < r.w
    → word_of_bytes (take (3 * r.w) (drop (length bytes - 3 * (width * height) + 3 * crop_row_place width r row) bytes))
    (3 * j) ≡ crop_pixel width height r bytes (row * r.w + j)
pixel_in_row width height r bytes row j lt = grind (arith, nat_tests, cut_in_row, pixel_in_part)

length_channels : (frame : List ℕ) → length (flat_map channels frame) ≡ 3 * length frame
length_channels [] = refl
length_channels (x ∷ xs) = omega (arith, length_channels xs)

-- the three bytes of a pixel
channel_at : (frame : List ℕ) (i c : ℕ) → i < length frame → c < 3
    → slice_index (flat_map channels frame) (3 * i + c) ≡ slice_index (channels (slice_index frame i)) c
channel_at frame i c lt few =
    grind (arith, nat_tests, length_channels, length-take-le, get_or-flat_map channels frame i c 0 0 lt few)

pixel_shown : (front frame : List ℕ) (i : ℕ) → All IsWord frame → i < length frame
    → word_of_bytes (front ++ flat_map channels frame) (length front + 3 * i) ≡ slice_index frame i
unfolding word_of_bytes
pixel_shown front frame i all lt =
    let at = λ (c : ℕ) (few : c < 3).
    get_or-append-add front (flat_map channels frame) (3 * i + c) 0 ∙ channel_at frame i c lt few in
    grind (arith, at 0 (lit< tt), at 1 (lit< tt), at 2 (lit< tt), words_fit frame all i)

pub cut_shown : (width height : ℕ) (r : Rectangle) (bytes frame : List ℕ) → IsPartOfScreen width height r
    → Shows width height bytes frame → crop_bytes width height r bytes ≡ crop width r frame
unfolding crop_bytes
cut_shown width height r bytes frame is s =
    let long = simp (length-append, length_channels) at (ap length s.bytes_are) in
    let first : length bytes - 3 * (width * height) ≡ length s.front = omega (arith, s.picture.size) in
    same_map _ _ (r.w * r.h) (λ k below.
    let lt = cut_within width height r k is below in
    rw (first, s.bytes_are) (pixel_shown s.front frame _ s.picture.words (omega (arith, s.picture.size))))

-- all rows are cut
pub all_cut : (width height : ℕ) (r : Rectangle) (bytes into : List ℕ) (rows : ℕ) → length into ≡ r.w * r.h → rows ≤ r.h
    → r.h ≤ rows
    → take (rows * r.w) into ≡ map (crop_pixel width height r bytes) (range_with_len 0 (rows * r.w))
    → into ≡ crop_bytes width height r bytes
unfolding crop_bytes
all_cut width height r bytes into rows size le ge e = grind (arith, nat_tests, mul_comm, take_all)

pub cut_is_picture : (width height : ℕ) (r : Rectangle) (bytes into : List ℕ) → AreBytes bytes → length into ≡ r.w * r.h
    → into ≡ crop_bytes width height r bytes → IsPicture r.w r.h into
unfolding crop_bytes word_of_bytes
cut_is_picture width height r bytes into are size is = grind (arith, nat_tests, map_fits)

-- a place is a number of 32 bits
pub place_is : (z y : ℤ) (n : ℕ) → IsPlace z → z ≡ y → n ≡ nat_abs (to_z w32 (of_z w32 z)) → n ≡ nat_abs y
place_is z y n p same is = grind (arith, nat_tests, to_z-of_z)
