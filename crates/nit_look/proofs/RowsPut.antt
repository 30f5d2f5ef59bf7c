-- Rows of a part that are put among others, one after the other.
use Rattle.nit_look.proofs.Basics.{Area, IsPartPut, List, ap, arith, cases_lt, div_below, drop}
use Rattle.nit_look.proofs.Basics.{area_height, has_room, inl, inr, div-add-mod', mod_below, mul-le}
use Rattle.nit_look.proofs.Basics.{mul-sub, nat_tests, places, row_fits, slice_index, take, area_width}
use Rattle.nit_look.proofs.Basics.{◌∙◌}
use Rattle.std.proofs.Common.{length, true, ℕ, ◌*◌, ◌+◌, ◌++◌, ◌-◌, ◌/◌, ◌%◌, ◌<◌, ◌≡◌, ◌≢◌, ◌≤◌}
use borrow.Rule.Slice.PartMut.{put_mid}

-- a row of the part ends in time, and the one above it before it begins
pub record IsRowOf (a : Area) (pitch words row : ℕ) : Type 0 where
  pub fits : row * pitch + area_width a ≤ words
  pub above : (other : ℕ) → other < row → other * pitch + area_width a ≤ row * pitch

pub row_of : (a : Area) (pitch words row : ℕ) → has_room a pitch words ≡ true → area_width a ≢ 0 → row < area_height a
    → IsRowOf a pitch words row
row_of a pitch words row room some less =
    let last : row * pitch ≤ (area_height a - 1) * pitch = mul-le row pitch (area_height a - 1) pitch (omega arith) (omega arith) in
    record {
      fits = grind (arith, nat_tests);
      above = λ other before.
          let next : (other + 1) * pitch ≤ row * pitch = mul-le (other + 1) pitch row pitch (omega arith) (omega arith) in
          let apart : area_width a ≤ pitch = grind (arith, nat_tests) in
          omega (arith, next, apart);
    }

-- and it stands in the frame
pub row_within : (a : Area) (width row words : ℕ) → a.left ≤ a.right → a.right ≤ width → row < area_height a
    → a.bottom * width ≤ words → (a.top + row) * width + a.left + area_width a ≤ words
row_within a width row words across inside less room =
    let next : (a.top + row + 1) * width ≤ a.bottom * width = mul-le (a.top + row + 1) width a.bottom width (omega arith)
    (omega arith) in
    omega (arith, next)

module _ (a : Area) (width pitch row from end count : ℕ) (frame old out part : List ℕ) (long : length out ≡ length old)
    (at : IsRowOf a pitch (length old) row) (from_is : from ≡ (a.top + row) * width + a.left)
    (end_is : end ≡ area_width a) (count_is : count ≡ area_width a) (reach : from + area_width a ≤ length frame) (is : part ≡ take count (drop from frame))
    (put : (r c : ℕ) → r < row → c < area_width a → slice_index out (r * pitch + c)
    ≡ slice_index frame ((a.top + r) * width + (a.left + c)))
    (kept : (k : ℕ) → ((r c : ℕ) → r < row → c < area_width a → k ≢ r * pitch + c) → slice_index out k ≡ slice_index old k) where
  abbrev now : List ℕ
  now = put_mid (row * pitch) end out part

  outside_low : (k : ℕ) → k < row * pitch → slice_index now k ≡ slice_index out k
  outside_low k low = grind (arith, places, at.fits)

  outside_high : (k : ℕ) → row * pitch + area_width a ≤ k → slice_index now k ≡ slice_index out k
  outside_high k past = grind (arith, places, at.fits)

  here : (c : ℕ) → c < area_width a → slice_index now (row * pitch + c) ≡ slice_index frame (from + c)
  here c less = grind (arith, places, at.fits)

  pub put_more : (r c : ℕ) → r < row + 1 → c < area_width a → slice_index now (r * pitch + c)
      ≡ slice_index frame ((a.top + r) * width + (a.left + c))
  put_more r c below less = elim (cases_lt r row) [
    | inl before ↦ let low = at.above r before in rw (outside_low (r * pitch + c) (omega arith)) (put r c before less)
    | inr past ↦
        let same : r ≡ row = omega arith in
        let word : from + c ≡ (a.top + row) * width + (a.left + c) = omega arith in
        rw same (rw word at (here c less))
  ]

  pub kept_more : (k : ℕ) → ((r c : ℕ) → r < row + 1 → c < area_width a → k ≢ r * pitch + c)
      → slice_index now k ≡ slice_index old k
  kept_more k none =
      let as_was = kept k (λ r c before less. none r c (omega arith) less) in
      elim (cases_lt k (row * pitch)) [
        | inl low ↦ rw (outside_low k low) as_was
        | inr past ↦ elim (cases_lt k (row * pitch + area_width a)) [
          | inl inside ↦ absurd (none row (k - row * pitch) (omega arith) (omega arith) (omega arith))
          | inr far ↦ rw (outside_high k far) as_was
        ]
      ]

-- so many rows have so many words
rows_between : (top bottom width : ℕ) → top ≤ bottom → bottom * width ≡ top * width + (bottom - top) * width
rows_between top bottom width down =
    let rows = mul-sub width bottom top in
    let less : top * width ≤ bottom * width = mul-le top width bottom width down (omega arith) in
    omega (arith, rows, less)

-- rows as wide as the pitch stand one behind the other, and end in time
pub rows_fit : (a : Area) (words : ℕ) → a.left ≡ 0 → a.top ≤ a.bottom → 0 < a.right
    → has_room a a.right words ≡ true → a.bottom * a.right - a.top * a.right ≤ words
rows_fit a words left down some room =
    let rows = rows_between a.top a.bottom a.right down in
    grind (arith, nat_tests, mul-sub)

-- and each word of them stands at its place
module _ (a : Area) (frame out : List ℕ) (left : a.left ≡ 0) (down : a.top ≤ a.bottom) (some : 0 < a.right)
    (high : a.bottom * a.right ≤ length frame) (fits : a.bottom * a.right - a.top * a.right ≤ length out) where
  abbrev words : ℕ
  words = a.bottom * a.right - a.top * a.right

  abbrev rows_put : List ℕ
  rows_put = take words (drop (a.top * a.right) frame) ++ drop words out

  known : a.bottom * a.right ≡ a.top * a.right + area_height a * a.right
  known = rows_between a.top a.bottom a.right down

  within : (k : ℕ) → k < words → slice_index rows_put k ≡ slice_index frame (a.top * a.right + k)
  within k less = grind (arith, places)

  beyond : (k : ℕ) → words ≤ k → slice_index rows_put k ≡ slice_index out k
  beyond k past = grind (arith, places)

  pub rows_at_once : IsPartPut a.right a a.right frame out rows_put
  rows_at_once = record {
    put = λ row column below less.
        let fit = row_fits row a.right (area_height a) a.right below (omega arith) in
        let word : a.top * a.right + (row * a.right + column) ≡ (a.top + row) * a.right + (a.left + column) = omega arith in
        within (row * a.right + column) (omega (arith, fit, known)) ∙ ap (slice_index frame) word;
    kept = λ k none. elim (cases_lt k words) [
      | inl inside ↦
          let row = div_below k a.right (area_height a) some (omega (arith, known)) in
          let at = div-add-mod' k a.right in
          absurd (none (k / a.right) (k % a.right) row (omega (arith, mod_below k a.right some)) (omega (arith, at)))
      | inr past ↦ beyond k past
    ];
  }
