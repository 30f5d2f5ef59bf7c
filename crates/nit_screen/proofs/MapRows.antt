-- The map of owners is written band by band, and each band row by row.
use Rattle.std.proofs.Common.{List, ap, arith, false, find, inl, inr, int_le, length, nat_le, pos}
use Rattle.std.proofs.Common.{refl, slice_index, suc-mul, sym, take_all, true, ℕ, ℤ, ◌%◌, ◌*◌, ◌+ℤ◌}
use Rattle.std.proofs.Common.{◌+◌, ◌-◌, ◌/◌, ◌<◌, ◌∙◌, ◌≡◌, ◌≤◌}
use Rattle.nit_screen.proofs.Basics.{AreOfViews, IsBegun, IsMap, IsStack, Patch, SlotView}
use Rattle.nit_screen.proofs.Basics.{StackModel, cases_lt, covers, first_at, in_bar, ints}
use Rattle.nit_screen.proofs.Basics.{is_between, mul-le-mul_right, nat_tests, no_slot, number_in}
use Rattle.nit_screen.proofs.Basics.{number_of, number_or_none, places, point, rows, rules}
use Rattle.nit_screen.proofs.Basics.{seat_owner, spans}
use borrow.Rule.Slice.PartMut.{mid_of, put_mid, same_len_mid}

-- ---- the columns of a rectangle

pub columns_same : (from first end : ℤ) (long left right x : ℕ) → first ≡ from → end ≡ (from +ℤ pos long)
    → nat_le left x ≡ int_le first (pos x) → nat_le right x ≡ int_le end (pos x)
    → is_between left right x ≡ spans from long (pos x)
columns_same from first end long left right x e f l r =
    let l' = rw e at l in
    let r' = rw f at r in
    grind (arith, ints, nat_tests, l', r')

-- ---- rows that are copies of another

-- the rows up to before z are copies of the row y, and all above it is as before
pub record RowsCopied (width y z : ℕ) (old now : List ℕ) : Type 0 where
  pub count : length now ≡ length old
  pub above : (k : ℕ) → k < (y + 1) * width → slice_index now k ≡ slice_index old k
  pub rows : (x q : ℕ) → x < width → y ≤ q → q < z
      → slice_index now (q * width + x) ≡ slice_index old (y * width + x)

pub no_copy : (width y : ℕ) (old : List ℕ) → RowsCopied width y (y + 1) old old
no_copy width y old = record {
  count = refl;
  above = λ k lt. refl;
  rows = λ x q lt from less. let e : q ≡ y = omega arith in rw e refl;
}

pub one_copy : (width y z at to n : ℕ) (old now new : List ℕ) → RowsCopied width y z old now → y < z
    → at ≡ y * width → to ≡ z * width → n ≡ width → length new ≡ length now
    → ((k : ℕ) → to ≤ k → k < to + n → slice_index new k ≡ slice_index now (at + (k - to)))
    → ((k : ℕ) → k < to → slice_index new k ≡ slice_index now k)
    → RowsCopied width y (z + 1) old new
one_copy width y z at to n old now new far after is there wide same copied still = record {
  count = same ∙ far.count;
  above = λ k lt.
      let m = mul-le-mul_right width after in
      let p = suc-mul y width in
      still k (omega arith) ∙ far.above k lt;
  rows = λ x q lt from less. elim (cases_lt q z) [
    | inl before ↦
        let m = mul-le-mul_right width before in
        let p = suc-mul q width in
        still (q * width + x) (omega arith) ∙ far.rows x q lt from before
    | inr le ↦
        let e : q ≡ z = omega arith in
        let k : at + ((z * width + x) - to) ≡ y * width + x = omega arith in
        rw e (copied (z * width + x) (omega arith) (omega arith) ∙ rw k (far.rows x y lt (omega arith) after))
  ];
}

-- ---- the rows of a band

-- what holds of a row in some rows holds in those of them from another one on
pub begun_below : (patches : List Patch) (width from y to i : ℕ) (row next : List ℕ)
    → IsBegun patches width from to i row next → from ≤ y → IsBegun patches width y to i row next
begun_below patches width from y to i row next begun below = record {
  count = begun.count;
  words = λ x z lt after less. begun.words x z lt (omega arith) less;
  skips = begun.skips;
}

-- the rows from `from` to before y have the numbers of patches, and all above them is as before
pub record BandUnderWay (patches : List Patch) (width from y : ℕ) (old map : List ℕ) : Type 0 where
  pub count : length map ≡ length old
  pub below : from ≤ y
  pub above : (k : ℕ) → k < from * width → slice_index map k ≡ slice_index old k
  pub done : (x z : ℕ) → x < width → from ≤ z → z < y
      → slice_index map (z * width + x) ≡ number_in patches x z

pub next_rows : (patches : List Patch) (width from y end at n : ℕ) (old map row map' : List ℕ)
    → BandUnderWay patches width from y old map → y < end → end * width ≤ length map → at ≡ y * width → n ≡ width
    → length row ≡ width
    → ((x z : ℕ) → x < width → y ≤ z → z < end → slice_index row x ≡ number_in patches x z)
    → length map' ≡ length (put_mid at n map row)
    → ((k : ℕ) → k < (y + 1) * width → slice_index map' k ≡ slice_index (put_mid at n map row) k)
    → ((x z : ℕ) → x < width → y ≤ z → z < end
    → slice_index map' (z * width + x) ≡ slice_index (put_mid at n map row) (y * width + x))
    → BandUnderWay patches width from end old map'
next_rows patches width from y end at n old map row map' far more room is wide shape mapped same above rows = record {
  count = same ∙ long ∙ far.count;
  below = omega (arith, far.below);
  above = λ k lt.
      let m = mul-le-mul_right width far.below in
      let p = suc-mul y width in
      above k (omega arith) ∙ before_it k (omega arith) ∙ far.above k lt;
  done = λ x z lt after less. elim (cases_lt z y) [
    | inl before ↦
        let m = mul-le-mul_right width before in
        let p = suc-mul z width in
        let p' = suc-mul y width in
        above (z * width + x) (omega arith) ∙ before_it (z * width + x) (omega arith) ∙ far.done x z lt after before
    | inr le ↦ rows x z lt le less ∙ here x lt ∙ mapped x z lt le less
  ];
}
  where
    fits : at + n ≤ length map
    fits =
        let m = mul-le-mul_right width more in
        let p = suc-mul y width in
        omega arith

    long : length (put_mid at n map row) ≡ length map
    long = same_len_mid at n map row (rw (mid_long) (shape ∙ sym wide))
      where
        mid_long : length (mid_of at n map) ≡ n
        mid_long = let f = fits in search (rules, places)

    before_it : (k : ℕ) → k < at → slice_index (put_mid at n map row) k ≡ slice_index map k
    before_it k lt = let f = fits in search (rules, places)

    here : (x : ℕ) → x < width → slice_index (put_mid at n map row) (y * width + x) ≡ slice_index row x
    here x lt = let f = fits in search (rules, places)

-- ---- all rows

-- the rows above y have their numbers
pub record MapUnderWay (s : StackModel) (y : ℕ) (map : List ℕ) : Type 0 where
  pub count : length map ≡ s.width * s.height
  pub below : s.bar ≤ y
  pub inside : y ≤ s.height
  pub done : (x z : ℕ) → x < s.width → z < y
      → slice_index map (z * s.width + x) ≡ number_of (seat_owner s.bar s.views (point x z))

pub no_map_row : (s : StackModel) (bar : ℕ) (map : List ℕ) → IsStack s → bar ≡ s.bar
    → length map ≡ s.width * s.height → ((k : ℕ) → k < bar * s.width → slice_index map k ≡ no_slot)
    → MapUnderWay s bar map
no_map_row s bar map standing is count none = record {
  count = count;
  below = omega arith;
  inside = omega (arith, standing.bar);
  done = λ x z lt less.
      let e : in_bar s.bar (point x z) ≡ true = grind (arith, ints) in
      let m = mul-le-mul_right s.width less in
      let p = suc-mul z s.width in
      none (z * s.width + x) (omega arith) ∙ rw e refl;
}

-- a row below the bar
under_bar : (s : StackModel) (x z : ℕ) → s.bar ≤ z
    → seat_owner s.bar s.views (point x z) ≡ find (λ a. covers a.view.rect (point x z)) s.views
under_bar s x z below =
    let e : in_bar s.bar (point x z) ≡ false = grind (arith, ints) in
    rw e refl

pub next_band : (s : StackModel) (y end n : ℕ) (patches kept : List Patch) (map map' : List ℕ) → MapUnderWay s y map
    → y < end → end ≤ s.height → n ≡ length s.views → AreOfViews s n patches
    → ((x z : ℕ) → y ≤ z → z < end → first_at kept x z ≡ first_at patches x z)
    → length map' ≡ length map
    → ((k : ℕ) → k < y * s.width → slice_index map' k ≡ slice_index map k)
    → ((x z : ℕ) → x < s.width → y ≤ z → z < end → slice_index map' (z * s.width + x) ≡ number_in kept x z)
    → MapUnderWay s end map'
next_band s y end n patches kept map map' far more within all views same long above rows = record {
  count = long ∙ far.count;
  below = omega (arith, far.below);
  inside = within;
  done = λ x z lt less. elim (cases_lt z y) [
    | inl before ↦
        let m = mul-le-mul_right s.width before in
        let p = suc-mul z s.width in
        above (z * s.width + x) (omega arith) ∙ far.done x z lt before
    | inr le ↦
        let whole = take_all n s.views (omega arith) in
        rows x z lt le less ∙ ap number_or_none (same x z le less) ∙ views x z lt (omega arith)
        ∙ ap number_of
        (ap (λ (xs : List SlotView). find (λ a. covers a.view.rect (point x z)) xs) whole
        ∙ sym (under_bar s x z (omega (arith, far.below))))
  ];
}

pub map_done : (s : StackModel) (y : ℕ) (map : List ℕ) → MapUnderWay s y map → s.height ≤ y → IsMap s map
map_done s y map far all k lt =
    let row : k / s.width < s.height = grind (arith, rows) in
    let column : k % s.width < s.width = grind (arith, rows) in
    let whole : k / s.width * s.width + k % s.width ≡ k = omega arith in
    rw whole at (far.done (k % s.width) (k / s.width) column (omega arith))
