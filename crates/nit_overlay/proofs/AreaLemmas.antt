-- An area is painted part by part: rows of runs, bands of rows, and runs of columns; and the rows of the bar.
use Rattle.std.proofs.Common.{List, ap, arith, cond, false, get_or, inl, inr, length, min, refl}
use Rattle.std.proofs.Common.{rules, slice_index, true, ℕ, ◌%◌, ◌*◌, ◌+◌, ◌-◌, ◌/◌, ◌<◌, ◌||◌, ◌∙◌}
use Rattle.std.proofs.Common.{◌≡◌, ◌≤◌, ◌⊎◌}
use Rattle.nit_overlay.proofs.Basics.{Area, IsAreaBy, IsOverlaid, IsPainted, Scenery, bar_text}
use Rattle.nit_overlay.proofs.Basics.{bar_word, between, cases_lt, div-lt_iff_lt-mul, div-mul-add}
use Rattle.nit_overlay.proofs.Basics.{get_or-between, in_area, ink_of, ints, is_in_picture, picture_height, text_dot, Lettering}
use Rattle.nit_overlay.proofs.Basics.{le-div, max, mod-mul-add, nat_lt, nat_tests, picture_width}
use Rattle.nit_overlay.proofs.Basics.{pixel, places, point, unowned_word}
use Rattle.nit_overlay.proofs.FrameLemmas.{in_bar_row}
use Rattle.std.proofs.Common.{Bool, set, sym}
use Rattle.std.proofs.lemmas.Bool.{cases_eq}
use Rattle.std.proofs.lemmas.List.{get_or-set_other, get_or-set_same}
use Rattle.std.proofs.lemmas.Nat.{div-add-mod'}
use borrow.Rule.Slice.PartMut.{put_mid}

-- ---- a row is painted part by part

pub nothing : {f : ℕ → ℕ → ℕ} {raw row : List ℕ} {from : ℕ} → IsPainted f raw row row from from
nothing = record { painted = λ k le lt. absurd (omega arith); before = λ k lt. refl; after = λ k le. refl }

-- what is painted by one rule is painted by another that gives the same words there
pub painted_by : {f g : ℕ → ℕ → ℕ} {raw old now : List ℕ} {from to : ℕ} → IsPainted f raw old now from to
    → ((k w : ℕ) → from ≤ k → k < to → f k w ≡ g k w) → IsPainted g raw old now from to
painted_by {raw = raw} row same = record {
  painted = λ k le lt. row.painted k le lt ∙ same k (slice_index raw k) le lt;
  before = row.before;
  after = row.after;
}

pub joined : {f : ℕ → ℕ → ℕ} {raw old now new : List ℕ} {from mid to : ℕ} → from ≤ mid → mid ≤ to
    → IsPainted f raw old now from mid → IsPainted f raw now new mid to → IsPainted f raw old new from to
joined {mid = mid} le more first second = record {
  painted = λ k from_le lt. grind (arith, second.before k, first.painted k from_le, second.painted k);
  before = λ k lt. second.before k (omega arith) ∙ first.before k lt;
  after = λ k ge. second.after k ge ∙ first.after k (omega arith);
}

-- ---- a part of a list that is put back

put_in : (a n : ℕ) (xs mid : List ℕ) (k : ℕ) → a + n ≤ length xs → length mid ≡ n → k < n
    → get_or (put_mid a n xs mid) (a + k) 0 ≡ get_or mid k 0
put_in a n xs mid k room long lt = search (rules, places)

-- a row that was painted by its columns, in the whole
put_back : {f : ℕ → ℕ → ℕ} {raw old mid : List ℕ} (start n : ℕ) {from to : ℕ} → start + n ≤ length old
    → length mid ≡ n → from ≤ to → to ≤ n
    → IsPainted (λ x w. f (start + x) w) (between start (start + n) raw) (between start (start + n) old) mid from to
    → IsPainted f raw old (put_mid start n old mid) (start + from) (start + to)
put_back {f} {raw} {old} {mid} start n {from} {to} room long order short row = record {
  painted =
      λ k le lt.
      let e : start + (k - start) ≡ k = omega arith in
      put_there k (omega arith) (omega arith) ∙ (rw e at (row.painted (k - start) (omega arith) (omega arith)))
      ∙ ap (f k) (in_row raw k (omega arith) (omega arith));
  before =
      λ k lt.
      elim (cases_lt k start) [
        | inl less ↦ search (rules, places)
        | inr ge ↦ kept k ge (omega arith) (row.before (k - start) (omega arith))
      ];
  after =
      λ k ge.
      elim (cases_lt k (start + n)) [
        | inl less ↦ kept k (omega arith) less (row.after (k - start) (omega arith))
        | inr past ↦ search (rules, places)
      ];
}
  where
    put_there : (k : ℕ) → start ≤ k → k < start + n → get_or (put_mid start n old mid) k 0 ≡ get_or mid (k - start) 0
    put_there k from lt =
        let e : start + (k - start) ≡ k = omega arith in
        rw e at (put_in start n old mid (k - start) room long (omega arith))

    in_row : (xs : List ℕ) (k : ℕ) → start ≤ k → k < start + n
        → get_or (between start (start + n) xs) (k - start) 0 ≡ get_or xs k 0
    in_row xs k from lt =
        let e : start + (k - start) ≡ k = omega arith in
        rw e at (get_or-between xs start (start + n) (k - start) 0 (omega arith))

    kept : (k : ℕ) → start ≤ k → k < start + n
        → get_or mid (k - start) 0 ≡ get_or (between start (start + n) old) (k - start) 0
        → get_or (put_mid start n old mid) k 0 ≡ get_or old k 0
    kept k from lt same = put_there k from lt ∙ same ∙ in_row old k from lt

-- ---- the rows of an area

-- as far as the rows have come
pub record RowsSoFar (f : ℕ → ℕ → ℕ) (a : Area) (width : ℕ) (raw old now : List ℕ) (y : ℕ) : Type 0 where
  pub after : a.top ≤ y
  pub inside : y ≤ a.bottom
  pub whole : IsOverlaid f (λ k. in_area a (k % width) (k / width)) raw old now (y * width)

below : (a : Area) (width k : ℕ) → 0 < width → a.bottom * width ≤ k → in_area a (k % width) (k / width) ≡ false
below a width k some ge =
    let row : a.bottom ≤ k / width = le-div a.bottom k width some ge in grind (arith, nat_tests)

-- no row so far
pub no_row : {f : ℕ → ℕ → ℕ} {a : Area} {width : ℕ} {raw old : List ℕ} → 0 < width
    → a.top ≤ a.bottom → RowsSoFar f a width raw old old a.top
no_row {f} {a} {width} {raw} {old} some down = record {
  after = omega arith;
  inside = down;
  whole = record { words = λ k lt. grind (arith, nat_tests, above k lt); rest = λ k ge. refl };
}
  where
    above : (k : ℕ) → k < a.top * width → k / width < a.top
    above k lt = (div-lt_iff_lt-mul some).1 lt

-- a row whose words are told by their indexes
next_part : {f : ℕ → ℕ → ℕ} {a : Area} {width y : ℕ} {raw old now new : List ℕ} → RowsSoFar f a width raw old now y
    → a.left ≤ a.right → a.right ≤ width → y < a.bottom
    → IsPainted f raw now new (y * width + a.left) (y * width + a.right) → RowsSoFar f a width raw old new (y + 1)
next_part {f} {a} {width} {y} {raw} {old} {now} {new} far order short down part = record {
  after = omega (arith, far.after);
  inside = omega arith;
  whole = record {
    words = λ k lt. grind (arith, part.before k, far.whole.words k, in_the_row k);
    rest = λ k ge. part.after k (omega arith) ∙ far.whole.rest k (omega arith);
  };
}
  where
    in_the_row : (k : ℕ) → y * width ≤ k → k < y * width + width
        → get_or new k 0 ≡ cond (in_area a (k % width) (k / width)) (f k (get_or raw k 0)) (get_or old k 0)
    in_the_row k ge lt =
        let e : y * width + (k - y * width) ≡ k = omega arith in
        let column = rw e at (mod-mul-add y width (k - y * width) (omega arith)) in
        let row = rw e at (div-mul-add y width (k - y * width) (omega arith)) in
        let top = far.after in
        grind (arith, nat_tests, part.before k, part.painted k, part.after k, far.whole.rest k ge)

-- a row that was painted by columns and rows
pub next_of : (f : ℕ → ℕ → ℕ → ℕ) {a : Area} {width y : ℕ} {raw old now mid : List ℕ}
    → RowsSoFar (λ k w. f (k % width) (k / width) w) a width raw old now y
    → IsPainted (λ x w. f x y w) (between (y * width) (y * width + width) raw)
    (between (y * width) (y * width + width) now) mid a.left a.right
    → a.left ≤ a.right → a.right ≤ width → y < a.bottom → y * width + width ≤ length now → length mid ≡ width
    → RowsSoFar (λ k w. f (k % width) (k / width) w) a width raw old
    (put_mid (y * width) (y * width + width - y * width) now mid) (y + 1)
next_of f {width = width} {y} far row order short less room long =
    let is : y * width + width - y * width ≡ width = omega arith in
    rw is (next_part far order short less (put_back (y * width) width room long order short
    (painted_by row (λ x w from lt.
    let on : x < width = omega arith in rw (mod-mul-add y width x on, div-mul-add y width x on)))))

pub last_row : {f : ℕ → ℕ → ℕ} {count : ℕ} {a : Area} {width : ℕ} {raw old now : List ℕ}
    → RowsSoFar f a width raw old now a.bottom → 0 < width → a.bottom * width ≤ count
    → IsOverlaid f (λ k. in_area a (k % width) (k / width)) raw old now count
last_row {a = a} {width} far some room = record {
  words = λ k lt. grind (arith, nat_tests, far.whole.words k, far.whole.rest k, below a width k some);
  rest = λ k ge. far.whole.rest k (omega arith);
}

-- ---- parts of an area

pub in_rows : (a : Area) (x y : ℕ) → in_area a x y ≡ true → (a.top ≤ y) × (y < a.bottom)
in_rows a x y on = (grind (arith, nat_tests), grind (arith, nat_tests))

pub in_columns : (a : Area) (x y : ℕ) → in_area a x y ≡ true → (a.left ≤ x) × (x < a.right)
in_columns a x y on = (grind (arith, nat_tests), grind (arith, nat_tests))

-- what is painted by one function is painted by another that gives the same words there
pub area_as : (f g : ℕ → ℕ → ℕ → ℕ) (a : Area) (width : ℕ) {raw old new : List ℕ} {count : ℕ}
    → ((x y w : ℕ) → in_area a x y ≡ true → f x y w ≡ g x y w)
    → IsAreaBy f a width raw old new count → IsAreaBy g a width raw old new count
area_as f g a width {raw} {old} same is = record {
  words = λ k lt. grind (arith, is.words k lt, same (k % width) (k / width) (get_or raw k 0));
  rest = is.rest;
}

no_pixels : (f : ℕ → ℕ → ℕ → ℕ) (a : Area) (width : ℕ) {raw old : List ℕ} {count : ℕ}
    → (a.right ≤ a.left) ⊎ (a.bottom ≤ a.top) → IsAreaBy f a width raw old old count
no_pixels f a width none = record { words = λ k lt. grind (arith, nat_tests, none); rest = λ k ge. refl }

-- one area is painted first, and then another
more_part : (f : ℕ → ℕ → ℕ → ℕ) (width : ℕ) {raw old mid new : List ℕ} {count : ℕ} (first second all : Area)
    → ((x y : ℕ) → in_area all x y ≡ (in_area second x y || in_area first x y))
    → IsAreaBy f first width raw old mid count → IsAreaBy f second width raw mid new count
    → IsAreaBy f all width raw old new count
more_part f width first second all is one two = record {
  words = λ k lt. grind (arith, two.words k lt, one.words k lt, is (k % width) (k / width));
  rest = λ k ge. two.rest k ge ∙ one.rest k ge;
}

-- the rows of an area are painted to before y
pub record RowsPainted (f : ℕ → ℕ → ℕ → ℕ) (a : Area) (width : ℕ) (raw old now : List ℕ) (count y : ℕ) : Type 0 where
  pub after : a.top ≤ y
  pub inside : y ≤ a.bottom
  pub painted : IsAreaBy f (record a { bottom = y }) width raw old now count

pub no_rows : {f : ℕ → ℕ → ℕ → ℕ} {a : Area} {width : ℕ} {raw old : List ℕ} {count : ℕ} → a.top ≤ a.bottom
    → RowsPainted f a width raw old old count a.top
no_rows {f} {a} {width} down = record {
  after = omega arith;
  inside = down;
  painted = no_pixels f (record a { bottom = a.top }) width (inr (omega arith));
}

pub more_rows : {f : ℕ → ℕ → ℕ → ℕ} {a : Area} {width y next : ℕ} {raw old mid new : List ℕ} {count : ℕ}
    → RowsPainted f a width raw old mid count y → y ≤ next → next ≤ a.bottom
    → IsAreaBy f (record a { top = y; bottom = next }) width raw mid new count
    → RowsPainted f a width raw old new count next
more_rows {f} {a} {width} {y} {next} far le within part = record {
  after = omega (arith, far.after);
  inside = within;
  painted = more_part f width (record a { bottom = y }) (record a { top = y; bottom = next })
      (record a { bottom = next }) (λ u v. let from = far.after in grind (arith, nat_tests)) far.painted part;
}

-- its columns are painted to before x
pub record ColumnsPainted (f : ℕ → ℕ → ℕ → ℕ) (a : Area) (width : ℕ) (raw old now : List ℕ) (count x : ℕ) : Type 0
  where
    pub after : a.left ≤ x
    pub inside : x ≤ a.right
    pub painted : IsAreaBy f (record a { right = x }) width raw old now count

pub no_columns : {f : ℕ → ℕ → ℕ → ℕ} {a : Area} {width : ℕ} {raw old : List ℕ} {count : ℕ} → a.left ≤ a.right
    → ColumnsPainted f a width raw old old count a.left
no_columns {f} {a} {width} across = record {
  after = omega arith;
  inside = across;
  painted = no_pixels f (record a { right = a.left }) width (inl (omega arith));
}

pub more_columns : {f : ℕ → ℕ → ℕ → ℕ} {a : Area} {width x next : ℕ} {raw old mid new : List ℕ} {count : ℕ}
    → ColumnsPainted f a width raw old mid count x → x ≤ next → next ≤ a.right
    → IsAreaBy f (record a { left = x; right = next }) width raw mid new count
    → ColumnsPainted f a width raw old new count next
more_columns {f} {a} {width} {x} {next} far le within part = record {
  after = omega (arith, far.after);
  inside = within;
  painted = more_part f width (record a { right = x }) (record a { left = x; right = next })
      (record a { right = next }) (λ u v. let from = far.after in grind (arith, nat_tests)) far.painted part;
}

-- ---- one pixel is set

elsewhere : (a : Area) (width k : ℕ) → a.right ≡ a.left + 1 → a.bottom ≡ a.top + 1
    → (k ≡ a.top * width + a.left → ⊥) → (b : Bool) → in_area a (k % width) (k / width) ≡ b → b ≡ false
elsewhere a width k one row differ false e = refl
elsewhere a width k one row differ true e =
    let left : k % width ≡ a.left = omega (arith, in_columns a (k % width) (k / width) e) in
    let top : k / width ≡ a.top = omega (arith, in_rows a (k % width) (k / width) e) in
    absurd (differ (sym (rw (left, top) at (div-add-mod' k width))))

pub one_pixel : (f : ℕ → ℕ → ℕ → ℕ) (a : Area) (width word : ℕ) {raw old : List ℕ} {count : ℕ}
    → a.right ≡ a.left + 1 → a.bottom ≡ a.top + 1 → a.left < width → a.top * width + a.left < length old
    → a.top * width + a.left < count
    → word ≡ f a.left a.top (slice_index raw (a.top * width + a.left))
    → IsAreaBy f a width raw old (set old (a.top * width + a.left) word) count
one_pixel f a width word {raw} {old} {count} one row left long within is = record {
  words = λ k lt. elim (cases_eq k (a.top * width + a.left)) [
    | inl same ↦
        let on : in_area a a.left a.top ≡ true = grind (arith, nat_tests) in
        rw (
          same,
          mod-mul-add a.top width a.left left,
          div-mul-add a.top width a.left left,
          on,
          get_or-set_same old (a.top * width + a.left) word 0 long,
        ) is
    | inr differ ↦
        rw (elsewhere a width k one row differ (in_area a (k % width) (k / width)) refl)
        (get_or-set_other old (a.top * width + a.left) k word 0 differ)
  ];
  rest = λ k ge. get_or-set_other old (a.top * width + a.left) k word 0 (λ e. absurd (omega arith));
}

-- ---- the rows of the status bar

-- the pixels of the bar
abbrev pub bar_area : ℕ → ℕ → Area
bar_area width bar = record { left = 0; top = 0; right = width; bottom = bar }

-- the columns that the picture of the bar's text has in a row
abbrev text_end : Lettering → List ℕ → ℕ → ℕ
text_end l text y = cond (nat_lt y (picture_height l)) (picture_width l (length text)) 0

-- in the picture of the text, and outside of it
in_text : (s : Scenery) (x y : ℕ) → x < text_end s.lettering (bar_text s) y
    → ink_of (text_dot s.lettering (bar_text s) (x - 0) (y - 0)) ≡ bar_word s (point x y)
in_text s x y left =
    let here : is_in_picture s.lettering (bar_text s) 0 0 (point x y) ≡ true = grind (arith, nat_tests, ints) in rw here

past_text : (s : Scenery) (x y : ℕ) → text_end s.lettering (bar_text s) y ≤ x → 0 ≡ bar_word s (point x y)
past_text s x y right =
    let no : is_in_picture s.lettering (bar_text s) 0 0 (point x y) ≡ false = grind (arith, nat_tests, ints) in rw no

-- a row of the bar: the picture of its text, and black outside of it
module _ (s : Scenery) (y : ℕ) {from cut to wide : ℕ} {text raw old new : List ℕ} (is : text ≡ bar_text s)
    (width : wide ≡ text_end s.lettering text y) (least : cut ≡ max (min wide to) from) (order : from ≤ to) where
  bar_ground : from ≤ cut → (mid : List ℕ) → IsPainted (λ x w. bar_word s (point x y)) raw old mid from cut
      → IsPainted (λ x w. 0) raw mid new cut to → IsPainted (λ x w. bar_word s (point x y)) raw old new from to
  bar_ground le mid first ground = joined le (omega (arith, least)) first (painted_by ground (λ x w f l.
      let all = rw is at width in past_text s x y (omega (arith, all, least))))

  pub bar_row : from < cut → (mid : List ℕ)
      → IsPainted (λ x w. ink_of (text_dot s.lettering text (x - 0) (y - 0))) raw old mid from cut
      → IsPainted (λ x w. 0) raw mid new cut to
      → IsPainted (λ x w. bar_word s (point x y)) raw old new from to
  bar_row some mid drawn ground = bar_ground (omega (arith, some)) mid (painted_by drawn (λ x w f l.
      let all = rw is at width in rw is (in_text s x y (omega (arith, all, least, some, l))))) ground

  pub bar_black : cut ≤ from → IsPainted (λ x w. 0) raw old new cut to
      → IsPainted (λ x w. bar_word s (point x y)) raw old new from to
  bar_black none ground =
      let all : cut ≡ from = omega (arith, none, least) in
      bar_ground (omega (arith, least)) old (rw all nothing) ground

-- what is painted of the bar is what is shown there
pub bar_unowned : (s : Scenery) (y : ℕ) {from to : ℕ} {raw old now : List ℕ} → y < s.bar
    → IsPainted (λ x w. bar_word s (point x y)) raw old now from to
    → IsPainted (λ x w. unowned_word s (point x y)) raw old now from to
bar_unowned s y less row = painted_by row (λ x w f l. rw (in_bar_row s.bar y x less))

-- ---- the rows

-- all of the bar's pixels are set, and no other
pub bar_done : (s : Scenery) (width bar : ℕ) (old now : List ℕ) → 0 < width
    → RowsSoFar (λ k w. bar_word s (point (k % width) (k / width))) (bar_area width bar) width old old now bar
    → (k : ℕ) → slice_index now k ≡ cond (nat_lt k (width * bar)) (bar_word s (pixel width k)) (slice_index old k)
bar_done s width bar old now some far k =
    let row : k < bar * width → k / width < bar = (div-lt_iff_lt-mul some).1 in
    let column : k % width < width = omega arith in
    grind (arith, nat_tests, far.whole.words k, far.whole.rest k)
