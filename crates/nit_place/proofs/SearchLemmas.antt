-- How the search moves on: what is free nowhere before a place is free nowhere before the next one.
use borrow.Author.Count.{below_more}
use Rattle.std.proofs.Common.{None, Option, Some, ap, arith, false, inl, inr, ltb, true, ℕ, ◌+◌}
use Rattle.std.proofs.Common.{◌<◌, ◌≡◌, ◌≤◌, ◌⊎◌}
use Rattle.nit_place.proofs.Basics.{IfSome, IsBlocking, IsEdge, IsFree, IsFull, IsLeastInRow}
use Rattle.nit_place.proofs.Basics.{ScreenPart, cases_cond, cases_lt, further, meets, nat_tests}
use Rattle.nit_place.proofs.Basics.{nearer}

-- a part shares a pixel with a rectangle
pub record Meets (r : ScreenPart) (x y w h : ℕ) : Type 0 where
  pub left : r.left < x + w
  pub right : x < r.right
  pub top : r.top < y + h
  pub bottom : y < r.bottom
  pub wide : r.left < r.right
  pub high : r.top < r.bottom

pub meets-true : (x y w h : ℕ) (r : ScreenPart) → meets x y w h r ≡ true → Meets r x y w h
meets-true x y w h r e = grind (arith, nat_tests)

pub meets-of : (x y w h : ℕ) (r : ScreenPart) → Meets r x y w h → meets x y w h r ≡ true
meets-of x y w h r m = grind (arith, nat_tests)

-- the nearer row comes before both
both_before : (next : Option ℕ) (b y : ℕ) → y < nearer next b → (y < b) × IfSome next (λ a. y < a)
both_before None b y lt = (lt, tt)
both_before (Some a) b y lt = (omega arith, omega arith)

-- what holds of both rows holds of the nearer one
nearer_is : (P : ℕ → Type 0) (next : Option ℕ) (b : ℕ) → P b → IfSome next P → P (nearer next b)
nearer_is P None b here before = here
nearer_is P (Some a) b here before = grind arith

module _ (front : ℕ → ScreenPart) (n : ℕ) where
  -- one more part is looked at, and is in the way
  pub block_step : (x y w h : ℕ) (o : Option ScreenPart) (r now : ScreenPart) → r ≡ front n → meets x y w h r ≡ true
      → r.right ≤ 65535 → r.bottom ≤ 65535 → now ≡ further o r → IsBlocking front n x y w h o
      → IsBlocking front (n + 1) x y w h (Some now)
  block_step x y w h None r now is met right bottom e before = rw e (n, omega arith, is, met, right, bottom)
  block_step x y w h (Some q) r now is met right bottom e (k, lt, same, met', right', bottom') =
      elim (cases_cond (ltb q.right r.right) r q now e) [
        | inl new ↦ rw new (n, omega arith, is, met, right, bottom)
        | inr old ↦ rw old (k, omega arith, same, met', right', bottom')
      ]

  -- one more part is looked at, and is not in the way
  pub clear_step : (x y w h : ℕ) (o : Option ScreenPart) (r : ScreenPart) → r ≡ front n → meets x y w h r ≡ false
      → IsBlocking front n x y w h o → IsBlocking front (n + 1) x y w h o
  clear_step x y w h None r is clear before =
      below_more (λ k. meets x y w h (front k) ≡ false) n before (rw is at clear)
  clear_step x y w h (Some q) r is clear (k, lt, same, met, right, bottom) = (k, omega arith, same, met, right, bottom)

  module _ (area : ScreenPart) (w h : ℕ) where
    -- ---- along a row

    -- Nothing is free before the column x, neither in the row y nor below it before the next row. The next row is
    -- the bottom of a part in front.
    pub record RowSoFar (y x : ℕ) (next : Option ℕ) : Type 0 where
      pub small : x ≤ 65535
      pub from_left : area.left ≤ x
      pub none : (x' y' : ℕ) → x' < x → y ≤ y' → IfSome next (λ b. y' < b) → IsFree front n area w h x' y' → ⊥
      pub column : (x ≡ area.left) ⊎ IsEdge front n (λ r. r.right) x
      pub edge : IfSome next (λ b. (y < b) × (b ≤ 65535) × IsEdge front n (λ r. r.bottom) b)

    -- past the part that is in the way
    pub row_jump : (y x : ℕ) (next : Option ℕ) (r : ScreenPart) (row : ℕ) → row ≡ nearer next r.bottom
        → RowSoFar y x next → IsBlocking front n x y w h (Some r) → RowSoFar y r.right (Some row)
    row_jump y x next r row e far (k, lt, is, met, right, bottom) =
        let m = meets-true x y w h r met in
        record {
          small = right;
          from_left = omega arith;
          none = λ x' y' before low above free.
              let both = both_before next r.bottom y' (omega arith) in
              elim (cases_lt x' x) [
                | inl less ↦ far.none x' y' less low both.1 free
                | inr le ↦
                    let yes = meets-of x' y' w h r (grind arith) in
                    let no = rw (← is) at (free.clear k lt) in
                    cc
              ];
          column = inr (k, lt, omega arith, ap (λ (p : ScreenPart). p.right) is);
          edge = rw e (nearer_is (λ b. (y < b) × (b ≤ 65535) × IsEdge front n (λ p. p.bottom) b) next r.bottom
              (m.bottom, bottom, (k, lt, omega arith, ap (λ (p : ScreenPart). p.bottom) is)) far.edge);
        }

    -- no part is in the way
    pub row_clear : (y x : ℕ) (next : Option ℕ) → RowSoFar y x next → x + w ≤ area.right → area.top ≤ y
        → y + h ≤ area.bottom → IsBlocking front n x y w h None → IsLeastInRow front n area w h y x
    row_clear y x next far inside top bottom clear = record {
      small = far.small;
      free = assumption (far, clear);
      least = λ x' lt. far.none x' y lt (omega arith) (before next far.edge);
      column = far.column;
    }
      where
        before : (o : Option ℕ) → IfSome o (λ b. (y < b) × (b ≤ 65535) × IsEdge front n (λ p. p.bottom) b)
            → IfSome o (λ b. y < b)
        before None h = tt
        before (Some b) h = h.0

    -- a row whose end is reached
    pub row_end : (y x : ℕ) (next : Option ℕ) → RowSoFar y x next → area.right < x + w
        → IsFull front n area w h y next
    row_end y x next far out = record {
      none = λ x' y' low above free. far.none x' y' (omega arith) low above free;
      edge = far.edge;
    }

    -- ---- from row to row

    -- nothing is free above the row y
    pub record RowsSoFar (y : ℕ) : Type 0 where
      pub small : y ≤ 65535
      pub from_top : area.top ≤ y
      pub none : (x' y' : ℕ) → y' < y → IsFree front n area w h x' y' → ⊥
      pub row : (y ≡ area.top) ⊎ IsEdge front n (λ r. r.bottom) y

    -- from a row with nothing free to the next one
    pub rows_jump : (y b : ℕ) → RowsSoFar y → IsFull front n area w h y (Some b) → RowsSoFar b
    rows_jump y b far full = record {
      small = full.edge.1;
      from_top = omega arith;
      none = λ x' y' before free. elim (cases_lt y' y) [
        | inl less ↦ far.none x' y' less free
        | inr le ↦ full.none x' y' le before free
      ];
      row = inr full.edge.2;
    }

    -- a row with nothing free, and no next one
    pub rows_end : (y : ℕ) → RowsSoFar y → IsFull front n area w h y None
        → (x' y' : ℕ) → IsFree front n area w h x' y' → ⊥
    rows_end y far full x' y' free =
        elim (cases_lt y' y) [ inl less ↦ far.none x' y' less free | inr le ↦ full.none x' y' le tt free ]

    -- nothing is free where the row is too low
    pub rows_below : (y : ℕ) → RowsSoFar y → area.bottom < y + h → (x' y' : ℕ) → IsFree front n area w h x' y' → ⊥
    rows_below y far low x' y' free = far.none x' y' (omega arith) free
