-- What the pixels of a piece show, by its owner.
use Rattle.nit_paint.proofs.Basics.{All_found, Bare, Block, HasPixels, IsOnScreen, IsPiece}
use Rattle.nit_paint.proofs.Basics.{IsScreenSize, IsSlotView, IsStack, IsTrue, Piece, PixelSource}
use Rattle.nit_paint.proofs.Basics.{Point, Reach, Rectangle, Repainted, Sight, StackModel, View}
use Rattle.nit_paint.proofs.Basics.{ViewRef, among, black_or_word, buffer_place, covers, has_pixel}
use Rattle.nit_paint.proofs.Basics.{in_rows, index_at, ints, is_slot, mul-le-mul_left, nat_tests}
use Rattle.nit_paint.proofs.Basics.{option_map, owner_in, pixel, point, reached, rectangle, row_at}
use Rattle.nit_paint.proofs.Basics.{rows, shown_index, size_of, slot_view_in}
use Rattle.nit_paint.proofs.Basics.{source_bare, source_is, source_of_number, view_ref, ℤ}
use Rattle.std.proofs.Common.{List, None, Some, ap, arith, length, pos, subst, sym, ℕ, ◌%◌, ◌*◌}
use Rattle.std.proofs.Common.{◌+ℤ◌, ◌+◌, ◌-ℤ◌, ◌/◌, ◌<◌, ◌∙◌, ◌≡◌, ◌≤◌}

-- the column and the row of a pixel of a block
pub row_of : (width y x : ℕ) → x < width → (y * width + x) / width ≡ y
row_of width y x l = grind (arith, rows)

pub column_of : (width y x : ℕ) → x < width → (y * width + x) % width ≡ x
column_of width y x l = grind (arith, rows)

-- the view of a slot stands as every view does
pub seat_stands : {s : StackModel} {k : ℕ} {view : View} → IsStack s
    → slot_view_in k s.views ≡ Some (record { slot = k; view = view })
    → IsSlotView s.most (length s.sizes) (record { slot = k; view = view })
seat_stands {s} {k} standing at =
    All_found (IsSlotView s.most (length s.sizes)) (is_slot k) s.views _ standing.seats at

module _ {s : StackModel} {piece : Piece} (b : Block) (sound : IsPiece s piece)
    (is : piece.rect ≡ rectangle (pos b.left) (pos b.top) b.wide b.tall) (across : b.width ≡ s.width)
    (fits : b.left + b.wide ≤ b.width) where
  pub rows_fit : b.width * (b.top + b.tall) ≤ s.width * s.height
  rows_fit =
      let y : piece.rect.y ≡ pos b.top = ap (λ r. r.y) is in
      let h : piece.rect.h ≡ b.tall = ap (λ r. r.h) is in
      let down : b.top + b.tall ≤ s.height = let bottom = sound.bottom in omega (arith, ints) in
      rw (← across) (mul-le-mul_left b.width down)

  pixel_there : (j i : ℕ) → i < b.wide → pixel s.width (row_at b j + i) ≡ point (b.left + i) (b.top + j)
  pixel_there j i m =
      let k : row_at b j + i ≡ (b.top + j) * b.width + (b.left + i) = omega arith in
      let x = column_of b.width (b.top + j) (b.left + i) (omega arith) in
      let y = row_of b.width (b.top + j) (b.left + i) (omega arith) in
      rw (← across, k, x, y)

  owned_there : (j i : ℕ) → j < b.tall → i < b.wide
      → option_map view_ref (owner_in (λ seat. seat.view) s.bar s.views (pixel s.width (row_at b j + i))) ≡ piece.owner
  owned_there j i l m = sound.owned (pixel s.width (row_at b j + i)) (subst
      (λ (p : Point). IsTrue (covers piece.rect p)) (sym (pixel_there j i m)) (rw is (grind (arith, nat_tests))))

  pub bare_told : piece.owner ≡ None → (j i : ℕ) → j < b.tall → i < b.wide → source_of_number s (row_at b j + i) ≡ Bare
  bare_told none j i l m = source_bare (size_of s.sizes) s.bar s.views (pixel s.width (row_at b j + i))
      (sym (owned_there j i l m ∙ none))

  module _ {v : ViewRef} {view : View} {w h : ℕ} {column row : ℤ} (r : Reach) (own : piece.owner ≡ Some v)
      (standing : IsStack s) (seat : slot_view_in v.0 s.views ≡ Some (record { slot = v.0; view = view }))
      (size : record { w = w; h = h } ≡ size_of s.sizes view.sid)
      (left : column ≡ buffer_place piece.rect.x view.rect.x view.ox)
      (top : row ≡ buffer_place piece.rect.y view.rect.y view.oy)
      (places : (i : ℕ) → i < b.wide → reached r i ≡ among (column +ℤ pos i) w) where
    pub view_told : (j i : ℕ) → j < b.tall → i < b.wide → source_of_number s (row_at b j + i)
        ≡ black_or_word view.sid (index_at w (reached r i) (among (row +ℤ pos j) h))
    view_told j i l m =
        let x : piece.rect.x ≡ pos b.left = ap (λ r. r.x) is in
        let y : piece.rect.y ≡ pos b.top = ap (λ r. r.y) is in
        let across_it : buffer_place (pos (b.left + i)) view.rect.x view.ox ≡ column +ℤ pos i = omega (arith, ints) in
        let down_it : buffer_place (pos (b.top + j)) view.rect.y view.oy ≡ row +ℤ pos j = omega (arith, ints) in
        source_is (size_of s.sizes) s.bar s.views (pixel s.width (row_at b j + i)) v view standing.slots
        (sym (owned_there j i l m ∙ own)) seat
        ∙ (λ t. black_or_word view.sid (shown_index (sym size t) view (pixel_there j i m t)))
        ∙ (λ t. black_or_word view.sid
        (index_at w ((ap (λ z. among z w) across_it ∙ sym (places i m)) t) (among (down_it t) h)))

-- the whole piece is painted
pub whole_piece : (source : ℕ → PixelSource) (b : Block) (width n : ℕ) (rect : Rectangle) (before after : ℕ → Sight)
    (raw raw' : List ℕ) → rect ≡ rectangle (pos b.left) (pos b.top) b.wide b.tall → b.width ≡ width
    → Repainted source (in_rows b b.tall) n before after raw raw'
    → Repainted source (has_pixel width rect) n before after raw raw'
whole_piece source b width n rect before after raw raw' is across r = rw (is, ← across) r

pub piece_of_owner : (s : StackModel) (piece : Piece) → IsScreenSize s.width s.height → HasPixels piece.rect
    → ((p : Point) → IsTrue (covers piece.rect p) → IsOnScreen s.width s.height p)
    → ((p : Point) → IsTrue (covers piece.rect p)
    → piece.owner ≡ option_map view_ref (owner_in (λ seat. seat.view) s.bar s.views p)) → IsPiece s piece
piece_of_owner s piece screen some on owned =
    let r = piece.rect in
    let first = on (record { x = r.x; y = r.y }) (grind (arith, ints)) in
    let last = on (record { x = (r.x +ℤ pos r.w) -ℤ pos 1; y = (r.y +ℤ pos r.h) -ℤ pos 1 }) (grind (arith, ints)) in
    record {
      screen = grind (arith, ints);
      right = omega (arith, ints);
      bottom = omega (arith, ints);
      owned = λ p h. sym (owned p h);
    }
