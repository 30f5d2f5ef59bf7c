-- A text with zeros after it, when more text is written over the first of the zeros.
use Rattle.std.proofs.Common.{List, ap, append_assoc, arith, drop, length, length-append, refl}
use Rattle.std.proofs.Common.{replicate, sym, take, ℕ, ◌++◌, ◌+◌, ◌-◌, ◌∙◌, ◌≡◌, ◌≤◌}
use Rattle.nit_glyph.proofs.Basics.{IsPadded, drop-replicate, drop_at, length-take, padded}
use Rattle.nit_glyph.proofs.Basics.{take-put_mid}
use borrow.Rule.Slice.PartMut.{put_mid}

-- what stands behind the text is zeros
drop-padded : (room len : ℕ) (bytes : List ℕ) → IsPadded room bytes len → drop len bytes ≡ replicate (room - len) 0
drop-padded room len bytes h =
    ap (drop len) (sym h.zeros)
    ∙ drop_at (take len bytes) (replicate (room - length (take len bytes)) 0) len h.counted
    ∙ ap (λ n. replicate (room - n) 0) h.counted

-- the text after the write
pub take-padded : (room len k : ℕ) (bytes text : List ℕ) → IsPadded room bytes len
    → take (len + length text) (put_mid len k bytes text) ≡ take len bytes ++ text
take-padded room len k bytes text h =
    take-put_mid len k bytes text (len + length text) refl (omega (arith, h.counted, length-take len bytes))

-- the array after the write
pub padded-append : (room len k : ℕ) (bytes text : List ℕ) → IsPadded room bytes len → len + length text ≤ room
    → k ≡ length text
    → IsPadded room (put_mid len k bytes text) (len + length text)
padded-append room len k bytes text h fits same =
    let before = take len bytes in
    let now = take-padded room len k bytes text h in
    let long : length (before ++ text) ≡ len + length text = omega (arith, length-append before text, h.counted) in
    let rest : drop k (drop len bytes) ≡ replicate (room - length (before ++ text)) 0 =
    ap (drop k) (drop-padded room len bytes h) ∙ drop-replicate k (room - len) 0
    ∙ ap (λ n. replicate n 0) (omega arith) in
    record {
      fits = fits;
      counted = ap length now ∙ long;
      zeros = ap (padded room) now ∙ append_assoc before text (replicate (room - length (before ++ text)) 0)
          ∙ ap (λ z. before ++ (text ++ z)) (sym rest);
    }
