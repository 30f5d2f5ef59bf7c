-- What the operations on bits do to the channels of a word.
use Rattle.std.proofs.Common.{All, List, [], ap, ap₂, arith, bit_and, bit_or, length, map, refl}
use Rattle.std.proofs.Common.{replicate, suc, ℕ, ◌%◌, ◌*◌, ◌+◌, ◌/◌, ◌<◌, ◌^◌, ◌∙◌, ◌∷◌, ◌≡◌}
use Rattle.nit_word.proofs.Basics.{IsWord, and_block, and_mask, dim, length-map, map-map, or_comm}
use Rattle.nit_word.proofs.Basics.{or_shifted, tint, zip2_splat}
use lib.Lanes.{zip2}

-- the seven low bits of each channel
masked : (r g b : ℕ) → g < 256 → b < 256 → bit_and (r * 65536 + (g * 256 + b)) 0x7f7f7f
    ≡ r % 128 * 65536 + (g % 128 * 256 + b % 128)
masked r g b green_fits blue_fits =
    and_block 16 r 127 (g * 256 + b) 0x7f7f (omega arith) (omega arith)
    ∙ ap₂ (λ p q. p * 65536 + q) (and_mask r 7) (and_block 8 g 127 b 127 blue_fits (omega arith)
    ∙ ap₂ (λ p q. p * 256 + q) (and_mask g 7) (and_mask b 7))

pub dim_bits : (w : ℕ) → IsWord w → bit_and (w / 2) 0x7f7f7f ≡ dim w
dim_bits w fits =
    let split : w / 2 ≡ (w / 2 / 65536) * 65536 + ((w / 2 / 256 % 256) * 256 + w / 2 % 256) = omega arith in
    ap (λ n. bit_and n 0x7f7f7f) split ∙ masked (w / 2 / 65536) (w / 2 / 256 % 256) (w / 2 % 256) (omega arith)
    (omega arith) ∙ omega arith

tint_bits : (w : ℕ) → IsWord w → bit_or (dim w) 0x800000 ≡ tint w
tint_bits w fits = or_comm (dim w) 0x800000 ∙ or_shifted 1 23 (dim w) (omega arith) ∙ omega arith

-- two functions that agree on words
words_alike : (f g : ℕ → ℕ) → ((w : ℕ) → IsWord w → f w ≡ g w) → (words : List ℕ) → All IsWord words
    → map f words ≡ map g words
words_alike f g alike [] fit = refl
words_alike f g alike (w ∷ words) fit =
    ap₂ (λ x xs. x ∷ xs) (alike w (fit 0 0 (omega arith)))
    (words_alike f g alike words (λ k d lt. fit (suc k) d (omega arith)))

pub dim_lanes : (words : List ℕ) → length words ≡ 8 → All IsWord words
    → zip2 bit_and (zip2 (λ a b. a / 2 ^ b) words (replicate 8 1)) (replicate 8 0x7f7f7f) ≡ map dim words
dim_lanes words long fit =
    ap (λ halves. zip2 bit_and halves (replicate 8 0x7f7f7f)) (zip2_splat (λ a b. a / 2 ^ b) words 8 1 long)
    ∙ zip2_splat bit_and (map (λ a. a / 2 ^ 1) words) 8 0x7f7f7f (length-map words (λ a. a / 2 ^ 1) ∙ long)
    ∙ map-map (λ a. bit_and a 0x7f7f7f) (λ a. a / 2 ^ 1) words
    ∙ words_alike (λ w. bit_and (w / 2 ^ 1) 0x7f7f7f) dim dim_bits words fit

pub tint_lanes : (words dims : List ℕ) → length words ≡ 8 → All IsWord words → dims ≡ map dim words
    → zip2 bit_or dims (replicate 8 0x800000) ≡ map tint words
tint_lanes words dims long fit are =
    ap (λ xs. zip2 bit_or xs (replicate 8 0x800000)) are
    ∙ zip2_splat bit_or (map dim words) 8 0x800000 (length-map words dim ∙ long)
    ∙ map-map (λ a. bit_or a 0x800000) dim words ∙ words_alike (λ w. bit_or (dim w) 0x800000) tint tint_bits words fit
