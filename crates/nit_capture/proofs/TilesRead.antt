-- What is read as a tile is one, and what is a tile is read.
use Rattle.nit_capture.proofs.Basics.{All, Bool, IsPicture, IsWord, List, Some, add-one, area}
use Rattle.nit_capture.proofs.Basics.{arith, bind_some, blue, cases_eq, channels, drop, eq-eqb}
use Rattle.nit_capture.proofs.Basics.{false, flat_map, get_or-set_other, get_or-set_same, green}
use Rattle.nit_capture.proofs.Basics.{inl, inr, length, length-set, list_any, nat_tests, ne_eqb}
use Rattle.nit_capture.proofs.Basics.{no_word, not, place, prefix_len, range_with_len, red}
use Rattle.nit_capture.proofs.Basics.{run_bytes, slice_index, slice_set, some_pair_parts}
use Rattle.nit_capture.proofs.Basics.{tile_count, tile_pixels, word_of}
use Rattle.nit_capture.specs.RecordReaders.{run_at, pixels_at}
use Rattle.std.proofs.Common.{[], refl, suc, sym, true, zero, ℕ, ◌*◌, ◌++◌, ◌+◌, ◌<◌, ◌==◌, ◌^◌}
use Rattle.std.proofs.Common.{◌||◌, ◌∙◌, ◌∷◌, ◌≡◌, ◌≤◌}
use Rattle.nit_capture.specs.Film.{joined, runs}
use Rattle.nit_capture.proofs.Tiles.{SameTile, place_within, same_any, same_place, words_fit}

-- ---- runs read back

-- each is a byte
abbrev pub AreBytes : List ℕ → Type 0
AreBytes bytes = (i : ℕ) → slice_index bytes i < 256

-- After `more` pixels of a word the runs of further pixels follow, and then the rest.
abbrev pub Continues : ℕ → ℕ → List ℕ → List ℕ → List ℕ → Type 0
Continues more word xs bytes rest = flat_map run_bytes (runs (word ∷ xs)) ++ rest ≡ more ∷ channels word ++ bytes

-- ---- the runs of pixels

pub no_runs : runs [] ≡ []
unfolding runs
no_runs = refl

pub runs_one : (word : ℕ) → runs (word ∷ []) ≡ (0, word) ∷ []
unfolding runs joined
runs_one word = refl

-- how many of the first words are this one, and those after them
abbrev pub front : ℕ → List ℕ → ℕ
front word words = prefix_len (λ x. x == word) words

abbrev pub behind : ℕ → List ℕ → List ℕ
behind word words = drop (front word words) words

-- the first run is of the pixels that follow with its word
pub first_run : (word : ℕ) (words : List ℕ) → runs (word ∷ words) ≡ (front word words, word) ∷ runs (behind word words)
unfolding runs joined
first_run word [] = refl
first_run word (x ∷ words) = elim (cases_eq x word) [
  | inl e ↦ rw (e, first_run word words, eq-eqb word word refl) (grind (arith, nat_tests, add-one))
  | inr ne ↦ rw (ne_eqb x word ne, first_run x words, ne_eqb x word ne) refl
]

-- a pixel of the same word, and one of another
pub longer : (word : ℕ) (words : List ℕ) → runs (word ∷ word ∷ words) ≡ (suc (front word words), word)
    ∷ runs (behind word words)
unfolding runs joined
longer word words = grind (arith, nat_tests, first_run, add-one)

pub apart : (word x : ℕ) (words : List ℕ) → (x ≡ word → ⊥) → runs (word ∷ x ∷ words) ≡ (0, word) ∷ runs (x ∷ words)
unfolding runs joined
apart word x words ne = grind (arith, nat_tests, first_run)

-- a whole tile
pub tile_spelled : (words bytes rest : List ℕ) → Continues 0 no_word words bytes rest
    → bytes ≡ flat_map run_bytes (runs words) ++ rest
tile_spelled [] bytes rest c = grind (arith, nat_tests, runs_one, no_runs)
tile_spelled (x ∷ xs) bytes rest c = grind (arith, nat_tests, longer, apart)

pub tile_spelled_back : (words bytes rest : List ℕ) → All IsWord words
    → bytes ≡ flat_map run_bytes (runs words) ++ rest → Continues 0 no_word words bytes rest
tile_spelled_back [] bytes rest fit e = rw (runs_one, e, no_runs) refl
tile_spelled_back (x ∷ xs) bytes rest fit e = let fits = fit 0 0 (omega arith) in grind (arith, nat_tests, apart)

-- ---- the reader of one pixel

channels_of : (r g b : ℕ) → r < 256 → g < 256 → b < 256 → channels (word_of r g b) ≡ r ∷ g ∷ b ∷ []
channels_of r g b p q s = grind (arith, nat_tests)

whole_word : (w : ℕ) → w < 2 ^ 24 → word_of (red w) (green w) (blue w) ≡ w
whole_word w fits = omega arith

-- what one step takes
pub record Step (more word : ℕ) (bytes : List ℕ) (x : ℕ × (ℕ × List ℕ)) : Type 0 where
  pub goes_on : (xs rest : List ℕ) → Continues x.1.0 x.0 xs x.1.1 rest → Continues more word (x.0 ∷ xs) bytes rest
  pub are_bytes : AreBytes x.1.1

pub run_takes : (more word : ℕ) (bytes : List ℕ) (x : ℕ × (ℕ × List ℕ)) → AreBytes bytes
    → run_at more word bytes ≡ Some x → Step more word bytes x
unfolding run_at
run_takes (suc more) word bytes x are e = grind (arith, nat_tests, first_run, longer)
run_takes zero word (n ∷ r ∷ g ∷ b ∷ rest) x are e =
    let back = channels_of r g b (are 1) (are 2) (are 3) in
    let rest_are : AreBytes rest = λ i. are (suc (suc (suc (suc i)))) in
    grind (arith, nat_tests, apart)
run_takes zero word bytes x are e = absurd cc

-- the step that is taken where runs continue
pub record Again (more word : ℕ) (y : ℕ) (ys bytes rest : List ℕ) : Type 0 where
  pub count : ℕ
  pub after : List ℕ
  pub is : run_at more word bytes ≡ Some (y, (count, after))
  pub goes_on : Continues count y ys after rest

pub run_again : (more word y : ℕ) (ys bytes rest : List ℕ) → y < 2 ^ 24 → Continues more word (y ∷ ys) bytes rest
    → Again more word y ys bytes rest
unfolding run_at
run_again more word y ys bytes rest fit c = elim (cases_eq y word) [
  | inl same ↦ record {
    count = front word ys;
    after = bytes;
    is = grind (arith, nat_tests, longer);
    goes_on = grind (arith, nat_tests, first_run, longer);
  }
  | inr other ↦ record {
    count = front y ys;
    after = flat_map run_bytes (runs (behind y ys)) ++ rest;
    is = grind (arith, nat_tests, apart, first_run, whole_word);
    goes_on = rw (first_run y ys) refl;
  }
]

-- whether some pixel from k on, so many, is another one in p
abbrev any_new : ℕ → ℕ → ℕ → ℕ → List ℕ → List ℕ → Bool
any_new w t k count frame p =
    list_any (λ j. not (slice_index frame (place w t j) == slice_index p (place w t j))) (range_with_len k count)

or_assoc : (a b c : Bool) → ((a || b) || c) ≡ (a || (b || c))
or_assoc true b c = refl
or_assoc false b c = refl

-- the frame that is read into
pub record Frame (w h : ℕ) (frame : List ℕ) : Type 0 where
  pub some : 1 ≤ w
  pub size : length frame ≡ w * h

-- p is the frame at each place that is none of the pixels of tile t from k on
pub record IsButFor (w h t k : ℕ) (frame p : List ℕ) : Type 0 where
  pub size : length p ≡ length frame
  pub same : (i : ℕ) → ((j : ℕ) → k ≤ j → j < area w h t → place w t j ≡ i → ⊥)
      → slice_index frame i ≡ slice_index p i

-- the other tiles stay
pub others_stay : (w h t : ℕ) (frame p : List ℕ) → 1 ≤ w → t < tile_count w h → IsButFor w h t 0 frame p
    → (u : ℕ) → u < tile_count w h → (u ≡ t → ⊥) → SameTile w h u frame p
others_stay w h t frame p some below_t b u below_u ne k below = grind (arith, nat_tests, same_place)

-- Pixel k of a tile was set to x, and then the pixels after it.
record IsSet (w h t k left x : ℕ) (frame : List ℕ) : Type 0 where
  here : Frame w h (slice_set frame (place w t k) x)
  mine : (p : List ℕ) → IsButFor w h t (k + 1) (slice_set frame (place w t k) x) p → slice_index p (place w t k) ≡ x
  others : (p : List ℕ) → IsButFor w h t (k + 1) (slice_set frame (place w t k) x) p → IsButFor w h t k frame p
  news : (p : List ℕ) → any_new w t (k + 1) left (slice_set frame (place w t k) x) p ≡ any_new w t (k + 1) left frame p

is_set : {w h : ℕ} {frame : List ℕ} → Frame w h frame → (t k left x : ℕ) → t < tile_count w h
    → k + suc left ≡ area w h t → IsSet w h t k left x frame
is_set {w} {h} {frame} here t k left x below sum =
    let at : ℕ = place w t k in
    let within = place_within w h t k here.some below (omega arith) in
    let apart : (j : ℕ) → k + 1 ≤ j → j < area w h t → place w t j ≡ at → ⊥ =
    λ j low high same. grind (arith, same_place w h t t j k here.some) in
    record {
      here = record { some = here.some; size = grind (arith, length-set) };
      mine = λ p b. grind (arith, get_or-set_same);
      others = λ p b. record {
        size = grind (arith, length-set);
        same = λ i no. sym (get_or-set_other frame at i x 0 (λ same. no k (omega arith) (omega arith) (sym same)))
            ∙ b.same i (λ j low. no j (omega arith));
      };
      news = λ p. same_any _ _ (k + 1) left (λ j low high. grind (arith, get_or-set_other));
    }

-- what reading the pixels of a tile from k on did
pub record Took (w h t k left more word : ℕ) (new : Bool) (frame bytes p rest : List ℕ) : Type 0 where
  pub text : Continues more word (tile_pixels w p t k left) bytes rest
  pub others : IsButFor w h t k frame p
  pub fresh : (new || any_new w t k left frame p) ≡ true
  pub are_bytes : AreBytes rest

pub pixels_take : (w h t left k more word : ℕ) (new : Bool) (frame bytes p rest : List ℕ) → Frame w h frame
    → t < tile_count w h → k + left ≡ area w h t → AreBytes bytes
    → pixels_at w t left k more word new frame bytes ≡ Some (p, rest)
    → Took w h t k left more word new frame bytes p rest
unfolding pixels_at
pixels_take w h t zero k zero word true frame bytes p rest here below sum are e =
    grind (arith, nat_tests, some_pair_parts, runs_one)
pixels_take w h t (suc left) k more word new frame bytes p rest here below sum are e =
    let (x, found, after) = bind_some (run_at more word bytes) _ (p, rest) e in
    let step = run_takes more word bytes x are found in
    let set = is_set here t k left x.0 below sum in
    let q = pixels_take w h t left (k + 1) x.1.0 x.0 _ (slice_set frame (place w t k) x.0) x.1.1 p rest set.here below
    (omega arith) step.are_bytes after in
    let mine = set.mine p q.others in
    record {
      text = rw (← mine) at (step.goes_on (tile_pixels w p t (k + 1) left) rest q.text);
      others = set.others p q.others;
      fresh = rw (mine, ← set.news p) (rw or_assoc at q.fresh);
      are_bytes = q.are_bytes;
    }
pixels_take w h t left k more word new frame bytes p rest here below sum are e = absurd cc

-- what reading leads to where the pixels of p follow
pub record Takes (w h t k left more word : ℕ) (new : Bool) (frame bytes p rest : List ℕ) : Type 0 where
  pub picture : List ℕ
  pub is : pixels_at w t left k more word new frame bytes ≡ Some (picture, rest)
  pub mine : (j : ℕ) → k ≤ j → j < area w h t → slice_index picture (place w t j) ≡ slice_index p (place w t j)
  pub others : IsButFor w h t k frame picture

pub pixels_again : (w h t left k more word : ℕ) (new : Bool) (frame bytes p rest : List ℕ) → Frame w h frame
    → t < tile_count w h → k + left ≡ area w h t → IsPicture w h p → (new || any_new w t k left frame p) ≡ true
    → Continues more word (tile_pixels w p t k left) bytes rest
    → Takes w h t k left more word new frame bytes p rest
unfolding pixels_at
pixels_again w h t zero k zero word true frame bytes p rest here below sum is fresh c =
    record {
      picture = frame;
      is = let last = rw runs_one at c in cc;
      mine = λ j low high. absurd (omega arith);
      others = record { size = refl; same = λ i no. refl };
    }
pixels_again w h t (suc left) k more word new frame bytes p rest here below sum is fresh c =
    let x : ℕ = slice_index p (place w t k) in
    let r = run_again more word x (tile_pixels w p t (k + 1) left) bytes rest (words_fit p is.words (place w t k)) c in
    let set = is_set here t k left x below sum in
    let q = pixels_again w h t left (k + 1) r.count x (new || not (slice_index frame (place w t k) == x)) _ r.after
    p rest set.here below (omega arith) is (rw (or_assoc, set.news p) fresh) r.goes_on in
    record {
      picture = q.picture;
      is = rw r.is q.is;
      mine = λ j low high. grind (arith, nat_tests, set.mine q.picture q.others, q.mine j);
      others = set.others q.picture q.others;
    }
pixels_again w h t left k more word new frame bytes p rest here below sum is fresh c =
    let last = rw runs_one at c in absurd cc
