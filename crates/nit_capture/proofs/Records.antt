-- Records of films: read back, written from left to right, and what their definitions say of each other.
use Rattle.nit_capture.proofs.Basics.{AgreeInside, All, All-filter, AllAgree, AllByRecursion}
use Rattle.nit_capture.proofs.Basics.{Appends, Bool, Err, HasPixels, HasRecord, IsErr, IsPicture}
use Rattle.nit_capture.proofs.Basics.{IsPictureSize, LiesIn, List, None, Ok, Rectangle, Result}
use Rattle.nit_capture.proofs.Basics.{Some, and_true, ap, append-nil, append_assoc, area, arith}
use Rattle.nit_capture.proofs.Basics.{behind_two, bind_some, black, cases_Bool, changed_tiles, cond}
use Rattle.nit_capture.proofs.Basics.{crop, drop, drop-drop, eq-eqb, false, filter}
use Rattle.nit_capture.proofs.Basics.{filter_of_map_range_with_len_more, flat_map, flat_map-append}
use Rattle.nit_capture.proofs.Basics.{get_or-drop, get_or-range_with_len, inl, inr, ints, is_next}
use Rattle.nit_capture.proofs.Basics.{length-append, length-drop, length-range_with_len}
use Rattle.nit_capture.proofs.Basics.{length-replicate, lit<, map, map-id, map-range_with_len_more}
use Rattle.nit_capture.proofs.Basics.{mul-le, nat_abs, nat_tests, negsuc, nil_from_length, no_word}
use Rattle.nit_capture.proofs.Basics.{not, place, pos, prefix_len, range_with_len, record_at}
use Rattle.nit_capture.proofs.Basics.{records, refl, run_at, run_bytes, runs, screen, slice_index}
use Rattle.nit_capture.proofs.Basics.{slice_set, some_pair_parts, spans, spans_holds, stream, take}
use Rattle.nit_capture.proofs.Basics.{take_more_set, tile, tile_at, two_bytes, within, ℤ, ◌>>=◌}
use Rattle.std.proofs.Common.{[], length, suc, sym, true, ℕ, ◌∙◌, zero, ◌%◌, ◌*◌, ◌++◌, ◌+◌, ◌-◌}
use Rattle.std.proofs.Common.{◌/◌, ◌<◌, ◌==◌, ◌||◌, ◌∷◌, ◌≡◌, ◌≤ℤ◌, ◌≤◌, ◌⊎◌}
use Rattle.nit_capture.specs.Film.{tile_bytes, record_of}
use Rattle.nit_capture.specs.RecordReaders.{turn_at, pixels_at, tiles_at}
use Rattle.nit_capture.specs.Tiles.{tile_count, differs, tiles_along}
use Rattle.nit_capture.proofs.Tiles.{SameTile, same_differs, same_filter, same_map, same_picture}
use Rattle.nit_capture.proofs.Tiles.{same_pixel, same_pixels, same_tile, tile_fits}
use Rattle.nit_capture.proofs.TilesRead.{AreBytes, Frame, IsButFor, first_run, no_runs, others_stay}
use Rattle.nit_capture.proofs.TilesRead.{pixels_again, pixels_take, tile_spelled, tile_spelled_back}
use Rattle.nit_capture.specs.Crop.{crop_place}
use Rattle.nit_capture.proofs.CropLemmas.{in_cut}

-- the numbers of the tiles from t on, so many, that differ
abbrev rest_changed : ℕ → ℕ → ℕ → ℕ → List ℕ → List ℕ → List ℕ
rest_changed w h t count frame p = filter (differs w h frame p) (range_with_len t count)

-- ---- what one turn did

record Turned (w h t left : ℕ) (frame bytes : List ℕ) (x : List ℕ × (ℕ × List ℕ)) : Type 0 where
  left_is : left ≡ suc x.1.0
  next : is_next t bytes ≡ true
  tile : tile_at w h t frame (behind_two bytes) ≡ Some (x.0, x.1.1)

turn_cases : (w h t left : ℕ) (frame bytes : List ℕ) (x : List ℕ × (ℕ × List ℕ))
    → turn_at w h t left frame bytes ≡ Some x
    → ◌≡◌ {A = List ℕ × (ℕ × List ℕ)} (frame, (left, bytes)) x ⊎ Turned w h t left frame bytes x
unfolding turn_at
turn_cases w h t left frame bytes x e = grind arith

-- ---- two bytes

two_are : (t : ℕ) (bytes : List ℕ) → AreBytes bytes → is_next t bytes ≡ true → bytes ≡ two_bytes t ++ behind_two bytes
two_are t bytes are e = let low = are 0 in grind (arith, nat_tests)

behind_are : (bytes : List ℕ) → AreBytes bytes → AreBytes (behind_two bytes)
behind_are (a ∷ b ∷ rest) are = λ i. are (suc (suc i))
behind_are bytes are = λ i. lit< tt

two_number : (n : ℕ) → n % 256 + n / 256 * 256 ≡ n
two_number n = omega arith

-- ---- tiles, one after another

tile_text : (w h t : ℕ) (p : List ℕ) → tile_bytes w h p t ≡ two_bytes t ++ flat_map run_bytes (runs (tile w h p t))
unfolding tile_bytes
tile_text w h t p = refl

-- the tiles after tile t do not see what was read into it
later_changed : (w h t count : ℕ) (frame q p : List ℕ) → 1 ≤ w → t + suc count ≡ tile_count w h
    → IsButFor w h t 0 frame q → rest_changed w h (t + 1) count frame p ≡ rest_changed w h (t + 1) count q p
later_changed w h t count frame q p some sum others =
    same_filter _ _ (t + 1) count (λ u low high.
    grind (arith, same_differs w h frame q p p u, others_stay w h t frame q some (omega arith) others u))

-- what reading the tiles from t on did
record TookTiles (w h t count left : ℕ) (frame bytes p rest : List ℕ) : Type 0 where
  text : bytes ≡ flat_map (tile_bytes w h p) (rest_changed w h t count frame p) ++ rest
  number : length (rest_changed w h t count frame p) ≡ left
  before : (u : ℕ) → u < t → SameTile w h u frame p

tiles_take : (w h count t left : ℕ) (frame bytes p rest : List ℕ) → Frame w h frame → t + count ≡ tile_count w h
    → AreBytes bytes
    → tiles_at w h count t left frame bytes ≡ Some (p, rest) → TookTiles w h t count left frame bytes p rest
unfolding tiles_at differs
tiles_take w h zero t zero frame bytes p rest here sum are e = grind (arith, nat_tests, some_pair_parts)
tiles_take w h zero t (suc left) frame bytes p rest here sum are e = absurd cc
tiles_take w h (suc count) t left frame bytes p rest here sum are e =
    let (x, turn, after) = bind_some (turn_at w h t left frame bytes) _ (p, rest) e in
    elim (turn_cases w h t left frame bytes x turn) [
      | inl s ↦
          let m = tiles_take w h count (t + 1) left frame bytes p rest here (omega arith) are (rw (← s) at after) in
          let same = same_tile w h frame p t (m.before t (omega arith)) in
          record { text = grind arith; number = grind arith; before = λ u low. m.before u (omega arith) }
      | inr s ↦
          let k = pixels_take w h t (area w h t) 0 0 no_word false frame (behind_two bytes) x.0 x.1.1 here
          (omega arith) (omega arith) (behind_are bytes are) s.tile in
          let m = tiles_take w h count (t + 1) x.1.0 x.0 x.1.1 p rest
          (record { some = here.some; size = k.others.size ∙ here.size }) (omega arith) k.are_bytes after in
          let same = m.before t (omega arith) in
          let new = sym (same_differs w h frame frame x.0 p t (λ j below. refl) same) ∙ k.fresh in
          let later = later_changed w h t count frame x.0 p here.some sum k.others in
          let mine = same_pixels w h x.0 p t same in
          let runs_are = tile_spelled (tile w h x.0 t) (behind_two bytes) x.1.1 k.text in
          record {
            text = rw (new, later, tile_text w h t p) (simp append_assoc (cc (two_are t bytes are s.next, m.text)));
            number = grind arith;
            before = λ u low j below. grind (arith, others_stay w h t frame x.0 here.some, m.before u);
          }
    ]

-- no tile from t on has a number below t
turn_of_another : (w h t : ℕ) (frame p bytes rest : List ℕ) (us : List ℕ) → All (λ u. t < u) us
    → bytes ≡ flat_map (tile_bytes w h p) us ++ rest → turn_at w h t (length us) frame bytes
    ≡ Some (frame, (length us, bytes))
unfolding turn_at tile_bytes
turn_of_another w h t frame p bytes rest [] all e = refl
turn_of_another w h t frame p bytes rest (u ∷ us) all e =
    let lt = all 0 0 (omega arith) in grind (arith, nat_tests, two_number)

rest_above : (f : ℕ → Bool) (t count : ℕ) → All (λ u. t < u) (filter f (range_with_len (t + 1) count))
rest_above f t count = All-filter f (λ u. t < u) (range_with_len (t + 1) count) (λ k d lt.
    rw (get_or-range_with_len (t + 1) count k d (rw length-range_with_len at lt)) (omega arith))

-- the tiles from t on are read
tiles_again : (w h count t : ℕ) (p rest frame bytes : List ℕ) → t + count ≡ tile_count w h → IsPicture w h p
    → Frame w h frame → ((u : ℕ) → u < t → SameTile w h u frame p)
    → bytes ≡ flat_map (tile_bytes w h p) (rest_changed w h t count frame p) ++ rest
    → tiles_at w h count t (length (rest_changed w h t count frame p)) frame bytes ≡ Some (p, rest)
unfolding tiles_at turn_at differs
tiles_again w h zero t p rest frame bytes sum picture here before e = grind (arith, nat_tests, same_picture)
tiles_again w h (suc count) t p rest frame bytes sum picture here before e =
    let us : List ℕ = rest_changed w h (t + 1) count frame p in
    elim (cases_Bool (differs w h frame p t)) [
      | inl is ↦
          let tail : List ℕ = flat_map (tile_bytes w h p) us ++ rest in
          let mine : List ℕ = flat_map run_bytes (runs (tile w h p t)) ++ tail in
          let text : bytes ≡ two_bytes t ++ mine = rw (is, tile_text w h t p, append_assoc) at e in
          let k = pixels_again w h t (area w h t) 0 0 no_word false frame mine p tail here (omega arith) (omega arith)
          picture is (tile_spelled_back (tile w h p t) mine tail (tile_fits w h t p picture) refl) in
          let later = later_changed w h t count frame k.picture p here.some sum k.others in
          let again = tiles_again w h count (t + 1) p rest k.picture tail (omega arith) picture
          (record { some = here.some; size = k.others.size ∙ here.size }) (λ u low j below.
          grind (arith, nat_tests, k.mine j, others_stay w h t frame k.picture here.some, before u))
          (ap (λ (vs : List ℕ). flat_map (tile_bytes w h p) vs ++ rest) later) in
          rw (is, text, two_number t, eq-eqb t t refl, k.is) (rw (← later) at again)
      | inr is ↦
          let text = rw is at e in
          rw (is, turn_of_another w h t frame p bytes rest us (rest_above (differs w h frame p) t count) text)
          (tiles_again w h count (t + 1) p rest frame bytes (omega arith) picture here
          (λ u low. grind (arith, nat_tests, same_pixel, before u)) text)
    ]

-- ---- records

-- what is read as a record is one
pub record_take : (w h : ℕ) (frame bytes p rest : List ℕ) → 1 ≤ w → length frame ≡ w * h → AreBytes bytes
    → record_at w h frame bytes ≡ Some (p, rest) → bytes ≡ record_of w h frame p ++ rest
unfolding record_of
record_take w h frame (one ∷ low ∷ high ∷ bytes) p rest some size are e =
    let few : low < 256 = are 1 in
    let read = tiles_take w h (tile_count w h) 0 (low + high * 256) frame bytes p rest
    (record { some = some; size = size }) (omega arith) (λ i. are (suc (suc (suc i)))) in
    grind (arith, nat_tests, read)
record_take w h frame bytes p rest some size are e = absurd cc

-- what is a record is read
pub record_again : (w h : ℕ) (frame bytes p rest : List ℕ) → 1 ≤ w → length frame ≡ w * h
    → HasRecord w h frame bytes p rest → record_at w h frame bytes ≡ Some (p, rest)
unfolding record_of
record_again w h frame bytes p rest some size r =
    rw (r.bytes_are, two_number (length (changed_tiles w h frame p)))
    (tiles_again w h (tile_count w h) 0 p rest frame _ (omega arith) r.picture (record { some = some; size = size })
    (λ u low. absurd (omega arith)) refl)

-- 0 begins no record
pub no_record : (w h : ℕ) (frame bytes p rest : List ℕ) → HasRecord w h frame bytes p rest → slice_index bytes 0 ≡ 0 → ⊥
unfolding record_of
no_record w h frame bytes p rest r e = let first = rw r.bytes_are at e in absurd cc

-- bytes begin with one record at most
pub one_record : (w h : ℕ) (frame bytes p q rest after : List ℕ) → 1 ≤ w → length frame ≡ w * h
    → HasRecord w h frame bytes p rest → HasRecord w h frame bytes q after → (p ≡ q) × (rest ≡ after)
one_record w h frame bytes p q rest after some size a b =
    grind (arith, some_pair_parts, record_again w h frame bytes)

pub none_read : (w h : ℕ) (frame bytes p rest : List ℕ) → 1 ≤ w → length frame ≡ w * h
    → record_at w h frame bytes ≡ None → HasRecord w h frame bytes p rest → ⊥
none_read w h frame bytes p rest some size none r = cc (record_again w h frame bytes p rest some size r)

-- ---- records written from left to right

pub one_changed : (f : ℕ → Bool) (n : ℕ) → filter f (range_with_len 0 (n + 1))
    ≡ filter f (range_with_len 0 n) ++ cond (f n) (n ∷ []) []
one_changed f n = simp map-id at (filter_of_map_range_with_len_more f (λ (k : ℕ). k) 0 n n (omega arith))

-- ---- tiles

pub words_more : (f : ℕ → ℕ) (words : List ℕ) (k v : ℕ) → k < length words → take k words ≡ map f (range_with_len 0 k)
    → v ≡ f k → take (k + 1) (slice_set words k v) ≡ map f (range_with_len 0 (k + 1))
words_more f words k v lt e is = grind (arith, nat_tests, map-range_with_len_more, take_more_set)

pub tiles_few : (w h : ℕ) → IsPictureSize w h → tile_count w h ≤ 3072
unfolding tile_count tiles_along
tiles_few w h s = mul-le ((w + 15) / 16) ((h + 15) / 16) 64 48 (omega (arith, s.columns)) (omega (arith, s.rows))

-- what is appended after a first part
pub appends_behind : {T E : Type 0} (r : Result T E) (start front middle more whole now : List ℕ)
    → Appends r middle more now → middle ≡ start ++ front → whole ≡ front ++ more → Appends r start whole now
appends_behind (Ok x) start front middle more whole now a m e = rw (a, m, e) (append_assoc start front more)
appends_behind (Err x) start front middle more whole now (part, a) m e = grind (arith, nat_tests, append_assoc)

pub appends_part : {T E : Type 0} (r : Result T E) (start more now part : List ℕ) → IsErr r → now ≡ start ++ part
    → Appends r start more now
appends_part (Ok x) start more now part is e = absurd cc
appends_part (Err x) start more now part is e = (part, e)

-- one more tile is looked at: what was appended, and how many tiles were
pub tile_done : (f : ℕ → Bool) (g : ℕ → List ℕ) (n : ℕ) (front now after : List ℕ)
    → now ≡ front ++ flat_map g (filter f (range_with_len 0 n)) → after ≡ now ++ cond (f n) (g n) []
    → after ≡ front ++ flat_map g (filter f (range_with_len 0 (n + 1)))
tile_done f g n front now after is more =
    grind (arith, nat_tests, one_changed, flat_map-append, append-nil, append_assoc)

pub tile_counted : (f : ℕ → Bool) (n count one : ℕ) → count ≡ length (filter f (range_with_len 0 n))
    → one ≡ cond (f n) 1 0 → count + one ≡ length (filter f (range_with_len 0 (n + 1)))
tile_counted f n count one is more = grind (arith, nat_tests, one_changed, length-append)

pub one_at_most : (b : Bool) (n : ℕ) → n ≡ cond b 1 0 → n ≤ 1
one_at_most true n e = omega arith
one_at_most false n e = omega arith

-- the two bytes of a number, set where two bytes were left for it
number_put : (start tiles : List ℕ) (a b : ℕ)
    → slice_set (slice_set ((start ++ 1 ∷ 0 ∷ 0 ∷ []) ++ tiles) (suc (length start)) a) (suc (suc (length start))) b
    ≡ start ++ 1 ∷ a ∷ b ∷ tiles
number_put [] tiles a b = refl
number_put (x ∷ start) tiles a b = cc (number_put start tiles a b)

-- the whole record, where its tiles stand and their number is set
pub number_set : (w h : ℕ) (before picture start now : List ℕ) (n at : ℕ) → at ≡ length start
    → n ≡ length (changed_tiles w h before picture)
    → now ≡ (start ++ 1 ∷ 0 ∷ 0 ∷ []) ++ flat_map (tile_bytes w h picture) (changed_tiles w h before picture)
    → slice_set (slice_set now (at + 1) (n % 256)) (at + 1 + 1) (n / 256) ≡ start ++ record_of w h before picture
unfolding record_of
number_set w h before picture start now n at front is e =
    let one : at + 1 ≡ suc (length start) = omega arith in
    let two : at + 1 + 1 ≡ suc (suc (length start)) = omega arith in
    rw (e, two, one, ← is) (number_put start _ (n % 256) (n / 256))

-- ---- runs written from left to right

first_split : (xs : List ℕ) → 0 < length xs
    → runs xs ≡ (prefix_len (λ x. x == slice_index xs 0) (drop 1 xs), slice_index xs 0)
    ∷ runs (drop (1 + prefix_len (λ x. x == slice_index xs 0) (drop 1 xs)) xs)
first_split [] lt = absurd (omega arith)
first_split (word ∷ after) lt = grind (arith, nat_tests, first_run)

-- One more run is written: what is written, and the runs of the pixels that are left, are still the whole.
pub run_written : (out now words whole : List ℕ) (at more : ℕ) → at < length words
    → out ++ flat_map run_bytes (runs (drop at words)) ≡ whole
    → more ≡ prefix_len (λ x. x == slice_index (drop at words) 0) (drop 1 (drop at words))
    → now ≡ out ++ run_bytes (more, slice_index words at)
    → now ++ flat_map run_bytes (runs (drop (at + (1 + more)) words)) ≡ whole
run_written out now words whole at more lt before is e =
    grind (arith, nat_tests, get_or-drop, first_split, length-drop, drop-drop, append_assoc)

-- all runs are written
pub runs_written : (out words whole : List ℕ) (at : ℕ) → length words ≤ at
    → out ++ flat_map run_bytes (runs (drop at words)) ≡ whole → out ≡ whole
runs_written out words whole at le w =
    grind (arith, nat_tests, nil_from_length (drop at words), length-drop, no_runs, append-nil)

-- ---- what reading does at one pixel and at one tile, for the loops that read

-- what follows at pixel k, where it is one of the tile's
pub next_pixel : (w t n k more word : ℕ) (new : Bool) (frame bytes : List ℕ) → k < n
    → pixels_at w t (n - k) k more word new frame bytes
    ≡ (run_at more word bytes >>= (λ x. pixels_at w t (n - (k + 1)) (k + 1) x.1.0 x.0
    (new || not (slice_index frame (place w t k) == x.0)) (slice_set frame (place w t k) x.0) x.1.1))
unfolding pixels_at
next_pixel w t n k more word new frame bytes lt = grind (arith, nat_tests)

-- what is read after the last pixel
pub last_pixel : (w t n k more word : ℕ) (new : Bool) (frame bytes : List ℕ) → n ≤ k
    → pixels_at w t (n - k) k more word new frame bytes ≡ cond (more == 0) (cond new (Some (frame, bytes)) None) None
unfolding pixels_at
last_pixel w t n k more word new frame bytes le = let e : n - k ≡ 0 = omega arith in grind arith

-- what follows at tile t, where it is one of the picture's
pub next_tile : (w h n t left : ℕ) (frame bytes : List ℕ) → t < n
    → tiles_at w h (n - t) t left frame bytes
    ≡ (turn_at w h t left frame bytes >>= (λ x. tiles_at w h (n - (t + 1)) (t + 1) x.1.0 x.0 x.1.1))
unfolding tiles_at
next_tile w h n t left frame bytes lt = grind (arith, nat_tests)

-- what is read after the last tile
pub last_tile : (w h n t left : ℕ) (frame bytes : List ℕ) → n ≤ t
    → tiles_at w h (n - t) t left frame bytes ≡ cond (left == 0) (Some (frame, bytes)) None
unfolding tiles_at
last_tile w h n t left frame bytes le = let e : n - t ≡ 0 = omega arith in grind arith

-- what the loops cite
pub ruleset reader_steps = (next_pixel, last_pixel, next_tile, last_tile)

-- ---- what the definitions of films say of each other

pub goes_on : (w h : ℕ) (before now : List ℕ) (more : List (List ℕ)) → IsPicture w h now
    → HasRecord w h before (records w h before (now ∷ more) ++ 0 ∷ []) now (records w h now more ++ 0 ∷ [])
goes_on w h before now more p = grind (arith, nat_tests, append_assoc)

no_more_records : (w h : ℕ) (before now : List ℕ) (more : List (List ℕ)) → IsPicture w h now
    → 0 ∷ [] ≡ records w h before (now ∷ more) ++ 0 ∷ [] → ⊥
no_more_records w h before now more p e = grind (arith, goes_on w h before now more, no_record w h before (0 ∷ []) now)

one_film : (w h : ℕ) (before : List ℕ) (a b : List (List ℕ)) → IsPictureSize w h → length before ≡ w * h
    → AllByRecursion (IsPicture w h) a → AllByRecursion (IsPicture w h) b
    → records w h before a ++ 0 ∷ [] ≡ records w h before b ++ 0 ∷ [] → a ≡ b
one_film w h before [] [] s size all_a all_b e = refl
one_film w h before [] (y ∷ b) s size all_a all_b e = absurd (no_more_records w h before y b all_b.0 e)
one_film w h before (x ∷ a) [] s size all_a all_b e = absurd (no_more_records w h before x a all_a.0 (sym e))
one_film w h before (x ∷ a) (y ∷ b) s size (all_x, all_a) (all_y, all_b) e =
    let (same, rest) = one_record w h before _ x y _ _ s.some_columns size (goes_on w h before x a all_x)
    (rw (← e) at (goes_on w h before y b all_y)) in
    rw (← same, one_film w h x a b s all_x.size all_a all_b (rw (← same) at rest)) refl

same_number : (m n : ℕ) → m % 256 ≡ n % 256 → m / 256 ≡ n / 256 → m ≡ n
same_number m n p q = omega arith

pub one_stream : (w h v g : ℕ) (a b : List (List ℕ)) → IsPictureSize w h → IsPictureSize v g
    → AllByRecursion (IsPicture w h) a → AllByRecursion (IsPicture v g) b
    → stream w h a ≡ stream v g b → (w ≡ v) × (h ≡ g) × (a ≡ b)
one_stream w h v g a b s s' all_a all_b e =
    let width : w ≡ v = same_number w v (cc) (cc) in
    let height : h ≡ g = same_number h g (cc) (cc) in
    let film = one_film w h (black w h) a b s (length-replicate (w * h) 0) all_a (rw (width, height) all_b)
    (rw (← width, ← height) at (ap (drop 8) e)) in
    (width, height, film)

-- ---- what a film tells

spans_at : (x : ℤ) (w j : ℕ) → pos 0 ≤ℤ x → j < w → spans x w (pos (nat_abs x + j)) ≡ true
spans_at (pos n) w j low lt = grind (arith, nat_tests, spans_holds)
spans_at (negsuc n) w j low lt = absurd (omega (arith, ints))

same_cut : (width height : ℕ) (r : Rectangle) (a b : List ℕ) → LiesIn r (screen width height) → HasPixels r
    → AgreeInside width r a b → crop width r a ≡ crop width r b
unfolding crop_place
same_cut width height r a b lies some agree =
    let i = within r (screen width height) some lies in
    same_map _ _ (r.w * r.h) (λ k below.
    let c = in_cut r k some below in
    agree _ _ (and_true (spans_at r.x r.w (k % r.w) i.left c.across) (spans_at r.y r.h (k / r.w) i.top c.down)))

same_cuts : (width height : ℕ) (r : Rectangle) (a b : List (List ℕ)) → LiesIn r (screen width height) → HasPixels r
    → AllAgree width r a b → map (crop width r) a ≡ map (crop width r) b
same_cuts width height r [] [] lies some all = refl
same_cuts width height r (x ∷ a) (y ∷ b) lies some (all_x, all) =
    rw (same_cut width height r x y lies some all_x, same_cuts width height r a b lies some all) refl
same_cuts width height r a b lies some all = absurd all

pub same_film : (width height : ℕ) (r : Rectangle) (a b : List (List ℕ)) → LiesIn r (screen width height) → HasPixels r
    → AllAgree width r a b → stream r.w r.h (map (crop width r) a) ≡ stream r.w r.h (map (crop width r) b)
same_film width height r a b lies some all = ap (stream r.w r.h) (same_cuts width height r a b lies some all)
