-- Words that are 0 or of some colours.
use Rattle.std.proofs.Common.{All, List, [], arith, get_or, inl, inr, length, ℕ, ◌+◌, ◌<◌, ◌==◌}
use Rattle.std.proofs.Common.{◌≡◌, ◌≤◌}
use Rattle.nit_word.proofs.Basics.{Any-from_list_any, Colours, IsInked, IsLoaded, IsLoadedRow}
use Rattle.nit_word.proofs.Basics.{IsOfColours, IsWord, cases_Bool, inked_sight, nat_tests}
use Rattle.nit_word.proofs.Basics.{slice_index}

-- 0 is a word, and so is each of the colours
pub inked_fits : (ink : List ℕ) (w : ℕ) → All IsWord ink → IsOfColours ink w → IsWord w
inked_fits ink w fit inked = elim (cases_Bool (w == 0)) [
  | inl is ↦ grind (arith, nat_tests)
  | inr is ↦
      let some = Any-from_list_any (λ y. y == w) ink (rw is at inked) in
      let here = fit some.0 some.1 some.2 in
      grind (arith, nat_tests, some.3, some.4)
]

-- nothing but 0 is of no colours
pub no_ink : (i w : ℕ) → IsInked (Colours []) i w → w ≡ 0
no_ink i w inked = grind (arith, nat_tests)

pub all_fit : (ink words : List ℕ) → All IsWord ink → All (IsOfColours ink) words → All IsWord words
all_fit ink words fit inked i d lt = inked_fits ink (get_or words i d) fit (inked i d lt)

-- what stands at a place of an inked glass may be loaded there
pub place_loaded : (owner : ℕ) (words ink : List ℕ) (i w : ℕ) → All IsWord ink → All (IsOfColours ink) words
    → i < length words → w ≡ slice_index words i
    → IsLoaded (inked_sight owner words ink) i w
place_loaded owner words ink i w fit inked room is =
    let here : IsOfColours ink w = rw is (inked i 0 room) in record {
      fits = inked_fits ink w fit here;
      inked = here;
      stage = tt;
      told = is;
    }

-- what stands side by side there may be loaded as a row
pub row_loaded : (owner : ℕ) (words ink row : List ℕ) (from : ℕ) → All IsWord ink → All (IsOfColours ink) words
    → from + length row ≤ length words
    → ((j : ℕ) → j < length row → slice_index row j ≡ slice_index words (from + j))
    → IsLoadedRow (inked_sight owner words ink) from row
row_loaded owner words ink row from fit inked room is j inside =
    place_loaded owner words ink (from + j) (slice_index row j) fit inked (omega arith) (is j inside)
