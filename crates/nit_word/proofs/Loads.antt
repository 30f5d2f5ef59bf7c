-- What loads do to a sight, and words that are loaded side by side.
use Rattle.std.proofs.Common.{List, None, Option, Some, [], ap, append-nil, append_assoc, arith}
use Rattle.std.proofs.Common.{get_or, get_or-set_other, get_or-set_same, inl, inr, length, refl}
use Rattle.std.proofs.Common.{set, sym, take, ℕ, ◌++◌, ◌+◌, ◌<◌, ◌∷◌, ◌≡◌}
use Rattle.nit_word.proofs.Basics.{IsLoaded, Sight, cases_eq, enumerate_from, length-take-le}
use Rattle.nit_word.proofs.Basics.{option_map, seen, take_more_set}

-- no load, and one list of loads after another
pub seen_none : (s : Sight) → s ≡ seen s []
seen_none s = λ i. record s { log = same s.log i }
  where
    same : (o : Option (List (ℕ × ℕ))) → o ≡ option_map (λ log. log ++ []) o
    same None = refl
    same (Some l) = ap Some (sym (append-nil l))

pub seen_twice : (s : Sight) (a b : List (ℕ × ℕ)) → seen (seen s a) b ≡ seen s (a ++ b)
seen_twice s a b = λ i. record s { log = same s.log i }
  where
    same : (o : Option (List (ℕ × ℕ))) → option_map (λ log. log ++ b) (option_map (λ log. log ++ a) o)
        ≡ option_map (λ log. log ++ (a ++ b)) o
    same None = refl
    same (Some l) = ap Some (append_assoc l a b)

-- what may be loaded after loads may be loaded before them, and the other way round
pub loaded_before : (g now : Sight) (loads : List (ℕ × ℕ)) (i w : ℕ) → now ≡ seen g loads → IsLoaded now i w
    → IsLoaded g i w
loaded_before g now loads i w is loaded =
    let h = rw is at loaded in record { fits = h.fits; inked = h.inked; stage = h.stage; told = h.told }

pub loaded_after : (g : Sight) (loads : List (ℕ × ℕ)) (i w : ℕ) → IsLoaded g i w → IsLoaded (seen g loads) i w
loaded_after g loads i w h = record { fits = h.fits; inked = h.inked; stage = h.stage; told = h.told }

-- the places and words of a row with one more word
more_places : (from : ℕ) (xs : List ℕ) (x : ℕ) → enumerate_from from (xs ++ x ∷ []) ≡ enumerate_from from xs
    ++ (from + length xs, x) ∷ []
more_places from [] x = ap (λ (n : ℕ). (n, x) ∷ []) (omega arith)
more_places from (y ∷ ys) x =
    rw (more_places (from + 1) ys x)
    (ap (λ (n : ℕ). (from, y) ∷ enumerate_from (from + 1) ys ++ (n, x) ∷ []) (omega arith))

pub more_taken : (from j w : ℕ) (row : List ℕ) → j < length row → enumerate_from from (take (j + 1) (set row j w))
    ≡ enumerate_from from (take j row) ++ (from + j, w) ∷ []
more_taken from j w row inside =
    rw (take_more_set row j w inside, more_places from (take j row) w) (rw (length-take-le j row (omega arith)))

-- ---- a row that is loaded word by word: the first so many words are there

pub record IsLoadedTo (g : Sight) (from j : ℕ) (row : List ℕ) (now : Sight) : Type 0 where
  pub words : (i : ℕ) → i < j → IsLoaded g (from + i) (get_or row i 0)
  pub sight : now ≡ seen g (enumerate_from from (take j row))

pub one_loaded : (g now after : Sight) (from j w : ℕ) (row : List ℕ) → j < length row → IsLoaded now (from + j) w
    → after ≡ seen now ((from + j, w) ∷ []) → IsLoadedTo g from j row now
    → IsLoadedTo g from (j + 1) (set row j w) after
one_loaded g now after from j w row inside loaded saw far = record {
  words = λ i l. elim (cases_eq i j) [
    | inl e ↦ rw (e, get_or-set_same row j w 0 inside) (loaded_before g now _ (from + j) w far.sight loaded)
    | inr ne ↦ rw (get_or-set_other row j i w 0 ne) (far.words i (omega arith))
  ];
  sight = rw (saw, far.sight, more_taken from j w row inside) (seen_twice g _ _);
}
