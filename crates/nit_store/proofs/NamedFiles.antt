-- Files as the code keeps them, put under names one after the other; and what was said.
use Rattle.std.proofs.Common.{Bool, IsTrue, List, None, Option, Some, [], ap, append_assoc, arith}
use Rattle.std.proofs.Common.{cond, false, get_or, length, not, refl, set, subst, suc, sym, true}
use Rattle.std.proofs.Common.{zero, ℕ, ◌&&◌, ◌++◌, ◌<◌, ◌∙◌, ◌∷◌, ◌≡◌, ◌≢◌}
use Rattle.nit_store.proofs.Basics.{File, Global, HasDifferentNames, IsPut, PutIn, PutRefusal}
use Rattle.nit_store.proofs.Basics.{PutState, PutsAll, PutsNext, PutsUnless, StoreModel, String}
use Rattle.nit_store.proofs.Basics.{Vec, append-nil, bytes_eq, bytes_eq-Decides, file_at, files_of}
use Rattle.nit_store.proofs.Basics.{have_different_names, is_none, nat_lt, nat_tests, not-true}
use Rattle.nit_store.proofs.Basics.{option_map, position, position-Some, position_or_len}
use Rattle.nit_store.proofs.Basics.{prefix_len_passes, string_bytes, with_file, with_said}

pub is_name : (a name : List ℕ) → bytes_eq a name ≡ true → a ≡ name
is_name a name e = (bytes_eq-Decides a name).0 e

same_name : (name : List ℕ) → bytes_eq name name ≡ true
same_name name = (bytes_eq-Decides name name).1 refl

pub other_name : (a name : List ℕ) → a ≢ name → bytes_eq a name ≡ false
other_name a name ne = by_cases (bytes_eq a name) refl
  where
    by_cases : (b : Bool) → bytes_eq a name ≡ b → b ≡ false
    by_cases true e = absurd (ne (is_name a name e))
    by_cases false e = refl

not_name : (a name : List ℕ) → bytes_eq a name ≡ false → a ≢ name
not_name a name e is =
    let same : bytes_eq a name ≡ true = (bytes_eq-Decides a name).1 is in
    cc

this_put : (name bytes : List ℕ) (fs : List File) → file_at name (with_file name bytes fs) ≡ Some bytes
this_put name bytes [] = rw (same_name name) refl
this_put name bytes (f ∷ fs) = by_cases (bytes_eq f.0 name) refl (this_put name bytes fs)
  where
    by_cases : (b : Bool) → bytes_eq f.0 name ≡ b → file_at name (with_file name bytes fs) ≡ Some bytes
        → file_at name (cond b ((name, bytes) ∷ fs) (f ∷ with_file name bytes fs)) ≡ Some bytes
    by_cases true e h = rw (same_name name) refl
    by_cases false e h = rw e h

others_stay : (name bytes : List ℕ) (fs : List File) (other : List ℕ) → other ≢ name
    → file_at other (with_file name bytes fs) ≡ file_at other fs
others_stay name bytes [] other ne = rw (other_name name other (λ e. ne (sym e))) refl
others_stay name bytes (f ∷ fs) other ne = by_cases (bytes_eq f.0 name) refl (others_stay name bytes fs other ne)
  where
    by_cases : (b : Bool) → bytes_eq f.0 name ≡ b → file_at other (with_file name bytes fs) ≡ file_at other fs
        → file_at other (cond b ((name, bytes) ∷ fs) (f ∷ with_file name bytes fs)) ≡ file_at other (f ∷ fs)
    by_cases true e h = rw (is_name f.0 name e, other_name name other (λ e. ne (sym e))) refl
    by_cases false e h = rw h refl

pub is_put : (name bytes : List ℕ) (fs : List File) → IsPut name bytes fs (with_file name bytes fs)
is_put name bytes fs = record { this = this_put name bytes fs; others = λ other ne. others_stay name bytes fs other ne }

pub put_in : (name bytes : List ℕ) (old new : List File) → new ≡ with_file name bytes old
    → PutIn name bytes (Some old) (Some new)
put_in name bytes old new e = (new, refl, rw e (is_put name bytes old))

both : (a b : Bool) → IsTrue (a && b) → (a ≡ true) × IsTrue b
both true b h = (refl, h)
both false b h = absurd cc

is_none_none : (o : Option (List ℕ)) → is_none o ≡ true → o ≡ None
is_none_none None e = refl
is_none_none (Some x) e = absurd cc

none_first : (name : List ℕ) (fs : List File) → file_at name fs ≡ None → HasDifferentNames fs
    → IsTrue (is_none (file_at name fs) && have_different_names fs)
none_first name fs none h = rw none h

-- no two files have one name after a put either
pub different-with_file : (name bytes : List ℕ) (fs : List File) → HasDifferentNames fs
    → HasDifferentNames (with_file name bytes fs)
different-with_file name bytes [] h = refl
different-with_file name bytes (f ∷ fs) h =
    let parts = both (is_none (file_at f.0 fs)) (have_different_names fs) h in
    by_cases (bytes_eq f.0 name) refl (is_none_none (file_at f.0 fs) parts.0) parts.1
    (different-with_file name bytes fs parts.1)
  where
    by_cases : (b : Bool) → bytes_eq f.0 name ≡ b → file_at f.0 fs ≡ None → HasDifferentNames fs
        → HasDifferentNames (with_file name bytes fs)
        → HasDifferentNames (cond b ((name, bytes) ∷ fs) (f ∷ with_file name bytes fs))
    by_cases true e none h rest = none_first name fs (ap (λ (n : List ℕ). file_at n fs) (sym (is_name f.0 name e))
        ∙ none) h
    by_cases false e none h rest =
        none_first f.0 (with_file name bytes fs) (others_stay name bytes fs f.0 (not_name f.0 name e) ∙ none) rest

-- ---- files as the code keeps them

abbrev pub Stored : Type 0
Stored = String Global × Vec ℕ Global

abbrev pub view_of : Stored → File
view_of f = (string_bytes f.0, f.1.items)

abbrev pub has_name : List ℕ → Stored → Bool
has_name name f = bytes_eq (string_bytes f.0) name

-- the first file of the name is written over
put_first : (fs : List Stored) (name bytes : List ℕ) (i : ℕ) (d y : Stored) → i < length fs
    → has_name name (get_or fs i d) ≡ true → ((k : ℕ) → k < i → has_name name (get_or fs k d) ≡ false)
    → view_of y ≡ (name, bytes) → files_of (set fs i y) ≡ with_file name bytes (files_of fs)
put_first [] name bytes i d y lt here before is = absurd (omega arith)
put_first (f ∷ fs) name bytes zero d y lt here before is = rw here (ap (λ (r : File). r ∷ files_of fs) is)
put_first (f ∷ fs) name bytes (suc i) d y lt here before is =
    rw (before 0 (omega arith)) (ap (λ (r : List File). view_of f ∷ r)
    (put_first fs name bytes i d y (omega arith) here (λ k h. before (suc k) (omega arith)) is))

pub put_at : (fs : List Stored) (name bytes : List ℕ) (i : ℕ) (x : Stored) (copy : Vec ℕ Global)
    → position (has_name name) fs ≡ Some i → x ≡ get_or fs i x → copy.items ≡ bytes
    → files_of (set fs i (x.0, copy)) ≡ with_file name bytes (files_of fs)
put_at fs name bytes i x copy found is same =
    let f = position-Some (has_name name) fs i x found in
    let named : string_bytes x.0 ≡ name =
    is_name (string_bytes x.0) name (ap (λ (y : Stored). has_name name y) is ∙ f.1) in
    put_first fs name bytes i x (x.0, copy) f.0 f.1 f.2 (λ j. (named j, same j))

none_false : (b : Bool) (n : ℕ) → cond b (Some n) None ≡ None → b ≡ false
none_false true n e = absurd cc
none_false false n e = refl

-- where no place is found, no file has the name
nowhere : (fs : List Stored) (name : List ℕ) (d : Stored) → position (has_name name) fs ≡ None → (k : ℕ) → k < length fs
    → has_name name (get_or fs k d) ≡ false
nowhere fs name d none k lt =
    let n = position_or_len (has_name name) fs in
    let past : nat_lt n (length fs) ≡ false = none_false (nat_lt n (length fs)) n none in
    let inside : k < n = grind (arith, nat_tests) in
    not-true (has_name name (get_or fs k d)) (prefix_len_passes (λ (x : Stored). not (has_name name x)) fs k d inside)

put_behind : (fs : List Stored) (name bytes : List ℕ) (d y : Stored)
    → ((k : ℕ) → k < length fs → has_name name (get_or fs k d) ≡ false) → view_of y ≡ (name, bytes)
    → files_of (fs ++ y ∷ []) ≡ with_file name bytes (files_of fs)
put_behind [] name bytes d y each is = ap (λ (r : File). r ∷ []) is
put_behind (f ∷ fs) name bytes d y each is =
    rw (each 0 (omega arith)) (ap (λ (r : List File). view_of f ∷ r)
    (put_behind fs name bytes d y (λ k h. each (suc k) (omega arith)) is))

pub put_last : (fs : List Stored) (name bytes : List ℕ) (y : Stored) → position (has_name name) fs ≡ None
    → string_bytes y.0 ≡ name → y.1.items ≡ bytes → files_of (fs ++ y ∷ []) ≡ with_file name bytes (files_of fs)
put_last fs name bytes y none named same =
    put_behind fs name bytes y y (nowhere fs name y none) (λ j. (named j, same j))

-- ---- files that are put one after the other: one more, more, and none after a refusal

pub puts_both : (front back : List File) (old mid new : PutState) → PutsAll front old mid → PutsAll back mid new
    → PutsAll (front ++ back) old new
puts_both [] back old mid new same more = subst (λ (p : PutState). PutsAll back p new) same more
puts_both (file ∷ front) back old mid new (next, first, rest) more =
    (next, first, puts_both front back next mid new rest more)

pub puts_more : (files : List File) (file : File) (old mid new : PutState) → PutsAll files old mid
    → PutsNext file mid new → PutsAll (files ++ file ∷ []) old new
puts_more files file old mid new puts next = puts_both files (file ∷ []) old mid new puts (new, next, refl)

next_stays : (o : Option PutRefusal) (r : PutRefusal) (file : File) (old new : PutState) → o ≡ Some r
    → PutsUnless o file old new → new ≡ old
next_stays None r file old new is next = absurd cc
next_stays (Some x) r file old new is next = next

pub none_behind : (files : List File) (old new : PutState) (r : PutRefusal) → old.refused ≡ Some r
    → PutsAll files old new → new ≡ old
none_behind [] old new r refused same = same
none_behind (file ∷ files) old new r refused (mid, next, rest) =
    let same : mid ≡ old = next_stays old.refused r file old mid refused next in
    none_behind files mid new r (ap (λ (p : PutState). p.refused) same ∙ refused) rest ∙ same

-- ---- what was said, after more than one saying

said_twice : (said : Option (List ℕ)) (a b : List ℕ)
    → option_map (λ (t : List ℕ). t ++ b) (option_map (λ (t : List ℕ). t ++ a) said)
    ≡ option_map (λ (t : List ℕ). t ++ (a ++ b)) said
said_twice None a b = refl
said_twice (Some t) a b = ap (λ (x : List ℕ). Some x) (append_assoc t a b)

-- two sayings are one of both texts
pub saying-saying : (shown : StoreModel) (a b : List ℕ) → with_said (with_said shown a) b ≡ with_said shown (a ++ b)
saying-saying shown a b = ap (λ (said : Option (List ℕ)). record shown { said = said }) (said_twice shown.said a b)

nothing_said : (said : Option (List ℕ)) → option_map (λ (t : List ℕ). t ++ []) said ≡ said
nothing_said None = refl
nothing_said (Some t) = ap (λ (x : List ℕ). Some x) (append-nil t)

-- nothing is said by no text
pub saying-nil : (shown : StoreModel) → with_said shown [] ≡ shown
saying-nil shown = ap (λ (said : Option (List ℕ)). record shown { said = said }) (nothing_said shown.said)
