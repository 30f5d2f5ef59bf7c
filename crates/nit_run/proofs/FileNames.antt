-- The names of files that a run puts: those of its shots, and all by their first letters.
use Rattle.nit_run.proofs.Basics.{AllByRecursion, Configuration, Entry, File, HasDifferentNames}
use Rattle.nit_run.proofs.Basics.{LegalFrom, PutEach, ShotsBehind, State, StoreModel, after}
use Rattle.nit_run.proofs.Basics.{all_append, and_parts, append-nil, append_cancel_left}
use Rattle.nit_run.proofs.Basics.{append_cancel_right, asked_also, asking_all, bytes_eq}
use Rattle.nit_run.proofs.Basics.{bytes_eq-Decides, cases_Bool, decimal_injective, events_file}
use Rattle.nit_run.proofs.Basics.{events_files, file_at, have_different_names}
use Rattle.nit_run.proofs.Basics.{journal_file, nat_tests, other_name, range_with_len, shot_name, shots}
use Rattle.nit_run.proofs.Basics.{slice_index, with_asked}
use Rattle.std.proofs.Common.{List, None, Option, Some, [], ap, append_assoc, arith, false, inl}
use Rattle.std.proofs.Common.{inr, is_none, length, map, refl, suc, sym, true, zero, ℕ, ◌++◌, ◌+◌}
use Rattle.std.proofs.Common.{◌<◌, ◌^◌, ◌∙◌, ◌∷◌, ◌≡◌, ◌≢◌}
use Rattle.nit_events.specs.declared.entry.Entry.TheVariants as entry

-- ---- names

-- shots of different numbers have different names
pub shots_apart : (m n : ℕ) → m < 2 ^ 64 → n < 2 ^ 64 → shot_name m ≡ shot_name n → m ≡ n
shots_apart m n small few same = grind (arith, nat_tests, decimal_injective, append_cancel_right, append_cancel_left)

-- none of these files has this name
abbrev pub OtherThan : List ℕ → List File → Type 0
OtherThan name files = AllByRecursion (λ f. name ≢ f.0) files

-- no two of these files have one name
abbrev pub Apart : List File → Type 0
Apart [] = Unit {0}
Apart (f ∷ files) = OtherThan f.0 files × Apart files

-- what all have, the first of them have
pub all_front : {A : Type 0} (P : A → Type 0) (front back : List A) → AllByRecursion P (front ++ back)
    → AllByRecursion P front
all_front P [] back h = tt
all_front P (x ∷ front) back h = (h.0, all_front P front back h.1)

pub apart_front : (front back : List File) → Apart (front ++ back) → Apart front
apart_front [] back apart = tt
apart_front (f ∷ front) back apart = (all_front _ front back apart.0, apart_front front back apart.1)

-- ---- as the store says it

absent : (name : List ℕ) (files : List File) → OtherThan name files → is_none (file_at name files) ≡ true
absent name [] other = refl
absent name (f ∷ files) other = rw (other_name f.0 name (λ same. other.0 (sym same))) (absent name files other.1)

pub differ : (files : List File) → Apart files → HasDifferentNames files
differ [] apart = refl
differ (f ∷ files) apart = rw (absent f.0 files apart.0) (differ files apart.1)

other_than : (name : List ℕ) (files : List File) → is_none (file_at name files) ≡ true → OtherThan name files
other_than name [] none = tt
other_than name (f ∷ files) none = elim (cases_Bool (bytes_eq f.0 name)) [
  | inl same ↦ let some = rw same at none in absurd cc
  | inr other ↦
      ((λ is. absurd (cc ((bytes_eq-Decides f.0 name).1 (sym is)))), other_than name files (rw other at none))
]

pub apart_of : (files : List File) → HasDifferentNames files → Apart files
apart_of [] different = tt
apart_of (f ∷ files) different =
    let parts = and_parts (is_none (file_at f.0 files)) (have_different_names files) different in
    (other_than f.0 files parts.0, apart_of files parts.1)

-- ---- once they are put

pub stays : (files : List File) (name : List ℕ) (old new : List File) → PutEach files old new → OtherThan name files
    → file_at name new ≡ file_at name old
stays [] name old new puts other = ap (file_at name) puts
stays (f ∷ files) name old new (mid, p, puts) other = stays files name mid new puts other.1 ∙ p.others name other.0

-- ---- names by their first letter

-- each name begins with this letter
abbrev pub Begin : ℕ → List File → Type 0
Begin letter files = AllByRecursion (λ f. slice_index f.0 0 ≡ letter) files

-- none does
abbrev pub BeginOther : ℕ → List File → Type 0
BeginOther letter files = AllByRecursion (λ f. slice_index f.0 0 ≢ letter) files

pub begin_other : (letter other : ℕ) (files : List File) → Begin letter files → (letter ≡ other → ⊥)
    → BeginOther other files
begin_other letter other [] begin apart = tt
begin_other letter other (f ∷ files) begin apart =
    ((λ is. apart (sym begin.0 ∙ is)), begin_other letter other files begin.1 apart)

pub other_letter : (name : List ℕ) (letter : ℕ) (files : List File) → slice_index name 0 ≡ letter
    → BeginOther letter files → OtherThan name files
other_letter name letter [] is other = tt
other_letter name letter (f ∷ files) is other = grind (arith, nat_tests, other_letter name letter files is other.1)

pub other_both : (name : List ℕ) (xs ys : List File) → OtherThan name xs → OtherThan name ys → OtherThan name (xs ++ ys)
other_both name xs ys a b = all_append (λ f. name ≢ f.0) xs ys a b

pub apart_by : (letter : ℕ) (xs ys : List File) → Begin letter xs → BeginOther letter ys → Apart xs → Apart ys
    → Apart (xs ++ ys)
apart_by letter [] ys begin other apart more = more
apart_by letter (x ∷ xs) ys begin other apart more =
    grind (arith, nat_tests, apart_by letter xs ys begin.1 other apart.1 more, other_both, other_letter)

-- ---- the files of shots

-- the files have the names of shots that are numbered on from this one
abbrev pub Numbered : ℕ → List File → Type 0
Numbered first [] = Unit {0}
Numbered first (f ∷ files) = (f.0 ≡ shot_name first) × Numbered (first + 1) files

-- so it is with those of a legal journal
pub numbered : (P : List Entry → List ℕ → Type 0) (s : State) (taken : ℕ) (before es : List Entry) (files : List File)
    → LegalFrom s taken es → ShotsBehind P before es files → Numbered (taken + 1) files × (length files ≡ shots es)
numbered P s taken before [] files legal is = rw is (tt, refl)
numbered P s taken before (entry.Shot number ∷ es) files legal (bytes, more, is, picture, rest) =
    grind (arith, nat_tests, numbered P s (taken + 1) (before ++ entry.Shot number ∷ []) es more legal.1 rest)
numbered P s taken before (entry.Final ∷ es) files legal are = grind (arith, nat_tests)
numbered P s taken before (e ∷ es) files legal are =
    numbered P (after s e) taken (before ++ e ∷ []) es files legal.1 are

-- the shots behind one have other names
pub later_shots : (n first : ℕ) (files : List File) → n < first → first + length files < 2 ^ 64 → Numbered first files
    → OtherThan (shot_name n) files
later_shots n first [] less few is = tt
later_shots n first (f ∷ files) less few is =
    grind (arith, nat_tests, later_shots n (first + 1) files (omega arith) (omega arith) is.1, shots_apart)

pub shots_apart_all : (first : ℕ) (files : List File) → first + length files < 2 ^ 64 → Numbered first files
    → Apart files
shots_apart_all first [] few is = tt
shots_apart_all first (f ∷ files) few is =
    grind (arith, nat_tests, shots_apart_all (first + 1) files (omega arith) is.1, later_shots)

-- their names begin with an s
pub shots_begin : (first : ℕ) (files : List File) → Numbered first files → Begin 115 files
shots_begin first [] is = tt
shots_begin first (f ∷ files) is = (rw is.0 refl, shots_begin (first + 1) files is.1)

-- the names of events begin with an e
pub events_begin : (config : Configuration) (journal : List Entry) (first count : ℕ)
    → Begin 101 (map (events_file config journal) (range_with_len first count))
events_begin config journal first zero = tt
events_begin config journal first (suc count) = (refl, events_begin config journal (first + 1) count)

-- and that of the journal with a j
pub texts_other : (config : Configuration) (journal : List Entry) (letter : ℕ) → ◌≢◌ {A = ℕ} 101 letter
    → ◌≢◌ {A = ℕ} 106 letter → BeginOther letter (events_files config journal ++ journal_file journal ∷ [])
texts_other config journal letter e j =
    all_append (λ f. slice_index f.0 0 ≢ letter) (events_files config journal) (journal_file journal ∷ [])
    (begin_other 101 letter (events_files config journal) (events_begin config journal 0 (length config.clients)) e)
    (j, tt)

-- ---- names that are asked for, one after the other

pub also_none : (o : Option (List (List ℕ))) → o ≡ asked_also o []
also_none None = refl
also_none (Some names) = ap (λ (x : List (List ℕ)). Some x) (sym (append-nil names))

pub also_more : (o : Option (List (List ℕ))) (a b : List (List ℕ))
    → asked_also (asked_also o a) b ≡ asked_also o (a ++ b)
also_more None a b = refl
also_more (Some names) a b = ap (λ (x : List (List ℕ)). Some x) (append_assoc names a b)

pub asking_none : (old : StoreModel) → old ≡ asking_all old []
asking_none old = ap (λ (o : Option (List (List ℕ))). record old { asked = o }) (also_none old.asked)

pub asking_both : (old : StoreModel) (a b : List (List ℕ)) → asking_all (asking_all old a) b ≡ asking_all old (a ++ b)
asking_both old a b = ap (λ (o : Option (List (List ℕ))). record old { asked = o }) (also_more old.asked a b)

pub asking_more : (old : StoreModel) (names : List (List ℕ)) (name : List ℕ) → with_asked (asking_all old names) name
    ≡ asking_all old (names ++ name ∷ [])
asking_more old names name = asking_both old names (name ∷ [])
