-- The files that a command has put stand in the store at the end.

use Rattle.std.proofs.Common.{◌≡◌, ◌≢◌, ℕ, List, [], ◌∷◌, Option, Some, None, sym, ◌∙◌, suc, arith}
use Rattle.std.proofs.Common.{◌++◌, refl, inl, inr, ◌⊎◌}
use Rattle.nit_top.proofs.Basics.{All, All-from_recursion, AllByRecursion, Apart, AreStored, Begun}
use Rattle.nit_top.proofs.Basics.{Came, Command, Course, End, Entry, File, HasDifferentNames}
use Rattle.nit_top.proofs.Basics.{IsCommandRun, IsCutShort, IsMadeInPart, IsMadeUpTo, IsNotBegun}
use Rattle.nit_top.proofs.Basics.{IsPutBefore, IsPutWhole, NotBegun, OtherThan, PutEach, PutFiles}
use Rattle.nit_top.proofs.Basics.{Stand, StandIn, StoreModel, WithRun, WithoutRun, apart_front}
use Rattle.nit_top.proofs.Basics.{apart_of, append-nil, code_of, file_at, made_by, stays, to_put}
use Rattle.nit_top.proofs.CauseLemmas.{audit_makes_none, not_code, with_run}
use Rattle.nit_setup.specs.declared.stop.End.TheVariants as ends

each_stands : (files old new : List File) → Apart files → PutEach files old new
    → AllByRecursion (λ f. file_at f.0 new ≡ Some f.1) files
each_stands [] old new apart puts = tt
each_stands (f ∷ files) old new apart (mid, p, puts) =
    (stays files f.0 mid new puts apart.0 ∙ p.this, each_stands files mid new apart.1 puts)

none_is : (name : List ℕ) (files : List File) → All (λ f. f.0 ≢ name) files → OtherThan name files
none_is name [] other = tt
none_is name (f ∷ files) other =
    ((λ same. other 0 f (omega arith) (sym same)), none_is name files (λ k d inside. other (suc k) d (omega arith)))

pub stand : (files old new : List File) → Apart files → PutEach files old new → Stand files old new
stand files old new apart puts = record {
  each = All-from_recursion (λ f. file_at f.0 new ≡ Some f.1) files (each_stands files old new apart puts);
  others = λ name other. stays files name old new puts (none_is name files other);
}

pub stand_in : (files : List File) (old new : Option (List File)) → Apart files → PutFiles files old new
    → StandIn files old new
stand_in files None new apart puts = puts
stand_in files (Some old) new apart puts = (puts.0, puts.1, stand files old puts.0 apart puts.2)

-- what the law of names says
pub record NamesLaw : Type 0 where
  pub made : (c : Command) → HasDifferentNames (made_by c)
  pub puts : (old : StoreModel) (c : Command) (journal : List Entry) (run : IsCommandRun old c journal)
      → HasDifferentNames run.puts

different : NamesLaw → {old : StoreModel} {c : Command} {journal : List Entry} (course : Course old c journal)
    → HasDifferentNames (to_put course)
different law {old = old} {c = c} {journal = journal} (Begun run) = law.puts old c journal run
different law {c = c} (NotBegun empty) = law.made c

-- where no run was begun, the files that the command makes are to be put
made_then : {old : StoreModel} {c : Command} {journal : List Entry} (course : Course old c journal) → WithoutRun course
    → to_put course ≡ made_by c
made_then (Begun run) none = absurd none
made_then (NotBegun empty) none = refl

none_put : (old new : Option (List File)) → new ≡ old → PutFiles [] old new
none_put None new same = same
none_put (Some all) new same = (all, same, refl)

-- how far a command came, whatever the end
abbrev pub SoFar : {old : StoreModel} {c : Command} {journal : List Entry} → Course old c journal → Option (List File)
    → Option (List (List ℕ)) → Type 0
SoFar course files asked = IsNotBegun course files asked
    ⊎ (IsMadeInPart course files asked
    ⊎ WithRun course (λ run. IsPutWhole run files asked ⊎ IsCutShort run files asked))

module _ (law : NamesLaw) (c : Command) (old : StoreModel) (files : Option (List File)) (asked : Option (List (List ℕ)))
    (journal : List Entry) (status : ℕ) where
  first_put : (course : Course old c journal) (front back : List File) → to_put course ≡ front ++ back
      → (status ≡ 0 → back ≡ []) → PutFiles front old.files files → AreStored (to_put course) status old.files files
  first_put course front back parts whole put = record {
    front = front;
    back = back;
    parts = parts;
    whole = whole;
    put = put;
    stand = stand_in front old.files files
        (apart_front front back (rw parts at (apart_of (to_put course) (different law course)))) put;
  }

  all_stored : (course : Course old c journal) → WithRun course (λ run. IsPutWhole run files asked)
      → AreStored (to_put course) status old.files files
  all_stored (Begun run) h = first_put (Begun run) run.puts [] (sym (append-nil run.puts)) (λ s. refl) h.put
  all_stored (NotBegun empty) h = absurd h

  -- at a status that is not 0
  module _ (some : status ≡ 0 → ⊥) where
    made_stored : (course : Course old c journal) (last : List File) (more : List (List ℕ))
        → IsMadeUpTo course files asked last more → AreStored (to_put course) status old.files files
    made_stored course last more m =
        first_put course m.front last (made_then course m.none ∙ m.parts) (λ s. absurd (some s)) m.put

    before_stored : (run : IsCommandRun old c journal) (name : List ℕ) (more : List (List ℕ))
        → IsPutBefore run files asked name more → AreStored run.puts status old.files files
    before_stored run name more b =
        first_put (Begun run) b.front ((name, b.bytes) ∷ b.back) b.parts (λ s. absurd (some s)) b.put

    far_stored : (course : Course old c journal) → SoFar course files asked
        → AreStored (to_put course) status old.files files
    far_stored course (inl n) = first_put course [] (to_put course) refl (λ s. absurd (some s))
        (none_put old.files files n.same)
    far_stored course (inr (inl (inl (name, (bytes, behind, m))))) =
        made_stored course ((name, bytes) ∷ behind) (name ∷ []) m
    far_stored course (inr (inl (inr (last, m)))) = made_stored course last [] m
    far_stored (Begun run) (inr (inr (inl whole))) = all_stored (Begun run) whole
    far_stored (Begun run) (inr (inr (inr (name, inl b)))) = before_stored run name (name ∷ []) b
    far_stored (Begun run) (inr (inr (inr (name, inr b)))) = before_stored run name [] b
    far_stored (NotBegun empty) (inr (inr h)) = absurd h

  pub stored : (course : Course old c journal) (e : End) (line : List ℕ) → Came course files asked e line
      → SoFar course files asked → (status ≡ 0 → code_of e ≡ 0) → AreStored (to_put course) status old.files files
  stored course ends.Whole line h far zero = all_stored course (with_run course h (λ run p. p.0))
  stored course (ends.Audited count) line h far zero =
      first_put course [] [] (made_then course h.0.none ∙ audit_makes_none c h.0.audit) (λ s. refl)
      (none_put old.files files h.0.same)
  stored course other line h far zero = far_stored (λ s. not_code other 0 (zero s) refl) course far
