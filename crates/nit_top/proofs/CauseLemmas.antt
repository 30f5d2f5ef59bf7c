-- What the causes of answers stand on: judgements of files, codes and counts, courses, and what is said.
use Rattle.nit_top.proofs.Basics.{Audit, AuditOr, Begun, Capture, Command, Counts, Course, End}
use Rattle.nit_top.proofs.Basics.{Entry, Fault, File, IfSome, IsAudit, IsCommandRun, IsRefusedWith}
use Rattle.nit_top.proofs.Basics.{IsSetupOf, IsSomeAnd, IsTrue, IsValid, IsValidSo, Judged}
use Rattle.nit_top.proofs.Basics.{NoCommand, NotBegun, PutError, PutFiles, Refused, Rose, Says}
use Rattle.nit_top.proofs.Basics.{SaysLine, Setup, StoreModel, WithRun, WithoutRun, append-nil}
use Rattle.nit_top.proofs.Basics.{bytes_of, code_of, codes_agree, eqb-suc-zero, fault_code}
use Rattle.nit_top.proofs.Basics.{is_outside_of, list_any, made_by, not_both, one_configuration}
use Rattle.nit_top.proofs.Basics.{status_of, valid_not_refused, with_said}
use Rattle.std.proofs.Common.{◌≡◌, ℕ, Bool, List, Option, Some, None, refl, ◌∙◌, ◌≤◌, true, false}
use Rattle.std.proofs.Common.{[], ◌∷◌, arith, inl, inr, ◌⊎◌, ◌==◌, ◌++◌, ap, zero, suc, cond}
use Rattle.std.proofs.Common.{Result, Ok, Err, sym}
use Rattle.nit_setup.specs.declared.stop.End.TheVariants as ends
use Rattle.nit_setup.specs.declared.stop.Fault.TheVariants as fault
use Rattle.nit_store.specs.declared.store.PutError.TheVariants as put

-- ---- the judgement of the files of a command, where the store tells them

-- what follows of what is so there
pub some_so : {X : Type 0} (told : Option (List File)) {P : List File → Type 0} → IsSomeAnd told P
    → ((files : List File) → P files → X) → X
some_so None p f = absurd p
some_so (Some files) p f = f files p

both_so : {X : Type 0} (told : Option (List File)) {P Q : List File → Type 0} → IfSome told P → IsSomeAnd told Q
    → ((files : List File) → P files → Q files → X) → X
both_so None p q f = absurd q
both_so (Some files) p q f = f files p q

pub told_valid : (c : Command) (told : Option (List File)) (s : Setup) (status : ℕ)
    → IfSome told (λ files. IsValid c files s) → IsSomeAnd told (λ files. IsRefusedWith status c files) → ⊥
told_valid c told s status v r = both_so told v r (λ files v r. valid_not_refused c files s r.0 r.1 v r.2)

pub told_refused : (c : Command) (told : Option (List File)) (name : List ℕ) (f : Fault)
    → IfSome told (λ files. Judged c files (Refused name f)) → (outside : Bool) → IsSomeAnd told (IsValidSo c outside)
    → ⊥
told_refused c told name f r outside v = both_so told r v (λ files r v. valid_not_refused c files v.0 name f v.1 r)

pub told_codes : (c : Command) (told : Option (List File)) (name : List ℕ) (f : Fault) (status : ℕ)
    → IfSome told (λ files. Judged c files (Refused name f)) → IsSomeAnd told (λ files. IsRefusedWith status c files)
    → fault_code f ≡ status
told_codes c told name f status p r =
    both_so told p r (λ files p r. codes_agree c files name r.0 f r.1 p r.2 ∙ r.3)

-- ---- where the region lies

-- files have one screen
same_side : (c : Command) (files : List File) (s t : Setup) → IsValid c files s → IsValid c files t
    → is_outside_of c s.config ≡ is_outside_of c t.config
same_side (Capture configuration region) files s t v w =
    rw (one_configuration (bytes_of configuration files) s.config t.config v.0.1 w.0.1) refl
same_side NoCommand files s t v w = absurd v
same_side other files s t v w = refl

pub told_side : (c : Command) (told : Option (List File)) (s : Setup) (outside : Bool)
    → IfSome told (λ files. IsValid c files s) → IsSomeAnd told (IsValidSo c outside)
    → is_outside_of c s.config ≡ outside
told_side c told s outside v w = both_so told v w (λ files v w. same_side c files s w.0 v w.1 ∙ w.2)

-- ---- the codes of the ways that a command ends, and what the counts of faults say of them

-- a refusal has one of these codes
abbrev pub is_fault_code : ℕ → Bool
is_fault_code n = list_any (λ s. s == n) (5 ∷ 6 ∷ 8 ∷ 9 ∷ 11 ∷ [])

fault_codes : (f : Fault) → is_fault_code (fault_code f) ≡ true
fault_codes (fault.BadConfig e) = refl
fault_codes other = refl

-- whether an end may have this code
abbrev pub may_be : ℕ → End → Bool
may_be n (ends.Refused f) = is_fault_code n
may_be n (ends.Unfit f) = is_fault_code n
may_be n other = code_of other == n

pub not_code : (e : End) (n : ℕ) → code_of e ≡ n → may_be n e ≡ false → ⊥
not_code (ends.Refused f) n is other = not_both (is_fault_code (fault_code f)) (fault_codes f) (rw (← is) at other)
not_code (ends.Unfit f) n is other = not_both (is_fault_code (fault_code f)) (fault_codes f) (rw (← is) at other)
not_code e n is other = let same = rw (← is) at other in cc

abbrev pub Known : ℕ → Type 0
Known n = IsTrue (list_any (λ s. s == n) (0 ∷ 2 ∷ 3 ∷ 4 ∷ 5 ∷ 6 ∷ 7 ∷ 8 ∷ 9 ∷ 10 ∷ 11 ∷ []))

known_fault : (f : Fault) → Known (fault_code f)
known_fault (fault.BadConfig e) = refl
known_fault other = refl

pub known_code : (e : End) → Known (code_of e)
known_code (ends.Refused f) = known_fault f
known_code (ends.Unfit f) = known_fault f
known_code other = refl

-- ---- the counts

pub reads_by : (old mid : StoreModel) (e : End) → Counts old mid e
    → ((code_of e ≡ 3) × Rose old.read_faults mid.read_faults) ⊎ (mid.read_faults ≡ old.read_faults)
reads_by old mid ends.ReadFault h = inl (refl, h.0)
reads_by old mid other h = inr h.0

pub read_rose : (old mid : StoreModel) (e : End) → Counts old mid e → code_of e ≡ 3
    → Rose old.read_faults mid.read_faults
read_rose old mid ends.ReadFault h c = h.0
read_rose old mid other h c = absurd (not_code other 3 c refl)

pub writes_by : (old mid : StoreModel) (e : End) → Counts old mid e
    → ((code_of e ≡ 4) × Rose old.write_faults mid.write_faults) ⊎ (mid.write_faults ≡ old.write_faults)
writes_by old mid ends.WriteFault h = inl (refl, h.1)
writes_by old mid other h = inr h.1

pub write_rose : (old mid : StoreModel) (e : End) → Counts old mid e → code_of e ≡ 4
    → Rose old.write_faults mid.write_faults
write_rose old mid ends.WriteFault h c = h.1
write_rose old mid other h c = absurd (not_code other 4 c refl)

pub writes_later : (old mid : StoreModel) (e : End) → Counts old mid e → old.write_faults ≤ mid.write_faults
writes_later old mid ends.WriteFault h = h.2
writes_later old mid other h = let same = h.1 in omega arith

-- ---- what follows of a run that was begun, and that an audit begins none and puts nothing

-- what follows of a run
pub with_run : {old : StoreModel} {c : Command} {journal : List Entry} (course : Course old c journal)
    {P Q : IsCommandRun old c journal → Type 0} → WithRun course P
    → ((run : IsCommandRun old c journal) → P run → Q run) → WithRun course Q
with_run (Begun run) h f = f run h
with_run (NotBegun empty) h f = h

-- where no run can be begun none was
pub with_run_not : {old : StoreModel} {c : Command} {journal : List Entry} (course : Course old c journal)
    (P : IsCommandRun old c journal → Type 0) → WithRun course P → (IsCommandRun old c journal → ⊥) → ⊥
with_run_not (Begun run) P h never = never run
with_run_not (NotBegun empty) P h never = h

pub without_run : {old : StoreModel} {c : Command} {journal : List Entry} (course : Course old c journal)
    → WithoutRun course → journal ≡ []
without_run (Begun run) h = absurd h
without_run (NotBegun empty) h = empty

-- ---- an audit

-- an audit makes no files, and runs no setup
pub audit_makes_none : (c : Command) → IsAudit c → made_by c ≡ []
audit_makes_none (Audit configuration journal) is = refl
audit_makes_none other is = absurd is

runs_none : (c : Command) (s : Setup) → IsAudit c → IsSetupOf c s → ⊥
runs_none (Audit configuration journal) s is of = of
runs_none other s is of = is

pub not_run : {old : StoreModel} {c : Command} {journal : List Entry} → IsCommandRun old c journal → IsAudit c → ⊥
not_run {c = c} run is = runs_none c run.setup is run.files_are.of_command

pub empty_course : {old : StoreModel} {c : Command} {journal : List Entry} → IsAudit c → Course old c journal
    → journal ≡ []
empty_course is (Begun run) = absurd (not_run run is)
empty_course is (NotBegun empty) = empty

-- files of which none were put
pub front_none : (front last : List File) → front ++ last ≡ [] → front ≡ []
front_none [] last e = refl
front_none (f ∷ front) last e = absurd cc

pub none_put : (old new : Option (List File)) → PutFiles [] old new → new ≡ old
none_put None new p = p
none_put (Some all) new p = p.1 ∙ ap Some p.2

-- a fact of an audit, or one of a run, by what the command is
pub by_command : {OfAudit OfRun : Type 0} (c : Command) → (OfAudit × IsAudit c) ⊎ (OfRun × (IsAudit c → ⊥))
    → AuditOr c OfAudit OfRun
by_command (Audit configuration journal) (inl a) = a.0
by_command (Audit configuration journal) (inr r) = absurd (r.1 tt)
by_command other (inl a) = absurd a.1
by_command other (inr r) = r.0

-- an audit films no region
pub no_outside_audit : (k : Command) (told : Option (List File)) → IsAudit k → IsSomeAnd told (IsValidSo k true) → ⊥
no_outside_audit (Audit configuration journal) told is v = some_so told v (λ all w. let e = w.2 in cc)
no_outside_audit other told is v = is

-- ---- what the saying of a line leaves, and how the status goes by it

-- all but the text and the count of failed writes is as it was
pub record Leaves (mid new : StoreModel) : Type 0 where
  pub reads : new.read_faults ≡ mid.read_faults
  pub files : new.files ≡ mid.files
  pub asked : new.asked ≡ mid.asked
  pub writes : mid.write_faults ≤ new.write_faults

same_leaves : (mid new : StoreModel) (said : Option (List ℕ)) → new ≡ record mid { said = said } → Leaves mid new
same_leaves mid new said e = rw e (record { reads = refl; files = refl; asked = refl; writes = omega arith })

pub says_leaves : {T : Type 0} (mid : StoreModel) (text : List ℕ) (new : StoreModel) (r : Result T PutError)
    → Says mid text new r → Leaves mid new
says_leaves mid text new (Ok x) h = same_leaves mid new (with_said mid text).said h
says_leaves mid text new (Err put.Failed) h = rw h.3.rest
    (record { reads = refl; files = refl; asked = refl; writes = h.3.later })
says_leaves mid text new (Err put.NoMemory) h = same_leaves mid new (with_said mid h.0).said h.3

-- how the status goes by the code: the line was said, or memory ran out, or the saying failed
abbrev pub Cases : StoreModel → List ℕ → StoreModel → ℕ → ℕ → Type 0
Cases mid text new code status = ((status ≡ code) × ((code ≡ 0) → new ≡ with_said mid text))
    ⊎ ((status ≡ 7) ⊎ ((code ≡ 0) × (status ≡ 4) × Rose mid.write_faults new.write_faults))

pub status_cases : {T : Type 0} (mid : StoreModel) (text : List ℕ) (new : StoreModel) (code : ℕ) (r : Result T PutError)
    → Says mid text new r → Cases mid text new code (status_of code r)
status_cases mid text new code (Ok x) h = inl (refl, λ e. h)
status_cases mid text new code (Err put.NoMemory) h = inr (inl refl)
status_cases mid text new zero (Err put.Failed) h = inr (inr (refl, refl, h.3.rose))
status_cases mid text new (suc n) (Err put.Failed) h =
    inl (ap (λ (b : Bool). cond b 4 (suc n)) (eqb-suc-zero n), λ e. absurd cc)

-- the line was said, or a front of it, where at a code of 4 the count had risen before
pub says_line : {T : Type 0} (old mid new : StoreModel) (text : List ℕ) (code status : ℕ) (r : Result T PutError)
    → mid.said ≡ old.said → old.write_faults ≤ mid.write_faults → (code ≡ 4 → Rose old.write_faults mid.write_faults)
    → status ≡ status_of code r → Says mid text new r → SaysLine old new code status text
says_line old mid new text code status (Ok x) same later rose is h = record {
  front = text;
  back = [];
  parts = sym (append-nil text);
  said = rw (h, same) refl;
  whole = inl (is, refl);
}
says_line old mid new text code status (Err put.Failed) same later rose is h = record {
  front = h.0;
  back = h.1;
  parts = h.2;
  said = rw (h.3.rest, same) refl;
  whole = inr (inr (is, record { between = mid.write_faults; before = later; put = rose; said = h.3.rose }));
}
says_line old mid new text code status (Err put.NoMemory) same later rose is h = record {
  front = h.0;
  back = h.1;
  parts = h.2;
  said = rw (h.3, same) refl;
  whole = inr (inl is);
}
