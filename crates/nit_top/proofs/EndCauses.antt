-- How the work came to its end is why.
use Rattle.std.proofs.Common.{◌≡◌, ℕ, true, List, Option, refl, sym, ap, subst, ◌∙◌, inl, inr, ◌⊎◌}
use Rattle.std.proofs.Common.{Some, false, [], ◌∷◌, ◌++◌}
use Rattle.nit_top.proofs.Basics.{AllFiles, AllScripts, AreAllFiles, AreAudited, Audit, BothFiles}
use Rattle.nit_top.proofs.Basics.{Came, Capture, Command, Course, End, Entry, Fault, File}
use Rattle.nit_top.proofs.Basics.{FilesRead, Gen, HasRead, HasValidFiles, IfSome, IfSome_then}
use Rattle.nit_top.proofs.Basics.{IsAudit, IsAudited, IsBothRead, IsCommandRun, IsEarly, IsLastRead}
use Rattle.nit_top.proofs.Basics.{IsMadeBefore, IsNotBegun, IsOutside, IsPutWhole, IsRefusedAt}
use Rattle.nit_top.proofs.Basics.{IsRefusedWith, IsSetupOf, IsSomeAnd, IsValid, IsValidSo, Judged}
use Rattle.nit_top.proofs.Basics.{Nested, NoCommand, NoFile, Refused, RunFiles, Setup, StoreModel}
use Rattle.nit_top.proofs.Basics.{WithRun, asked_also, audited_line, code_of, command}
use Rattle.nit_top.proofs.Basics.{is_outside_of, made_by, names_read, next_name, not_both, reads}
use Rattle.nit_top.proofs.Basics.{summary_line, totals}
use Rattle.nit_top.proofs.CauseLemmas.{audit_makes_none, front_none, is_fault_code}
use Rattle.nit_top.proofs.CauseLemmas.{no_outside_audit, none_put, not_code, not_run, some_so}
use Rattle.nit_top.proofs.CauseLemmas.{told_codes, told_refused, told_side, told_valid, with_run}
use Rattle.nit_top.proofs.CauseLemmas.{with_run_not}
use Rattle.nit_top.proofs.StoredFiles.{SoFar}
use Rattle.nit_setup.specs.declared.stop.End.TheVariants as ends

-- ---- what came, by its code

module _ (words : List (List ℕ)) (old new : StoreModel) (journal : List Entry)
    (course : Course old (command words) journal) where
  abbrev c : Command
  c = command words

  abbrev files : Option (List File)
  files = new.files

  abbrev asked : Option (List (List ℕ))
  asked = new.asked

  not_begun : (name : List ℕ) → IsLastRead course files asked name → IsNotBegun course files asked
  not_begun name l = record {
    none = l.none;
    same = l.same;
    read = l.read;
    valid = l.valid;
    asks = inr (name, l.next, l.asks);
  }

  both_begun : IsBothRead course files asked → IsNotBegun course files asked
  both_begun b = record { none = b.none; same = b.same; read = BothFiles b.o b.i; valid = b.valid; asks = inl b.asks }

  outside_begun : IsOutside course files asked → IsNotBegun course files asked
  outside_begun o = record { none = o.none; same = o.same; read = AllFiles o.setup; valid = o.valid; asks = inl o.asks }

  -- an audit asked for all names, and its journal was the last
  audit_begun : (count : ℕ) → IsAudited course files asked count → IsNotBegun course files asked
  audit_begun count a = let far =
      at c a.audit a.told a.asks in record {
        none = a.none;
        same = a.same;
        read = AllScripts a.setup;
        valid = far.0;
        asks = inr (far.1.0, far.1.1, far.1.2);
      }
    where
      at : (k : Command) → IsAudit k → IfSome old.files (λ all. AreAudited k all a.setup a.entries)
          → asked ≡ asked_also old.asked (reads k a.setup)
          → HasRead k old.files (AllScripts a.setup)
          × ((name : List ℕ) × (next_name k (AllScripts a.setup) ≡ Some name)
          × (asked ≡ asked_also old.asked (names_read k (AllScripts a.setup) ++ name ∷ [])))
      at (Audit configuration journal) is told asks = (
        record {
          runnable = a.runnable;
          valid =
              IfSome_then old.files told (λ all p. p.0);
        },
        (journal, refl, asks),
      )
      at other is told asks = absurd is

  pub usage_at : (e : End) (line : List ℕ) → Came course files asked e line → code_of e ≡ 2 → c ≡ NoCommand
  usage_at ends.Usage line h n = h.0
  usage_at other line h n = absurd (not_code other 2 n refl)

  pub refused_at : (n : ℕ) (e : End) (line : List ℕ) → Came course files asked e line → code_of e ≡ n
      → is_fault_code n ≡ true → IfSome old.files (λ told. IsRefusedWith n c told)
  refused_at n (ends.Refused f) line h is some = IfSome_then old.files h.2 (λ told p. (h.0, f, p, is))
  refused_at n (ends.Unfit f) line h is some = IfSome_then old.files h.2 (λ told p. (h.0, f, p, is))
  refused_at n e line h is some = absurd (let other = rw (← is) at some in cc)

  -- all was done: a run put all that it puts, or an audit said yes
  abbrev pub AllDone : List ℕ → Type 0
  AllDone line = ((count : ℕ) × IsAudited course files asked count × (line ≡ audited_line count))
      ⊎ WithRun course (λ run. IsPutWhole run files asked × (line ≡ summary_line (totals run)))

  pub whole_at : (e : End) (line : List ℕ) → Came course files asked e line → code_of e ≡ 0 → AllDone line
  whole_at ends.Whole line h n = inr h
  whole_at (ends.Audited count) line h n = inl (count, h.0, h.1)
  whole_at other line h n = absurd (not_code other 0 n refl)

  pub before_at : (e : End) (line : List ℕ) → Came course files asked e line → code_of e ≡ 4
      → (name : List ℕ) × (IsMadeBefore course files asked name
      ⊎ WithRun course (λ run. IsRefusedAt run files asked name))
  before_at ends.WriteFault line h n = (h.0, h.1)
  before_at other line h n = absurd (not_code other 4 n refl)

  pub early_at : (e : End) (line : List ℕ) → Came course files asked e line → IsEarly (code_of e)
      → IsNotBegun course files asked
  early_at ends.Usage line h early = h.1
  early_at ends.ReadFault line h early = not_begun h.0 h.1
  early_at (ends.Refused f) line h early = not_begun h.0 h.1
  early_at (ends.Unfit f) line h early = both_begun h.1
  early_at ends.Outside line h early = outside_begun h.0
  early_at other line h early = absurd cc

  -- how far a run came, whatever the end
  pub so_far : (e : End) (line : List ℕ) → Came course files asked e line → SoFar course files asked
  so_far ends.Usage line h = inl h.1
  so_far (ends.Unfit f) line h = inl (both_begun h.1)
  so_far ends.WriteFault line h = elim h.1 [
    | inl made ↦ inr (inl (inl (h.0, made)))
    | inr x ↦ inr (inr (with_run course x (λ run r. inr (h.0, inl r))))
  ]
  so_far ends.NoMemory line h = elim h.0 [
    | inl x ↦ inl x
    | inr (inl made) ↦ inr (inl made)
    | inr (inr x) ↦ inr (inr (with_run course x (λ run r. inr r)))
  ]
  so_far ends.Outside line h = inl (outside_begun h.0)
  so_far (ends.Audited count) line h = inl (audit_begun count h.0)
  so_far ends.Whole line h = inr (inr (with_run course h (λ run r. inl r.0)))
  so_far other line h = inl (not_begun h.0 h.1)

  -- ---- where the words are no command

  -- the command reads no file
  abbrev ReadsNone : Command → Type 0
  ReadsNone (Gen number) = Unit {0}
  ReadsNone NoCommand = Unit {0}
  ReadsNone other = ⊥

  none_next : (k : Command) → ReadsNone k → (read : FilesRead) (name : List ℕ) → HasRead k old.files read
      → next_name k read ≡ Some name → ⊥
  none_next NoCommand none NoFile name h e = cc
  none_next NoCommand none (AllFiles s) name h e = cc
  none_next NoCommand none other name h e = h
  none_next (Gen number) none NoFile name h e = cc
  none_next (Gen number) none (AllFiles s) name h e = cc
  none_next (Gen number) none other name h e = h
  none_next other none read name h e = none

  nothing_both : c ≡ NoCommand → IsBothRead course files asked → ⊥
  nothing_both is b = rw is at b.valid

  no_run : c ≡ NoCommand → IsCommandRun old c journal → ⊥
  no_run is run = rw is at run.files_are.of_command

  -- a file that is made before a run is one of a generated run
  made_none : (name : List ℕ) → made_by c ≡ [] → IsMadeBefore course files asked name → ⊥
  made_none name none (bytes, behind, m) =
      let parts = sym m.parts ∙ none in
      let last = rw (front_none m.front ((name, bytes) ∷ behind) parts) at parts in cc

  -- where the command makes no files, and no run of it is begun, no put is refused
  pub no_put : made_by c ≡ [] → (IsCommandRun old c journal → ⊥) → (Holds : IsCommandRun old c journal → Type 0)
      → (name : List ℕ) → IsMadeBefore course files asked name ⊎ WithRun course Holds → ⊥
  no_put none never Holds name (inl made) = made_none name none made
  no_put none never Holds name (inr run) = with_run_not course Holds run never

  pub no_command : (e : End) (line : List ℕ) → c ≡ NoCommand → Came course files asked e line → (code_of e ≡ 2)
      ⊎ (code_of e ≡ 7)
  no_command ends.Usage line is h = inl refl
  no_command (ends.Unfit f) line is h = absurd (nothing_both is h.1)
  no_command ends.WriteFault line is h = absurd (no_put (ap made_by is) (no_run is) _ h.0 h.1)
  no_command ends.NoMemory line is h = inr refl
  no_command ends.Outside line is h = absurd (subst (λ (k : Command). IsSetupOf k h.0.setup) is h.0.valid.of_command)
  no_command ends.Whole line is h = absurd (with_run_not course _ h (no_run is))
  no_command (ends.Audited count) line is h = absurd (subst IsAudit is h.0.audit)
  no_command other line is h = absurd (none_next c (subst ReadsNone (sym is) tt) h.1.read h.0 h.1.valid h.1.next)

  -- ---- where the files are refused, or valid

  no_valid_run : (n : ℕ) → IsSomeAnd old.files (λ told. IsRefusedWith n c told) → IsCommandRun old c journal → ⊥
  no_valid_run n r run = told_valid c old.files run.setup n run.files_are.valid r

  -- no file of a command that makes some is refused
  made_not_refused : (k : Command) (n : ℕ) → IsSomeAnd old.files (λ told. IsRefusedWith n k told) → made_by k ≡ []
  made_not_refused (Gen number) n r = absurd (some_so old.files r (λ files p. p.2))
  made_not_refused other n r = refl

  -- the files of an audit that said yes are valid
  audit_valid : (count : ℕ) → (a : IsAudited course files asked count) → IfSome old.files (λ all. IsValid c all a.setup)
  audit_valid count a = IfSome_then old.files a.told (at c)
    where
      at : (k : Command) (all : List File) → AreAudited k all a.setup a.entries → IsValid k all a.setup
      at (Audit configuration journal) all p = (p.0, (a.entries, p.1, a.of_a_run.yes))
      at other all p = absurd p

  pub is_refused_at : (n : ℕ) (e : End) (line : List ℕ) → Came course files asked e line
      → IsSomeAnd old.files (λ told. IsRefusedWith n c told) → (code_of e ≡ 3) ⊎ ((code_of e ≡ n) ⊎ (code_of e ≡ 7))
  is_refused_at n ends.Usage line h r =
      absurd (some_so old.files r (λ files p. rw h.0 at p.2))
  is_refused_at n ends.ReadFault line h r = inl refl
  is_refused_at n (ends.Refused f) line h r = inr (inl (told_codes c old.files h.0 f n h.2 r))
  is_refused_at n (ends.Unfit f) line h r = inr (inl (told_codes c old.files h.0 f n h.2 r))
  is_refused_at n ends.WriteFault line h r =
      absurd (no_put (made_not_refused c n r) (no_valid_run n r) _ h.0 h.1)
  is_refused_at n ends.NoMemory line h r = inr (inr refl)
  is_refused_at n ends.Outside line h r = absurd (told_valid c old.files h.0.setup n h.0.valid.valid r)
  is_refused_at n ends.Whole line h r = absurd (with_run_not course _ h (no_valid_run n r))
  is_refused_at n (ends.Audited count) line h r = absurd (told_valid c old.files h.0.setup n (audit_valid count h.0) r)

  -- valid files are not refused
  valid_kept : (k : Command) (name : List ℕ) (f : Fault) → HasValidFiles k old.files
      → IfSome old.files (λ told. Judged k told (Refused name f)) → (read : FilesRead) → HasRead k old.files read
      → next_name k read ≡ Some name → ⊥
  valid_kept (Gen number) name f v r read h next = none_next (Gen number) tt read name h next
  valid_kept other name f v r read h next = told_refused other old.files name f r false v

  -- nor are those of two configurations
  both_kept : (k : Command) (name : List ℕ) (f : Fault) → HasValidFiles k old.files
      → IfSome old.files (λ told. Judged k told (Refused name f)) → (o i : RunFiles)
      → HasRead k old.files (BothFiles o i) → ⊥
  both_kept (Nested outer inner) name f v r o i h = told_refused (Nested outer inner) old.files name f r false v
  both_kept other name f v r o i h = h

  -- where all is valid, and the region lies on the screen, it does not lie outside
  outside_not : (k : Command) (s : Setup) → HasValidFiles k old.files → AreAllFiles k old.files s
      → is_outside_of k s.config ≡ true → ⊥
  outside_not (Audit configuration journal) s v all out = absurd all.of_command
  outside_not (Capture configuration region) s v all out =
      not_both (is_outside_of (Capture configuration region) s.config) out
      (told_side (Capture configuration region) old.files s false all.valid v)
  outside_not NoCommand s v all out = absurd all.of_command
  outside_not other s v all out = not_both (is_outside_of other s.config) out refl

  -- a run was begun only where the region lies on the screen
  no_outside_run : IsSomeAnd old.files (IsValidSo c true) → IsCommandRun old c journal → ⊥
  no_outside_run v run = not_both (is_outside_of c run.setup.config)
      (told_side c old.files run.setup true run.files_are.valid v) run.inside

  -- no file of a command that makes some is read, and no region lies outside
  made_not_outside : (k : Command) → IsSomeAnd old.files (IsValidSo k true) → made_by k ≡ []
  made_not_outside (Gen number) v = absurd (some_so old.files v (λ files w. let e = w.2 in cc))
  made_not_outside other v = refl

  pub outside_at : (e : End) (line : List ℕ) → Came course files asked e line → code_of e ≡ 10
      → IfSome old.files (IsValidSo c true)
  outside_at ends.Outside line h n = IfSome_then old.files h.0.valid.valid (λ all v. (h.0.setup, v, h.0.outside))
  outside_at other line h n = absurd (not_code other 10 n refl)

  pub is_outside_at : (e : End) (line : List ℕ) → Came course files asked e line
      → IsSomeAnd old.files (IsValidSo c true) → (code_of e ≡ 3) ⊎ ((code_of e ≡ 10) ⊎ (code_of e ≡ 7))
  is_outside_at ends.Usage line h v =
      absurd (some_so old.files v (λ files p. rw h.0 at p.1))
  is_outside_at ends.ReadFault line h v = inl refl
  is_outside_at (ends.Refused f) line h v = absurd (told_refused c old.files h.0 f h.2 true v)
  is_outside_at (ends.Unfit f) line h v = absurd (told_refused c old.files h.0 f h.2 true v)
  is_outside_at ends.WriteFault line h v = absurd (no_put (made_not_outside c v) (no_outside_run v) _ h.0 h.1)
  is_outside_at ends.NoMemory line h v = inr (inr refl)
  is_outside_at ends.Outside line h v = inr (inl refl)
  is_outside_at ends.Whole line h v = absurd (with_run_not course _ h (no_outside_run v))
  is_outside_at (ends.Audited count) line h v = absurd (no_outside_audit c old.files h.0.audit v)

  pub is_valid_at : (e : End) (line : List ℕ) → Came course files asked e line → HasValidFiles c old.files
      → (code_of e ≡ 3) ⊎ ((code_of e ≡ 4) ⊎ ((code_of e ≡ 0) ⊎ (code_of e ≡ 7)))
  is_valid_at ends.Usage line h v =
      absurd (some_so old.files (rw h.0 at v) (λ files p. p.1))
  is_valid_at ends.ReadFault line h v = inl refl
  is_valid_at (ends.Refused f) line h v = absurd (valid_kept c h.0 f v h.2 h.1.read h.1.valid h.1.next)
  is_valid_at (ends.Unfit f) line h v = absurd (both_kept c h.0 f v h.2 h.1.o h.1.i h.1.valid)
  is_valid_at ends.WriteFault line h v = inr (inl refl)
  is_valid_at ends.NoMemory line h v = inr (inr (inr refl))
  is_valid_at ends.Outside line h v = absurd (outside_not c h.0.setup v h.0.valid h.0.outside)
  is_valid_at other line h v = inr (inr (inl refl))

  -- ---- an audit

  -- an audit begins no run
  pub no_audit_run : (Holds : IsCommandRun old c journal → Type 0) → IsAudit c → WithRun course Holds → ⊥
  no_audit_run Holds is h = with_run_not course Holds h (λ run. not_run run is)

  -- it leaves the files
  pub audit_same : IsAudit c → (e : End) (line : List ℕ) → Came course files asked e line → files ≡ old.files
  audit_same is ends.WriteFault line h =
      absurd (no_put (audit_makes_none c is) (λ run. not_run run is) _ h.0 h.1)
  audit_same is ends.NoMemory line h = elim h.0 [
    | inl b ↦ b.same
    | inr (inl (inl m)) ↦ absurd (made_none m.0 (audit_makes_none c is) m.1)
    | inr (inl (inr m)) ↦ none_put old.files files
        (rw (front_none m.1.front m.0 (sym m.1.parts ∙ audit_makes_none c is)) at m.1.put)
    | inr (inr x) ↦ absurd (no_audit_run _ is x)
  ]
  audit_same is ends.Outside line h = h.0.same
  audit_same is ends.Whole line h = absurd (no_audit_run _ is h)
  audit_same is (ends.Audited count) line h = h.0.same
  audit_same is other line h = h.1.same
