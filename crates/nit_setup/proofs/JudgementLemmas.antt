-- The files of a command are judged in one way.
use Rattle.nit_setup.proofs.Basics.{AllByRecursion, AreClipScripts, AreOuterFiles, AreSetup, Audit}
use Rattle.nit_setup.proofs.Basics.{Capture, Clip, ClipLine, Command, Configuration, Entry, Fault}
use Rattle.nit_setup.proofs.Basics.{File, FitsClipLine, FitsInputLine, FitsLine, Gen, HasOneReading}
use Rattle.nit_setup.proofs.Basics.{HasVerdict, HaveSamePhases, IsClipScript, IsConfig}
use Rattle.nit_setup.proofs.Basics.{IsConfigFault, IsFaulty, IsFirstClipFault, IsFirstFault}
use Rattle.nit_setup.proofs.Basics.{IsFirstOuterFault, IsGood, IsInputsFault, IsJournalFault}
use Rattle.nit_setup.proofs.Basics.{IsJournalText, IsOuterInputFault, IsOuterSetupFault}
use Rattle.nit_setup.proofs.Basics.{IsPhasedFault, IsScript, IsSetupFault, IsValid, Judged, Line}
use Rattle.nit_setup.proofs.Basics.{MayShowFrames, Nested, NoCommand, Refused, Run, RunFiles, Setup}
use Rattle.nit_setup.proofs.Basics.{SpellScripts, Still, all_at, by_turns, bytes_of, calls_to_make}
use Rattle.nit_setup.proofs.Basics.{client_reading, clip_line_spelling, clip_names, clip_reading}
use Rattle.nit_setup.proofs.Basics.{eq-eqb, fault_code, good_fewer, input_reading, input_spelling}
use Rattle.nit_setup.proofs.Basics.{is_clip_phase, is_input_phase, is_phase, journal_reading}
use Rattle.nit_setup.proofs.Basics.{line_spelling, misfit, nat_tests, none-some, not_both}
use Rattle.nit_setup.proofs.Basics.{one_configuration, one_verdict, option_map, phases, phases_by}
use Rattle.nit_setup.proofs.Basics.{read_and_bad, read_and_long, same_read, script_names}
use Rattle.nit_setup.proofs.Basics.{user_actions_to_do, wanted_by, wrong_client, wrong_clip}
use Rattle.nit_setup.proofs.Basics.{wrong_input, wrong_outer, wrong_phases}
use Rattle.std.proofs.Common.{Bool, List, None, Option, Some, [], ap, arith, inl, inr, map, refl}
use Rattle.std.proofs.Common.{sym, ℕ, ◌++◌, ◌∙◌, ◌∷◌, ◌≡◌, ◌⊎◌}
use Rattle.nit_report.proofs.ForCallers.{read_and_bad as journal_and_bad}
use Rattle.nit_setup.specs.declared.stop.Fault.TheVariants as fault
use Rattle.nit_audit.specs.declared.auditing.Verdict.TheVariants as verdict

-- ---- a configuration

pub config_not_both : (bytes : List ℕ) (config : Configuration) (f : Fault) → IsConfig bytes config
    → IsConfigFault bytes f → ⊥
config_not_both bytes config (fault.BadConfig e) v r = not_both bytes config e v.1 r.1
config_not_both bytes config fault.LongConfig v r = let few = v.0 in absurd (omega arith)
config_not_both bytes config other v r = r

pub config_code : (bytes : List ℕ) (f : Fault) → IsConfigFault bytes f → fault_code f ≡ 5
config_code bytes (fault.BadConfig e) r = refl
config_code bytes fault.LongConfig r = refl
config_code bytes other r = absurd r

-- ---- a script

pub not_faulty : {L : Type 0} {Fits : L → Type 0} {spelling : L → List ℕ} → HasOneReading Fits spelling
    → (wrong : List L → Option Fault) (bytes : List ℕ) (lines : List L) (f : Fault)
    → IsScript Fits spelling bytes lines → wrong lines ≡ None → IsFaulty Fits spelling wrong bytes f → ⊥
not_faulty one wrong bytes lines (fault.BadLine n) v right (inl r) = read_and_bad one bytes lines n v.1 r.1
not_faulty one wrong bytes lines fault.TooLong v right (inl (inl more)) = let few = v.0 in absurd (omega arith)
not_faulty one wrong bytes lines fault.TooLong v right (inl (inr long)) = read_and_long one bytes lines v.1 v.2 long
not_faulty one wrong bytes lines f v right (inr (more, is, w)) =
    none-some f (rw (same_read one bytes more lines is.1 v.1, right) at w)
not_faulty one wrong bytes lines other v right (inl r) = r

faulty_code : {L : Type 0} (Fits : L → Type 0) (spelling : L → List ℕ) (wrong : List L → Option Fault)
    → ((lines : List L) (f : Fault) → wrong lines ≡ Some f → fault_code f ≡ 6) → (bytes : List ℕ) (f : Fault)
    → IsFaulty Fits spelling wrong bytes f → fault_code f ≡ 6
faulty_code Fits spelling wrong code bytes (fault.BadLine n) r = refl
faulty_code Fits spelling wrong code bytes fault.TooLong r = refl
faulty_code Fits spelling wrong code bytes f (inr (lines, is, w)) = code lines f w
faulty_code Fits spelling wrong code bytes other (inl r) = absurd r

phases_code : (wanted : Option ℕ) (count : ℕ) (f : Fault) → wrong_phases wanted count ≡ Some f → fault_code f ≡ 6
phases_code None count f e = absurd (none-some f e)
phases_code (Some n) count f e = grind (arith, nat_tests)

pub phased_code : {L : Type 0} (Fits : L → Type 0) (spelling : L → List ℕ) (ends : L → Bool) (wanted : Option ℕ)
    (bytes : List ℕ) (f : Fault) → IsPhasedFault Fits spelling ends wanted bytes f → fault_code f ≡ 6
phased_code Fits spelling ends wanted =
    faulty_code Fits spelling _ (λ lines. phases_code wanted (phases_by ends lines))

-- ---- the scripts of a configuration

-- the scripts of some names begin those of more names, and the next one is that of the next name
pub spelled_at : (files : List File) (before : List (List ℕ)) (name : List ℕ) (behind : List (List ℕ))
    (all some : List (List Line)) → SpellScripts files (before ++ name ∷ behind) all → SpellScripts files before some
    → (lines : List Line) × (more : List (List Line)) × (all ≡ some ++ lines ∷ more)
    × IsScript FitsLine line_spelling (bytes_of name files) lines
spelled_at files [] name behind (lines ∷ more) [] v w = (lines, more, refl, v.0)
spelled_at files (b ∷ before) name behind (lines ∷ all) (x ∷ some) v w =
    let same : lines ≡ x = same_read client_reading (bytes_of b files) lines x v.0.1 w.0.1 in
    let rest = spelled_at files before name behind all some v.1 w.1 in
    (rest.0, rest.1, cc (same, rest.2), rest.3)
spelled_at files before name behind all some v w = absurd (assumption (v, w))

pub same_scripts : (files : List File) (names : List (List ℕ)) (a b : List (List Line)) → SpellScripts files names a
    → SpellScripts files names b → a ≡ b
same_scripts files [] [] [] v w = refl
same_scripts files (n ∷ names) (x ∷ a) (y ∷ b) v w =
    cc (same_read client_reading (bytes_of n files) x y v.0.1 w.0.1, same_scripts files names a b v.1 w.1)
same_scripts files names a b v w = absurd (assumption (v, w))

-- a script among those with the same phases is right behind those before it
right_at : (some : List (List Line)) (lines : List Line) (more : List (List Line))
    → HaveSamePhases (some ++ lines ∷ more) → wrong_client (wanted_by some) lines ≡ None
right_at [] lines more same = refl
right_at (first ∷ rest) lines more same =
    rw (eq-eqb (phases lines) (phases first) (all_at (λ ls. phases ls ≡ phases first) rest lines more same)) refl

-- scripts that are right hold none that is wrong behind the first of them
pub first_not : (Right : List (List Line) → Type 0) (wrong : List (List Line) → List Line → Option Fault)
    → ((some : List (List Line)) (lines : List Line) (more : List (List Line)) → Right (some ++ lines ∷ more)
    → wrong some lines ≡ None)
    → (files : List File) (before : List (List ℕ)) (name : List ℕ) (behind : List (List ℕ))
    (all some : List (List Line)) (f : Fault)
    → SpellScripts files (before ++ name ∷ behind) all → Right all → SpellScripts files before some
    → IsFaulty FitsLine line_spelling (wrong some) (bytes_of name files) f → ⊥
first_not Right wrong right_here files before name behind all some f spelled right front r =
    let here = spelled_at files before name behind all some spelled front in
    not_faulty client_reading (wrong some) (bytes_of name files) here.0 f here.3
    (right_here some here.0 here.1 (rw here.2 at right)) r

-- ---- a setup

-- files that make a setup have no fault
pub setup_not_refused : (configuration : List ℕ) (files : List File) (s : Setup) (name : List ℕ) (f : Fault)
    → AreSetup configuration files s → IsSetupFault configuration files name f → ⊥
setup_not_refused configuration files s name f v (inl r) =
    config_not_both (bytes_of configuration files) s.config f v.0 r.1
setup_not_refused configuration files s name f v (inr (config, is, r)) =
    elim (rw (one_configuration (bytes_of configuration files) config s.config is.1 v.0.1) at r) [
      | inl a ↦ first_not HaveSamePhases (λ some. wrong_client (wanted_by some)) right_at files a.before name a.behind
          s.scripts a.scripts f (rw a.parts at v.1.scripts.0) v.1.scripts.1 a.valid.0 a.fault
      | inr r ↦
          let same = same_scripts files (script_names s.config) r.scripts s.scripts r.valid.0 v.1.scripts.0 in
          not_faulty input_reading (wrong_input (wanted_by s.scripts)) (bytes_of s.config.input files) s.input f
          v.1.input.0 v.1.input.1 (rw (same, r.name_is) at r.fault)
    ]

-- files make one setup
abbrev pub IsSameSetup : Setup → Setup → Type 0
IsSameSetup s t = (s.config ≡ t.config) × (s.scripts ≡ t.scripts) × (s.input ≡ t.input)

pub one_setup : (configuration : List ℕ) (files : List File) (s t : Setup) → AreSetup configuration files s
    → AreSetup configuration files t → IsSameSetup s t
one_setup configuration files s t v w =
    let config = one_configuration (bytes_of configuration files) s.config t.config v.0.1 w.0.1 in
    let there = rw (← config) at w.1.scripts.0 in
    let other = rw (← config) at w.1.input.0 in (
      config,
      same_scripts files (script_names s.config) s.scripts t.scripts v.1.scripts.0 there,
      same_read input_reading (bytes_of s.config.input files) s.input t.input v.1.input.0.1 other.1,
    )

-- ---- the status of a refusal

-- two refusals of these have the same status
abbrev pub Agree : (List ℕ → Fault → Type 0) → Type 0
Agree Refuses = (m n : List ℕ) (f g : Fault) → Refuses m f → Refuses n g → fault_code f ≡ fault_code g

-- they have this one
pub one_code : {Refuses : List ℕ → Fault → Type 0} (code : ℕ)
    → ((n : List ℕ) (f : Fault) → Refuses n f → fault_code f ≡ code) → Agree Refuses
one_code code is m n f g p q = is m f p ∙ sym (is n g q)

-- they are of two kinds, which are not there together
pub agree_either : {One Other : List ℕ → Fault → Type 0} → Agree One
    → ((m n : List ℕ) (f g : Fault) → One m f → Other n g → ⊥) → Agree Other → Agree (λ n f. One n f ⊎ Other n f)
agree_either one apart other m n f g (inl p) (inl q) = one m n f g p q
agree_either one apart other m n f g (inl p) (inr q) = absurd (apart m n f g p q)
agree_either one apart other m n f g (inr p) (inl q) = absurd (apart n m g f q p)
agree_either one apart other m n f g (inr p) (inr q) = other m n f g p q

script_code : (files : List File) (config : Configuration) (name : List ℕ) (f : Fault)
    → IsFirstFault files (script_names config) name f ⊎ IsInputsFault files config name f → fault_code f ≡ 6
script_code files config name f (inl r) =
    phased_code FitsLine line_spelling is_phase (wanted_by r.scripts) (bytes_of name files) f r.fault
script_code files config name f (inr r) =
    phased_code FitsInputLine input_spelling is_input_phase (wanted_by r.scripts) (bytes_of name files) f r.fault

pub setup_codes : (configuration : List ℕ) (files : List File) → Agree (IsSetupFault configuration files)
setup_codes configuration files =
    agree_either (one_code 5 (λ n f p. config_code (bytes_of configuration files) f p.1))
    (λ m n f g p q. config_not_both (bytes_of configuration files) q.0 f q.1 p.1)
    (one_code 6 (λ n f p. script_code files p.0 n f p.2))

-- The files of two configurations are judged in one way, and so is whether they fit together.

-- ---- the outer files

outer_right_at : (some : List (List Line)) (lines : List Line) (more : List (List Line))
    → MayShowFrames (some ++ lines ∷ more) → wrong_outer some lines ≡ None
outer_right_at [] lines more may = ap (option_map fault.BadLine) may
outer_right_at (first ∷ rest) lines more may = refl

-- outer files that are valid have no fault
outer_not_refused : (outer : List ℕ) (files : List File) (o : RunFiles) (name : List ℕ) (f : Fault)
    → AreOuterFiles outer files o → IsOuterSetupFault outer files name f → ⊥
outer_not_refused outer files o name f v (inl r) = config_not_both (bytes_of outer files) o.config f v.config r.1
outer_not_refused outer files o name f v (inr (config, is, r)) =
    elim (rw (one_configuration (bytes_of outer files) config o.config is.1 v.config.1) at r) [
      | inl a ↦ first_not MayShowFrames wrong_outer outer_right_at files a.before name a.behind o.scripts a.scripts f
          (rw a.parts at v.scripts.0) v.scripts.1 a.valid.0 a.fault
      | inr inputs ↦ not_faulty input_reading (wrong_input None) (bytes_of o.config.input files) o.input f v.input.0
          refl (rw inputs.name_is at inputs.fault)
    ]

-- and they are one
one_outer : (outer : List ℕ) (files : List File) (o p : RunFiles) → AreOuterFiles outer files o
    → AreOuterFiles outer files p → o ≡ p
one_outer outer files o p v w =
    let config = one_configuration (bytes_of outer files) o.config p.config v.config.1 w.config.1 in
    let there = rw (← config) at w.scripts.0 in
    let other = rw (← config) at w.input.0 in
    let scripts = same_scripts files (script_names o.config) o.scripts p.scripts v.scripts.0 there in
    let input = same_read input_reading (bytes_of o.config.input files) o.input p.input v.input.0.1 other.1 in
    λ i. record { config = config i; scripts = scripts i; input = input i }

outer_wrong_code : (before : List (List Line)) (lines : List Line) (f : Fault) → wrong_outer before lines ≡ Some f
    → fault_code f ≡ 6
outer_wrong_code [] lines f e = grind (arith, nat_tests)
outer_wrong_code (first ∷ rest) lines f e = absurd (none-some f e)

outer_script_code : (files : List File) (config : Configuration) (name : List ℕ) (f : Fault)
    → IsFirstOuterFault files (script_names config) name f ⊎ IsOuterInputFault files config name f → fault_code f ≡ 6
outer_script_code files config name f (inl r) =
    faulty_code FitsLine line_spelling _ (outer_wrong_code r.scripts) (bytes_of name files) f r.fault
outer_script_code files config name f (inr r) =
    phased_code FitsInputLine input_spelling is_input_phase None (bytes_of name files) f r.fault

outer_codes : (outer : List ℕ) (files : List File) → Agree (IsOuterSetupFault outer files)
outer_codes outer files =
    agree_either (one_code 5 (λ n f p. config_code (bytes_of outer files) f p.1))
    (λ m n f g p q. config_not_both (bytes_of outer files) q.0 f q.1 p.1)
    (one_code 6 (λ n f p. outer_script_code files p.0 n f p.2))

-- ---- both

one_inner : (inner : List ℕ) (files : List File) (i j : RunFiles) → AreSetup inner files (by_turns i)
    → AreSetup inner files (by_turns j) → i ≡ j
one_inner inner files i j v w =
    let same = one_setup inner files (by_turns i) (by_turns j) v w in
    λ k. record { config = same.0 k; scripts = same.1 k; input = same.2 k }

-- the status of what does not fit
abbrev code_in : Option (List ℕ × Fault) → ℕ
code_in None = 0
code_in (Some p) = fault_code p.1

inner_codes : (inner : List ℕ) (files : List File) (o : RunFiles) → Agree (λ n f. IsSetupFault inner files n f
    ⊎ ((i : RunFiles) × AreSetup inner files (by_turns i) × (misfit inner o i ≡ Some (n, f))))
inner_codes inner files o =
    agree_either (setup_codes inner files)
    (λ m n f g p q. setup_not_refused inner files (by_turns q.0) m f q.1 p)
    (λ m n f g p q. ap code_in (sym p.2 ∙ ap (misfit inner o) (one_inner inner files p.0 q.0 p.1 q.1) ∙ q.2))

-- ---- a journal

-- a journal on which the verdict is yes has no fault
journal_not_refused : (s t : Setup) (bytes : List ℕ) (f : Fault) → IsSameSetup s t → HasVerdict s bytes verdict.Yes
    → IsJournalFault t bytes f → ⊥
journal_not_refused s t bytes (fault.NotARun k) (config, scripts, input) (entries, text, yes_) (more, is, no_) =
    cc (one_verdict (IsGood s.config s.scripts s.input)
    (good_fewer s.config (map calls_to_make s.scripts) (user_actions_to_do s.input)) entries verdict.Yes (verdict.No k)
    yes_ (rw (config, scripts, input, same_read journal_reading bytes entries more text.1 is.1) no_))
journal_not_refused s t bytes (fault.BadEntry line) same (entries, text, yes_) r =
    journal_and_bad bytes entries line text.1 r.1
journal_not_refused s t bytes fault.LongJournal same (entries, text, yes_) r = let few = text.0 in absurd (omega arith)
journal_not_refused s t bytes other same v r = r

-- a journal's fault is one of its text, which then spells no journal, or one of the journal that it spells
journal_code : (s : Setup) (bytes : List ℕ) (f : Fault) → IsJournalFault s bytes f
    → ((fault_code f ≡ 8) × ((entries : List Entry) → IsJournalText bytes entries → ⊥))
    ⊎ ((fault_code f ≡ 9) × ((entries : List Entry) × IsJournalText bytes entries))
journal_code s bytes (fault.NotARun k) r = inr (refl, (r.0, r.1))
journal_code s bytes (fault.BadEntry line) r = inl (refl, λ entries text. journal_and_bad bytes entries line text.1 r.1)
journal_code s bytes fault.LongJournal r = inl (refl, λ entries text. let few = text.0 in absurd (omega arith))
journal_code s bytes other r = absurd r

journal_codes : (s t : Setup) (bytes : List ℕ) (f g : Fault) → IsJournalFault s bytes f → IsJournalFault t bytes g
    → fault_code f ≡ fault_code g
journal_codes s t bytes f g p q = elim (journal_code s bytes f p) [
  | inl a ↦ elim (journal_code t bytes g q) [ inl b ↦ a.0 ∙ sym b.0 | inr b ↦ absurd (a.1 b.1.0 b.1.1) ]
  | inr a ↦ elim (journal_code t bytes g q) [ inl b ↦ absurd (b.1 a.1.0 a.1.1) | inr b ↦ a.0 ∙ sym b.0 ]
]

-- ---- clip scripts

-- one of the clip scripts of more names is that of this name
clip_at : (files : List File) (wanted : Option ℕ) (before : List (List ℕ)) (name : List ℕ) (behind : List (List ℕ))
    (clips : List (List ClipLine)) → AreClipScripts files wanted (before ++ name ∷ behind) clips
    → (lines : List ClipLine) × IsClipScript wanted (bytes_of name files) lines
clip_at files wanted [] name behind (lines ∷ clips) v = (lines, v.0)
clip_at files wanted (b ∷ before) name behind (lines ∷ clips) v = clip_at files wanted before name behind clips v.1
clip_at files wanted before name behind clips v = absurd v

-- ---- the files of a command

-- files that make a command valid are not refused
pub valid_not_refused : (c : Command) (files : List File) (s : Setup) (name : List ℕ) (f : Fault) → IsValid c files s
    → Judged c files (Refused name f) → ⊥
valid_not_refused (Still width height script) files s name f v r =
    not_faulty client_reading (wrong_client None) (bytes_of script files) v.0 f v.1.0 v.1.1 r.1
valid_not_refused (Run beside configuration) files s name f v r =
    setup_not_refused configuration files s name f (v.0, v.1) r
valid_not_refused (Gen number) files s name f v r = r
valid_not_refused (Audit configuration journal) files s name f v (inl r) =
    setup_not_refused configuration files s name f v.0 r
valid_not_refused (Audit configuration journal) files s name f v (inr (is, (t, are, r))) =
    journal_not_refused s t (bytes_of journal files) f (one_setup configuration files s t v.0 are) v.1 r
valid_not_refused (Clip configuration) files s name f v (inl r) = setup_not_refused configuration files s name f v.0 r
valid_not_refused (Clip configuration) files s name f v (inr (t, are, r)) =
    let same = one_setup configuration files t s are v.0 in
    let a : IsFirstClipFault files (wanted_by s.scripts) (clip_names s.config) name f = rw (same.0, same.1) at r in
    let here = clip_at files (wanted_by s.scripts) a.before name a.behind s.clips (rw a.parts at v.4) in
    not_faulty clip_reading (wrong_clip (wanted_by s.scripts)) (bytes_of name files) here.0 f here.1.0 here.1.1 a.fault
valid_not_refused (Capture configuration region) files s name f v r =
    setup_not_refused configuration files s name f (v.0, v.1) r
valid_not_refused (Nested outer inner) files s name f (o, i, vo, vi, fits, is) (inl r) =
    outer_not_refused outer files o name f vo r
valid_not_refused (Nested outer inner) files s name f (o, i, vo, vi, fits, is) (inr (p, vp, inl r)) =
    setup_not_refused inner files (by_turns i) name f vi r
valid_not_refused (Nested outer inner) files s name f (o, i, vo, vi, fits, is) (inr (p, vp, inr (j, vj, unfit))) =
    none-some (name, f) (rw (one_outer outer files p o vp vo, one_inner inner files j i vj vi, fits) at unfit)
valid_not_refused NoCommand files s name f v r = v

-- two refusals of the same files have the same status
pub codes_agree : (c : Command) (files : List File) (m n : List ℕ) (f g : Fault) → Judged c files (Refused m f)
    → Judged c files (Refused n g) → fault_code f ≡ fault_code g
codes_agree (Still width height script) files = one_code 6
    (λ n f p. phased_code FitsLine line_spelling is_phase None (bytes_of script files) f p.1)
codes_agree (Run beside configuration) files = setup_codes configuration files
codes_agree (Audit configuration journal) files =
    agree_either (setup_codes configuration files)
    (λ m n f g p q. setup_not_refused configuration files q.1.0 m f q.1.1 p)
    (λ m n f g p q. journal_codes p.1.0 q.1.0 (bytes_of journal files) f g p.1.2 q.1.2)
codes_agree (Clip configuration) files =
    agree_either (setup_codes configuration files)
    (λ m n f g p q. setup_not_refused configuration files q.0 m f q.1 p)
    (one_code 6 (λ n f p. phased_code FitsClipLine clip_line_spelling is_clip_phase (wanted_by p.0.scripts)
    (bytes_of n files) f p.2.fault))
codes_agree (Capture configuration region) files = setup_codes configuration files
codes_agree (Nested outer inner) files =
    agree_either (outer_codes outer files)
    (λ m n f g p q. outer_not_refused outer files q.0 m f q.1 p)
    (λ m n f g p q. inner_codes inner files p.0 m n f g p.2 (rw (one_outer outer files q.0 p.0 q.1 p.1) at q.2))
codes_agree other files = λ m n f g p q. absurd p
