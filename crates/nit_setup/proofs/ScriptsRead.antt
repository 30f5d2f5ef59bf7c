-- Scripts read and judged one after the other, the clients', their clip scripts and outer ones; where reading stops.
use Rattle.nit_setup.proofs.Basics.{AllByRecursion, AllZip, AreClipsRead, AreLines, ClipLine}
use Rattle.nit_setup.proofs.Basics.{Command, Configuration, End, Fault, File, FilesRead, FitsLine}
use Rattle.nit_setup.proofs.Basics.{HasRead, HaveSamePhases, IfNone, IfSome, IfSome_then}
use Rattle.nit_setup.proofs.Basics.{IsClientFault, IsClientScript, IsClipFault, IsClipScript}
use Rattle.nit_setup.proofs.Basics.{IsNameOf, IsOuterFault, IsOuterScript, Judged, Line}
use Rattle.nit_setup.proofs.Basics.{MayShowFrames, Member, OuterSoFar, OuterStopped, Refused}
use Rattle.nit_setup.proofs.Basics.{RunFiles, SoFar, Stop, StoppedAmong, StoppedAt, StoppedAtClip}
use Rattle.nit_setup.proofs.Basics.{StoppedBy, StoppedReading, StoreModel, asking_all, asking_more}
use Rattle.nit_setup.proofs.Basics.{bytes_of, clip_name, cond, first_other, fits_push, frames_of}
use Rattle.nit_setup.proofs.Basics.{is_some, is_too_long, length-map, length_push, map_push, misfit}
use Rattle.nit_setup.proofs.Basics.{name_text, names_in, names_read, nat_tests, nest_of, next_name}
use Rattle.nit_setup.proofs.Basics.{phase_counts, phases, script_names, slice_get, take-append_seam}
use Rattle.nit_setup.proofs.Basics.{take_more, too_long_for, wanted_by, with_asked, wrong_client}
use Rattle.nit_setup.proofs.Basics.{wrong_clip, wrong_outer}
use Rattle.std.proofs.Common.{Bool, List, None, Option, Some, [], add-one, arith, drop, false}
use Rattle.std.proofs.Common.{get_or, length, map, refl, subst, suc, sym, take, zero, ℕ, ◌++◌, ◌+◌}
use Rattle.std.proofs.Common.{◌<◌, ◌==◌, ◌∙◌, ◌∷◌, ◌≡◌}
use Rattle.nit_setup.specs.declared.stop.End.TheVariants as ends
use Rattle.nit_setup.specs.declared.stop.Fault.TheVariants as fault

-- ---- lists

pub zip_more : {A B : Type 0} (R : A → B → Type 0) (xs : List A) (ys : List B) (x : A) (y : B) → AllZip R xs ys → R x y
    → AllZip R (xs ++ x ∷ []) (ys ++ y ∷ [])
zip_more R [] [] x y all r = (r, tt)
zip_more R (a ∷ xs) (b ∷ ys) x y all r = (all.0, zip_more R xs ys x y all.1 r)
zip_more R xs ys x y all r = absurd all

-- ---- phases

-- where so many phases are wanted and nothing is wrong, there are so many
pub phases_are : (wanted count : ℕ) → (if_wrong : (cond (count == wanted) None (Some fault.PhasesDiffer)) ≡ None)
    → count ≡ wanted
phases_are wanted count e = grind (arith, nat_tests)

same_more : (scripts : List (List Line)) (lines : List Line) → HaveSamePhases scripts
    → wrong_client (wanted_by scripts) lines ≡ None → HaveSamePhases (scripts ++ lines ∷ [])
same_more [] lines same right = tt
same_more (first ∷ rest) lines same right =
    fits_push (λ ls. phases ls ≡ phases first) rest lines same (phases_are (phases first) (phases lines) right)

-- ---- what the store tells

pub both_told : (told : Option (List File)) {P Q R : List File → Type 0} → IfSome told P → IfSome told Q
    → ((files : List File) → P files → Q files → R files) → IfSome told R
both_told None p q f = tt
both_told (Some files) p q f = f files p q

pub both_of : (told : Option (List File)) (P Q : List File → Type 0) → IfSome told P → IfSome told Q
    → IfSome told (λ files. P files × Q files)
both_of told P Q p q = both_told told p q (λ files v w. (v, w))

pub told_so : (P Q : List File → Type 0) (told : Option (List File)) → ((files : List File) → P files → Q files)
    → IfSome told P → IfSome told Q
told_so P Q told f p = IfSome_then told p f

pub told_so_both : (P Q R : List File → Type 0) (told : Option (List File))
    → ((files : List File) → P files → Q files → R files) → IfSome told P → IfSome told Q → IfSome told R
told_so_both P Q R told f p q = both_told told p q f

-- ---- the clients

abbrev pub script_of : Member → List ℕ
script_of m = m.script

-- the scripts of the clients before a place, at it and behind it
pub names_at : (clients : List Member) (i : ℕ) {m : Member} {name : List ℕ} → i < length clients
    → m ≡ get_or clients i m → name ≡ m.script
    → map script_of clients ≡ map script_of (take i clients) ++ name ∷ map script_of (drop (i + 1) clients)
names_at (c ∷ clients) zero lt is named = cc
names_at (c ∷ clients) (suc i) lt is named = grind (arith, add-one, names_at clients i (omega arith) is named)
names_at [] i lt is named = absurd (omega arith)

pub names_more : (clients : List Member) (i : ℕ) {m : Member} {name : List ℕ} → i < length clients
    → m ≡ get_or clients i m → name ≡ m.script
    → map script_of (take (i + 1) clients) ≡ map script_of (take i clients) ++ name ∷ []
names_more clients i {m = m} lt is named =
    rw (take_more clients i m lt, named, ← is) (map_push script_of (take i clients) m)

-- ---- one script after the other

pub one_more_read : {old mid new : StoreModel} {names : List (List ℕ)} {scripts : List (List Line)}
    {wanted : Option ℕ} (name : List ℕ) (lines : List Line) → SoFar old names scripts mid
    → wanted ≡ wanted_by scripts → new ≡ with_asked mid name
    → IfSome mid.files (λ files. IsClientScript wanted (bytes_of name files) lines) → AreLines FitsLine lines
    → wrong_client wanted lines ≡ None → SoFar old (names ++ name ∷ []) (scripts ++ lines ∷ []) new
one_more_read {old = old} {names = names} {scripts = scripts} name lines far wants asked valid fits
    right = record {
      asked = rw (asked, far.asked) (asking_more old names name);
      count = omega (arith, far.count, length_push scripts lines, length_push names name);
      lines = fits_push (AreLines FitsLine) scripts lines far.lines fits;
      phases = same_more scripts lines far.phases (rw wants at right);
      valid = both_told old.files far.valid (rw far.asked at valid)
          (λ files p q. zip_more _ names scripts name lines p q.0);
    }

-- ---- the clip scripts of the clients, read and judged one after the other

pub one_more_clip_read : {wanted : Option ℕ} {old mid new : StoreModel} {scripts : List (List ℕ)}
    {clips : List (List ClipLine)} (script : List ℕ) (lines : List ClipLine) → AreClipsRead wanted old scripts clips mid
    → new ≡ with_asked mid (clip_name script)
    → IfSome mid.files (λ files. IsClipScript wanted (bytes_of (clip_name script) files) lines)
    → wrong_clip wanted lines ≡ None → AreClipsRead wanted old (scripts ++ script ∷ []) (clips ++ lines ∷ []) new
one_more_clip_read {wanted = wanted} {old = old} {scripts = scripts} {clips = clips} script lines
    far asked valid right =
    let names = map_push clip_name scripts script in
    record {
      asked = rw (asked, far.asked, names) (asking_more old (map clip_name scripts) (clip_name script));
      count = omega (arith, far.count, length_push clips lines, length_push scripts script);
      right = fits_push (λ ls. wrong_clip wanted ls ≡ None) clips lines far.right right;
      valid = rw names (both_told old.files far.valid (rw far.asked at valid)
          (λ files p q. zip_more _ (map clip_name scripts) clips (clip_name script) lines p q));
    }

-- ---- the scripts of the outer configuration's clients, read and judged one after the other

may_more : (scripts : List (List Line)) (lines : List Line) → MayShowFrames scripts → wrong_outer scripts lines ≡ None
    → MayShowFrames (scripts ++ lines ∷ [])
may_more [] lines may right = grind (arith, nat_tests)
may_more (first ∷ rest) lines may right = may

pub one_more_outer_read : {old mid new : StoreModel} {names : List (List ℕ)} {scripts before : List (List Line)}
    (name : List ℕ) (lines : List Line) → OuterSoFar old names scripts mid → before ≡ scripts
    → new ≡ with_asked mid name → IfSome mid.files (λ files. IsOuterScript before (bytes_of name files) lines)
    → AreLines FitsLine lines → wrong_outer before lines ≡ None
    → OuterSoFar old (names ++ name ∷ []) (scripts ++ lines ∷ []) new
one_more_outer_read {old = old} {names = names} {scripts = scripts} name lines far same asked valid fits
    right = record {
      asked = rw (asked, far.asked) (asking_more old names name);
      count = omega (arith, far.count, length_push scripts lines, length_push names name);
      lines = fits_push (AreLines FitsLine) scripts lines far.lines fits;
      may = may_more scripts lines far.may (rw same at right);
      valid = both_told old.files far.valid (rw far.asked at valid)
          (λ files p q. zip_more _ names scripts name lines p q.0);
    }

-- ---- a script or clip script of a client was not read, or is refused

module _ {old mid new : StoreModel} {stop : Stop} (clients : List Member) (i : ℕ) {m : Member} {name : List ℕ}
    {end : End} (lt : i < length clients) (is : m ≡ get_or clients i m) (named : name ≡ m.script) where
  pub stopped_here : {scripts : List (List Line)} {wanted : Option ℕ}
      → SoFar old (map script_of (take i clients)) scripts mid → wanted ≡ wanted_by scripts
      → (stop.end ≡ end) × IsNameOf stop.name name → StoppedAt (IsClientFault wanted) mid name new end
      → StoppedAmong old (map script_of clients) new stop
  stopped_here {scripts = scripts} far wants ended stopped = record {
    before = map script_of (take i clients);
    name = name;
    behind = map script_of (drop (i + 1) clients);
    parts = names_at clients i lt is named;
    named = ended.1;
    scripts = scripts;
    count = far.count;
    lines = far.lines;
    phases = far.phases;
    valid = IfSome_then old.files far.valid (λ files p. (p, far.phases));
    stopped = rw (ended.0, ← far.asked, ← wants) stopped;
  }

  pub stopped_at_outer : {scripts seen : List (List Line)} → OuterSoFar old (map script_of (take i clients)) scripts mid
      → seen ≡ scripts
      → (stop.end ≡ end) × IsNameOf stop.name name → StoppedAt (IsOuterFault seen) mid name new end
      → OuterStopped old (map script_of clients) new stop
  stopped_at_outer {scripts = scripts} far same ended stopped = record {
    before = map script_of (take i clients);
    name = name;
    behind = map script_of (drop (i + 1) clients);
    parts = names_at clients i lt is named;
    named = ended.1;
    scripts = scripts;
    count = far.count;
    lines = far.lines;
    may = far.may;
    valid = IfSome_then old.files far.valid (λ files p. (p, far.may));
    stopped = rw (ended.0, ← far.asked, ← same) stopped;
  }

  pub stopped_at_clip : {wanted : Option ℕ} {clips : List (List ClipLine)}
      → AreClipsRead wanted old (map script_of (take i clients)) clips mid
      → (stop.end ≡ end) × IsNameOf stop.name (clip_name name)
      → StoppedAt (IsClipFault wanted) mid (clip_name name) new end
      → StoppedAtClip wanted old (map script_of clients) new stop
  stopped_at_clip {clips = clips} far ended stopped = record {
    before = map script_of (take i clients);
    behind = map script_of (drop (i + 1) clients);
    script = name;
    parts = names_at clients i lt is named;
    named = ended.1;
    clips = clips;
    between = mid;
    read = far;
    stopped = rw ended.0 stopped;
  }

-- ---- how a command stops at a file that it reads

module _ (c : Command) (old : StoreModel) (read : FilesRead) (valid : HasRead c old.files read) (name : List ℕ)
    (next : next_name c read ≡ Some name) (Faulty : List ℕ → Fault → Type 0) (new : StoreModel)
    (judged : (f : Fault) → IfSome old.files (λ files. Faulty (bytes_of name files) f)
    → IfSome old.files (λ files. Judged c files (Refused name f))) where
  abbrev start : StoreModel
  start = asking_all old (names_read c read)

  stopped_by : (end : End) → StoppedAt Faulty start name new end
      → StoppedBy (λ files f. Judged c files (Refused name f)) start name new end
  stopped_by (ends.Refused f) h = (h.0, judged f h.1)
  stopped_by other h = h

  -- a command stopped at a file
  pub stopped_reading : (mid : StoreModel) (stop : Stop) → mid ≡ start → name_text c stop.name ≡ name
      → StoppedAt Faulty mid name new stop.end → StoppedReading c old new stop
  stopped_reading mid stop asked is h = record {
    read = read;
    between = start;
    before = record { asked = refl; valid = valid };
    name = name;
    next = next;
    named = is;
    stopped = stopped_by stop.end (subst (λ (s : StoreModel). StoppedAt Faulty s name new stop.end) asked h);
  }

-- ---- lists

-- the first items of a list, as many as another list has
pub take_front : {A B : Type 0} (before behind : List A) (xs : List B) → length xs ≡ length before
    → take (length xs) (before ++ behind) ≡ before
take_front before behind xs same = rw same (take-append_seam before behind)

pub get_behind : {A B : Type 0} (before : List A) (x : A) (behind : List A) (xs : List B) → length xs ≡ length before
    → slice_get (before ++ x ∷ behind) (length xs) ≡ Some x
get_behind [] x behind xs same = rw same refl
get_behind (b ∷ before) x behind [] same = absurd cc
get_behind (b ∷ before) x behind (y ∷ xs) same = get_behind before x behind xs (omega arith)

-- ---- the first script of another number of phases, and scripts that fit

-- what is found in front, and else what is found behind
abbrev pub in_front : Option (List ℕ) → Option (List ℕ) → Option (List ℕ)
in_front None behind = behind
in_front (Some name) behind = Some name

pub first_in_front : (wanted : ℕ) (names more : List (List ℕ)) (counts rest : List ℕ) → length names ≡ length counts
    → first_other wanted (names ++ more) (counts ++ rest)
    ≡ in_front (first_other wanted names counts) (first_other wanted more rest)
first_in_front wanted [] more [] rest long = refl
first_in_front wanted (m ∷ names) more (n ∷ counts) rest long =
    grind (arith, nat_tests, first_in_front wanted names more counts rest (omega arith))
first_in_front wanted names more counts rest long = absurd cc

-- the clients' scripts, and then the input script
pub first_of_all : (wanted : ℕ) (config : Configuration) (scripts : List (List Line)) (count : ℕ)
    (found : Option (List ℕ)) → length scripts ≡ length config.clients
    → first_other wanted (script_names config) (map phases scripts) ≡ found
    → first_other wanted (names_in config) (map phases scripts ++ count ∷ [])
    ≡ in_front found (cond (count == wanted) None (Some config.input))
first_of_all wanted config scripts count found long here =
    let same = length-map config.clients script_of ∙ sym (length-map scripts phases ∙ long) in
    rw (← here) (first_in_front wanted (script_names config) (config.input ∷ []) (map phases scripts) (count ∷ []) same)

-- the scripts of which none has another number have the wanted one
pub all_wanted : (wanted : ℕ) (names : List (List ℕ)) (scripts : List (List Line)) (more : List (List ℕ))
    (rest : List ℕ) → length names ≡ length scripts → first_other wanted (names ++ more) (map phases scripts ++ rest)
    ≡ None
    → AllByRecursion (λ (ls : List Line). phases ls ≡ wanted) scripts × (first_other wanted more rest ≡ None)
all_wanted wanted [] [] more rest long none = (tt, none)
all_wanted wanted (m ∷ names) (s ∷ scripts) more rest long none =
    grind (arith, nat_tests, all_wanted wanted names scripts more rest)
all_wanted wanted names scripts more rest long none = absurd cc

-- the input script too
pub one_wanted : (wanted : ℕ) (name : List ℕ) (count : ℕ) → first_other wanted (name ∷ []) (count ∷ []) ≡ None
    → count ≡ wanted
one_wanted wanted name count none = grind (arith, nat_tests)

-- ---- misfits

pub other_phases : (inner name : List ℕ) (o i : RunFiles)
    → first_other (length (frames_of i)) (names_in o.config) (phase_counts o) ≡ Some name
    → misfit inner o i ≡ Some (name, fault.PhasesDiffer)
other_phases inner name o i other = rw other refl

pub by_length : (inner : List ℕ) (o i : RunFiles) (b : Bool)
    → first_other (length (frames_of i)) (names_in o.config) (phase_counts o) ≡ None → is_too_long (nest_of i) o.scripts
    ≡ b → misfit inner o i ≡ too_long_for inner b
by_length inner o i b none is = rw (none, is) refl

-- ---- the clients' scripts, one after the other

-- behind scripts of which none has another number of phases, this one has another
pub found_other : (wanted : ℕ) (clients : List Member) (scripts : List (List Line)) (k : ℕ) (m : Member)
    (lines : List Line) → length scripts ≡ length clients → k < length scripts → lines ≡ get_or scripts k lines
    → first_other wanted (map script_of (take k clients)) (map phases (take k scripts)) ≡ None
    → (phases lines ≡ wanted → ⊥)
    → first_other wanted (map script_of clients) (map phases scripts) ≡ Some (get_or clients k m).script
found_other wanted (c ∷ clients) (s ∷ scripts) zero m lines long lt here none not = grind (arith, nat_tests)
found_other wanted (c ∷ clients) (s ∷ scripts) (suc k) m lines long lt here none not =
    grind (arith, nat_tests, found_other wanted clients scripts k m lines)
found_other wanted clients scripts k m lines long lt here none not = absurd (omega arith)

-- it has the wanted one
pub one_more_wanted : (wanted : ℕ) (clients : List Member) (scripts : List (List Line)) (k : ℕ) (lines : List Line)
    → length scripts ≡ length clients → k < length scripts → lines ≡ get_or scripts k lines
    → first_other wanted (map script_of (take k clients)) (map phases (take k scripts)) ≡ None
    → phases lines ≡ wanted
    → first_other wanted (map script_of (take (suc k) clients)) (map phases (take (suc k) scripts)) ≡ None
one_more_wanted wanted (c ∷ clients) (s ∷ scripts) zero lines long lt here none same = grind (arith, nat_tests)
one_more_wanted wanted (c ∷ clients) (s ∷ scripts) (suc k) lines long lt here none same =
    grind (arith, nat_tests, one_more_wanted wanted clients scripts k lines)
one_more_wanted wanted clients scripts k lines long lt here none same = absurd (omega arith)

-- ---- a fact of what may be there

pub none_there : {X : Type 0} (P : Type 0) (o : Option X) → is_some o ≡ false → IfNone o P → P
none_there P None e p = p
none_there P (Some x) e p = absurd cc
