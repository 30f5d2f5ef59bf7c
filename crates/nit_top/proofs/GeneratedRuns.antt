-- Generated runs: they can be run, and how their work comes to its end.
use Rattle.nit_top.proofs.Basics.{AllByRecursion, AllZip, AreAllFiles, AreAllOuterFiles}
use Rattle.nit_top.proofs.Basics.{AreAllScripts, AreOutputs, BothFiles, Command, Configuration}
use Rattle.nit_top.proofs.Basics.{Course, End, Ends, Entry, Fault, File, FirstShows, FitsInputLine}
use Rattle.nit_top.proofs.Basics.{FitsLine, Gen, HasRun, Headline, IfSome, InputLine, IsAfterRun}
use Rattle.nit_top.proofs.Basics.{IsInnerEnd, IsJournal, IsMadeUpTo, IsRunConfiguration, IsRunnable}
use Rattle.nit_top.proofs.Basics.{Line, Nested, NoFile, NotBegun, Performed, PerformedNested}
use Rattle.nit_top.proofs.Basics.{PutAll, PutError, PutFault, PutFiles, PutRefusal, PutState}
use Rattle.nit_top.proofs.Basics.{PutUntil, PutsAll, ReadsClient, RunFiles, Setup, StoreModel}
use Rattle.nit_top.proofs.Basics.{Totals, Worked, after, all_put, append-nil, asked_also}
use Rattle.nit_top.proofs.Basics.{asking_all, asking_none, by_length, by_turns, client_script}
use Rattle.nit_top.proofs.Basics.{end_of_put, end_of_run, file_names, first_other, frames_of}
use Rattle.nit_top.proofs.Basics.{generated_files, generated_setup, inner_journal_name}
use Rattle.nit_top.proofs.Basics.{input_phases, is_some, journal_text, misfit, name_text, names_in}
use Rattle.nit_top.proofs.Basics.{nest_of, nested_setup, phase_counts, phases, put_state_of_run}
use Rattle.nit_top.proofs.Basics.{range_with_len, refusal_of, setup_of, told_so_both, unrefused}
use Rattle.nit_top.proofs.Basics.{user_script}
use Rattle.nit_top.proofs.WorkLemmas.{CameTo, LeftAt, ended_so, left_at, no_memory, performed_ends}
use Rattle.nit_top.proofs.WorkLemmas.{run_ends}
use Rattle.std.proofs.Common.{Err, List, None, Option, Some, [], ap, arith, inl, inr, length, map}
use Rattle.std.proofs.Common.{refl, suc, sym, true, zero, ℕ, ◌++◌, ◌+◌, ◌∙◌, ◌∷◌, ◌≡◌, ◌≤◌}
use Rattle.nit_report.specs.Generator.{generated_configuration}
use Rattle.nit_setup.specs.declared.stop.End.TheVariants as ends
use Rattle.nit_setup.specs.declared.stop.Fault.TheVariants as fault
use Rattle.nit_setup.specs.declared.stop.StopName.TheVariants as file_name
use Rattle.nit_store.specs.declared.store.PutError.TheVariants as put

-- ---- it can be run

all_mapped : {A : Type 0} (P : A → Type 0) (f : ℕ → A) → ((c : ℕ) → P (f c)) → (first count : ℕ)
    → AllByRecursion P (map f (range_with_len first count))
all_mapped P f each first zero = tt
all_mapped P f each first (suc count) = (each first, all_mapped P f each (first + 1) count)

both_all : {A : Type 0} (P Q : A → Type 0) (xs : List A) → AllByRecursion P xs → AllByRecursion Q xs
    → AllByRecursion (λ x. P x × Q x) xs
both_all P Q [] p q = tt
both_all P Q (x ∷ xs) p q = ((p.0, q.0), both_all P Q xs p.1 q.1)

abbrev pub scripts_of : ℕ → List (List Line)
scripts_of n = map (client_script n) (range_with_len 0 8)

-- what the bytes of its files say of its scripts
clients_fit : (texts : List (List ℕ)) (scripts : List (List Line)) → AllZip ReadsClient texts scripts
    → AllByRecursion (AllByRecursion FitsLine) scripts
clients_fit [] [] reads = tt
clients_fit [] (s ∷ scripts) reads = absurd reads
clients_fit (t ∷ texts) [] reads = absurd reads
clients_fit (t ∷ texts) (s ∷ scripts) reads = (reads.0.0, clients_fit texts scripts reads.1)

pub generated_runnable : (n : ℕ) → ((c : ℕ) → length (client_script n c) ≡ 1996)
    → ((c : ℕ) → phases (client_script n c) ≡ 3) → length (user_script n) ≡ 205 → input_phases (user_script n) ≡ 3
    → (texts : List (List ℕ)) → AllZip ReadsClient texts (scripts_of n) → AllByRecursion FitsInputLine (user_script n)
    → {config : Configuration} → config ≡ generated_configuration → IsRunConfiguration config
    → IsRunnable (generated_setup n)
unfolding generated_configuration
generated_runnable n lines phases_are input_lines input_phases_are texts reads input_fits is configured =
    record {
      configured = rw is at configured;
      scripts = refl;
      phases = all_mapped (λ (ls : List Line). phases ls ≡ input_phases (user_script n)) (client_script n)
          (λ c. phases_are c ∙ sym input_phases_are) 0 8;
      lines =
          both_all (AllByRecursion FitsLine) (λ (ls : List Line). length ls ≤ 65536) (scripts_of n)
          (clients_fit texts (scripts_of n) reads)
          (all_mapped (λ (ls : List Line). length ls ≤ 65536) (client_script n) (λ c. let e = lines c in omega arith) 0
          8);
      input_lines = (input_fits, omega (arith, input_lines));
      clips_each = inl refl;
    }

-- a generated setup without the files that are made before it
abbrev pub unmade : ℕ → Setup
unmade n = setup_of generated_configuration (scripts_of n) (user_script n) true true

pub unmade_runnable : (n : ℕ) → IsRunnable (generated_setup n) → IsRunnable (unmade n)
unmade_runnable n r = assumption

files_are : (n : ℕ) (told : Option (List File)) → IsRunnable (generated_setup n)
    → AreAllFiles (Gen n) told (generated_setup n)
files_are n told r = record { runnable = r; of_command = refl; valid = told_all told }
  where
    told_all : (told : Option (List File)) → IfSome told (λ files. generated_setup n ≡ generated_setup n)
    told_all None = tt
    told_all (Some files) = refl

-- that setup in other words
pub same_unmade : (n : ℕ) (config : Configuration) (scripts : List (List Line)) (lines : List InputLine)
    → config ≡ generated_configuration → scripts ≡ scripts_of n → lines ≡ user_script n
    → setup_of config scripts lines true true ≡ unmade n
same_unmade n config scripts lines a b c = λ i. setup_of (a i) (b i) (c i) true true

-- ---- its work

-- what the law of the headline says
abbrev pub HeadlineLaw : Type 0
HeadlineLaw = (s : Setup) (journal : List Entry) (outputs : List File) → IsRunnable s → IsJournal s journal
    → AreOutputs s journal outputs → Headline s journal outputs

-- what the law of puts says
abbrev pub BothLaw : Type 0
BothLaw = (front back : List File) (old mid new : PutState) → PutsAll front old mid → PutsAll back mid new
    → PutsAll (front ++ back) old new

module _ (n : ℕ) (old : StoreModel) where
  abbrev s : Setup
  s = generated_setup n

  journal_too : (journal : List Entry) → IsJournal (unmade n) journal → IsJournal s journal
  journal_too journal j = assumption

  outputs_too : (journal : List Entry) (outputs : List File) → AreOutputs (unmade n) journal outputs
      → AreOutputs s journal (generated_files n ++ outputs)
  outputs_too journal outputs are = (
    are.0,
    assumption are.1,
    ap (λ (files : List File). generated_files n ++ files) are.2,
  )

  -- a run behind the files that were made
  run_too : IsRunnable s → BothLaw → HeadlineLaw → (mid new : StoreModel) (w : Worked)
      → PutsAll (generated_files n) (unrefused old) (unrefused mid) → IsAfterRun mid (unmade n) new w
      → IsAfterRun old s new w
  run_too runnable both headline mid new w made after =
      let r = after.has_run in
      let j : IsJournal s after.ran.journal.items = journal_too after.ran.journal.items r.journal in
      let are : AreOutputs s after.ran.journal.items (generated_files n ++ r.outputs) =
      outputs_too after.ran.journal.items r.outputs r.are in
      let run : HasRun old s new after.ran = record {
        journal = j;
        frames = r.frames;
        outputs = generated_files n ++ r.outputs;
        are = are;
        puts = both (generated_files n) r.outputs (unrefused old) (unrefused mid) (put_state_of_run new after.ran.fault)
            made r.puts;
      } in
      record {
        ran = after.ran;
        has_run = run;
        headline = headline s after.ran.journal.items (generated_files n ++ r.outputs) runnable j are;
        end_is = after.end_is;
        name_is = after.name_is;
        journal_is = after.journal_is;
        clients_are = after.clients_are;
        frames_are = after.frames_are;
      }

  -- ---- no run was begun

  abbrev none : Course old (Gen n) []
  none = NotBegun refl

  -- memory ran out before a file was put
  pub nothing_made : {w : Worked} → w.stop.end ≡ ends.NoMemory → w.journal.items ≡ [] → Ends (Gen n) old old w
  nothing_made is empty = ended_so empty is (no_memory NoFile tt (asking_none old))

  -- memory ran out when all files were put
  pub made_whole : {mid : StoreModel} {w : Worked} → PutsAll (generated_files n) (unrefused old) (unrefused mid)
      → w.stop.end ≡ ends.NoMemory → w.journal.items ≡ [] → Ends (Gen n) old mid w
  made_whole {mid = mid} puts is empty =
      let p : PutAll old (generated_files n) mid = all_put old (generated_files n) (unrefused mid) puts in
      let parts : generated_files n ≡ generated_files n ++ [] = sym (append-nil (generated_files n)) in
      ended_so empty is (rw p.rest (record {
        course = none;
        came = (
          inr (inl (inr (
            [],
            record {
              none = tt;
              front = generated_files n;
              parts = parts;
              put = p.put;
              asks = ap (asked_also old.asked) (sym (append-nil (file_names (generated_files n))));
            },
          ))),
          refl,
        );
        counts = (refl, refl);
        said = refl;
      }))

  -- the put of one of them was refused
  module _ {new : StoreModel} {r : PutRefusal} (p : PutUntil old (generated_files n) new r) where
    up_to : (more : List (List ℕ)) → PutFiles p.front old.files new.files
        → new.asked ≡ asked_also old.asked (file_names p.front ++ more)
        → IsMadeUpTo none new.files new.asked ((r.name, p.bytes) ∷ p.back) more
    up_to more put asks = record { none = tt; front = p.front; parts = p.parts; put = put; asks = asks }

    made_refused : {t : Totals} (e : PutError) → LeftAt old new p.front r.name e
        → CameTo (Gen n) old new [] (end_of_put e) r.name t
    made_refused put.Failed a = record {
      course = none;
      came = (r.name, inl (p.bytes, p.back, up_to (r.name ∷ []) a.put a.asks), refl);
      counts = a.counts;
      said = a.said;
    }
    made_refused put.NoMemory a = record {
      course = none;
      came = (
        inr (inl (elim a.asks [
          | inl x ↦ inl (r.name, (p.bytes, p.back, up_to (r.name ∷ []) a.put x))
          | inr x ↦ inr ((r.name, p.bytes) ∷ p.back, up_to [] a.put x)
        ])),
        refl,
      );
      counts = a.counts;
      said = a.said;
    }

  -- the put of one of the files was refused
  pub made_in_part : {new : StoreModel} {w : Worked} (fault : Option PutFault) → is_some fault ≡ true
      → PutsAll (generated_files n) (unrefused old) (put_state_of_run new fault) → w.stop.end ≡ end_of_run fault
      → IfSome fault (λ g. w.stop.name ≡ file_name.Put g.file) → w.journal.items ≡ []
      → Ends (Gen n) old new w
  made_in_part None some puts is named empty = absurd cc
  made_in_part {new = new} (Some g) some puts is named empty =
      let u : PutUntil old (generated_files n) new (refusal_of g) =
      all_put old (generated_files n) (put_state_of_run new (Some g)) puts in
      ended_so empty is (rw named (made_refused u g.error (left_at u.put g.error u.refused)))

  -- ---- the whole

  pub generated_ends : IsRunnable s → BothLaw → HeadlineLaw → {mid new : StoreModel} {w : Worked}
      → PutsAll (generated_files n) (unrefused old) (unrefused mid) → Performed mid (unmade n) new w
      → Ends (Gen n) old new w
  generated_ends runnable both headline {mid = mid} {new = new} {w = w} made (inl after') =
      performed_ends (λ s journal files are. refl, λ config. refl) (asking_none old) (files_are n old.files runnable)
      (inl (run_too runnable both headline mid new w made after'))
  generated_ends runnable both headline {w = w} made (inr (is, same, empty)) = rw same (made_whole made is empty)

-- ---- how the work on two configurations comes to its end, where both were read: before the outer run, and after it

module _ (outer inner : List ℕ) (o : RunFiles) (old : StoreModel) (all : AreAllOuterFiles outer old.files o)
    (i : RunFiles) (both : AreAllScripts inner old.files (by_turns i)) (new : StoreModel)
    (read : new ≡ asking_all old (outer ∷ names_in o.config ++ inner ∷ names_in i.config)) where
  abbrev two : Command
  two = Nested outer inner

  -- they do not fit together
  pub unfit_ends : {name : List ℕ} {f : Fault} {w : Worked} → misfit inner o i ≡ Some (name, f)
      → name_text two w.stop.name ≡ name → w.stop.end ≡ ends.Unfit f → w.journal.items ≡ [] → Ends two old new w
  unfit_ends {name = name} unfit is end none = ended_so none end (rw (is, read) (record {
    course = NotBegun refl;
    came = (
      name,
      record { none = tt; same = refl; o = o; i = i; valid = (all, both); asks = refl },
      told_so_both _ _ _ old.files (λ files v p. inr (o, v, inr (i, p, unfit))) all.valid both.valid,
      refl,
    );
    counts = (refl, refl);
    said = refl;
  }))

  -- memory ran out before the outer run
  no_memory_ends : {w : Worked} → w.stop.end ≡ ends.NoMemory → w.journal.items ≡ [] → Ends two old new w
  no_memory_ends end none = ended_so none end (no_memory (BothFiles o i) (all, both) read)

  pub nested_ends : {last : StoreModel} {journal : List Entry} {w : Worked} → misfit inner o i ≡ None
      → IsRunnable (nested_setup o i) → FirstShows (nest_of i) (nested_setup o i).scripts
      → IsJournal (by_turns i) journal → PerformedNested journal new (nested_setup o i) last w → Ends two old last w
  nested_ends {journal = journal} fits runnable shows is_journal (inl after') =
      let r = after'.has_run in
      let files : AreAllFiles two old.files (nested_setup o i) = record {
        runnable = runnable;
        of_command = record {
          o = o;
          i = i;
          is_outer = all.is_outer;
          runnable = both.runnable;
          fits = fits;
          setup = refl;
          shows = shows;
        };
        valid = told_so_both _ _ _ old.files (λ files v p. (o, i, v, p, fits, refl)) all.valid both.valid;
      } in
      run_ends ((inner_journal_name, journal_text journal) ∷ []) after'.fault read files r.are after'.headline refl
      (journal, is_journal, refl) r.puts after'.end_is after'.name_is refl after'.clients_are after'.frames_are
  nested_ends fits runnable shows is_journal (inr (end, same, none)) = rw same (no_memory_ends end none)

  -- the inner run made no script
  pub inner_stopped : {own : List Line} {rest : List (List Line)} (end : End) {w : Worked} → o.scripts ≡ own ∷ rest
      → first_other (length (frames_of i)) (names_in o.config) (phase_counts o) ≡ None → IsInnerEnd i own (Err end)
      → name_text two w.stop.name ≡ inner → w.stop.end ≡ end → w.journal.items ≡ [] → Ends two old new w
  inner_stopped (ends.Unfit fault.FramesTooLong) parts none long name end empty =
      unfit_ends (by_length inner o i true none (rw parts long)) name end empty
  inner_stopped ends.NoMemory parts none h name end empty = no_memory_ends end empty
  inner_stopped other parts none h name end empty = absurd h
