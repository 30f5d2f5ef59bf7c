-- How the work comes to its end: before a run is begun, and after one.
use Rattle.nit_top.proofs.Basics.{AllFiles, AreAdded, AreAllFiles, AreAllScripts, AreOutputs, Audit}
use Rattle.nit_top.proofs.Basics.{Begun, Came, Capture, Clip, Command, Configuration, Counts}
use Rattle.nit_top.proofs.Basics.{Course, End, Ends, Entry, Fault, File, FilesRead, HasRead}
use Rattle.nit_top.proofs.Basics.{Headline, IfSome, IfSome_then, IsAuditEnd, IsCommandRun}
use Rattle.nit_top.proofs.Basics.{IsJournalFault, IsJournalText, IsLastRead, IsPutBefore, Judged}
use Rattle.nit_top.proofs.Basics.{NoCommand, NoFile, NotBegun, Performed, PerformedClips}
use Rattle.nit_top.proofs.Basics.{PerformedFilmed, PutAll, PutError, PutFault, PutFiles, PutRefusal}
use Rattle.nit_top.proofs.Basics.{PutRefused, PutSo, PutUntil, PutsAll, Refused, Region, Setup}
use Rattle.nit_top.proofs.Basics.{Stop, StopName, StoppedAt, StoppedBy, StoppedReading, StoreModel}
use Rattle.nit_top.proofs.Basics.{Totals, Worked, all_put, also_more, also_none, append-nil}
use Rattle.nit_top.proofs.Basics.{asked_also, asking_all, asking_more, bytes_of, end_of_put}
use Rattle.nit_top.proofs.Basics.{end_of_run, file_names, film_name, film_of, is_outside_of}
use Rattle.nit_top.proofs.Basics.{journal_stopped, line_of, name_text, names_in, names_read}
use Rattle.nit_top.proofs.Basics.{option_map, pictures_in, put_state_of_run, reads, refusal_of}
use Rattle.nit_top.proofs.Basics.{shots, summary_line, told_so_both, unrefused, with_asked}
use Rattle.std.proofs.Common.{List, None, Option, Some, [], ap, false, inl, inr, length, refl, sym}
use Rattle.std.proofs.Common.{true, ℕ, ◌++◌, ◌+◌, ◌∙◌, ◌∷◌, ◌≡◌, ◌⊎◌}
use Rattle.nit_setup.specs.declared.stop.End.TheVariants as ends
use Rattle.nit_setup.specs.declared.stop.Fault.TheVariants as fault
use Rattle.nit_setup.specs.declared.stop.StopName.TheVariants as file_name
use Rattle.nit_store.specs.declared.store.PutError.TheVariants as put

-- what the end of the work means, whatever the totals of the line
pub record CameTo (c : Command) (old new : StoreModel) (journal : List Entry) (end : End) (name : List ℕ)
    (t : Totals) : Type 0 where
  pub course : Course old c journal
  pub came : Came course new.files new.asked end (line_of end name t)
  pub counts : Counts old new end
  pub said : new.said ≡ old.said

abbrev pub totals_on : Worked → Totals
totals_on w = record { clients = w.clients; entries = length w.journal.items; frames = w.frames }

-- the work came to its end so
pub ended_so : {c : Command} {old new : StoreModel} {w : Worked} {journal : List Entry} {end : End}
    → w.journal.items ≡ journal → w.stop.end ≡ end
    → CameTo c old new journal end (name_text c w.stop.name) (totals_on w) → Ends c old new w
ended_so is at came =
    let so = rw (← at, ← is) at came in
    record { course = so.course; came = so.came; counts = so.counts; said = so.said }

-- ---- before a run

-- memory ran out when these files were read
pub no_memory : {c : Command} {old new : StoreModel} {name : List ℕ} {t : Totals} (read : FilesRead)
    → HasRead c old.files read → new ≡ asking_all old (names_read c read) → CameTo c old new [] ends.NoMemory name t
no_memory read valid asked = rw asked (record {
  course = NotBegun refl;
  came = (inl (record { none = tt; same = refl; read = read; valid = valid; asks = inl refl }), refl);
  counts = (refl, refl);
  said = refl;
})

module _ {c : Command} {old new : StoreModel} {stop : Stop} (s : StoppedReading c old new stop) where
  abbrev names : List (List ℕ)
  names = names_read c s.read

  abbrev none : Course old c []
  none = NotBegun refl

  last_read : IsLastRead none old.files (asked_also (asked_also old.asked names) (s.name ∷ [])) s.name
  last_read = record {
    none = tt;
    same = refl;
    read = s.read;
    valid = s.before.valid;
    next = s.next;
    asks = also_more old.asked names (s.name ∷ []);
  }

  stopped : (t : Totals) (end : End)
      → StoppedBy (λ files f. Judged c files (Refused s.name f)) (asking_all old names) s.name new end
      → CameTo c old new [] end s.name t
  stopped t ends.ReadFault h = rw h.rest
      (record { course = none; came = (s.name, last_read, refl); counts = (h.rose, refl); said = refl })
  stopped t (ends.Refused f) h = rw h.0
      (record { course = none; came = (s.name, last_read, h.1, refl); counts = (refl, refl); said = refl })
  stopped t ends.NoMemory (inl e) = rw e (record {
    course = none;
    came = (
      inl (record {
        none = tt;
        same = refl;
        read = s.read;
        valid = s.before.valid;
        asks = inr (s.name, s.next, also_more old.asked names (s.name ∷ []));
      }),
      refl,
    );
    counts = (refl, refl);
    said = refl;
  })
  stopped t ends.NoMemory (inr e) = no_memory s.read s.before.valid e
  stopped t other h = absurd h

  -- the work of a command stopped at a file
  pub stopped_ends : {w : Worked} → w.stop ≡ stop → w.journal.items ≡ [] → Ends c old new w
  stopped_ends {w = w} at none = ended_so none (ap (λ (t : Stop). t.end) at)
      (rw (at, s.named) (stopped (totals_on w) stop.end (rw s.before.asked at s.stopped)))

-- ---- a put that was refused

-- the name was asked for behind the files before it; or memory ran out before that
abbrev pub AsksAt : StoreModel → StoreModel → List File → List ℕ → PutError → Type 0
AsksAt old new front name put.Failed = new.asked ≡ asked_also old.asked (file_names front ++ name ∷ [])
AsksAt old new front name put.NoMemory = (new.asked ≡ asked_also old.asked (file_names front ++ name ∷ []))
    ⊎ (new.asked ≡ asked_also old.asked (file_names front ++ []))

-- the files before one were put, and that one was refused
pub record LeftAt (old new : StoreModel) (front : List File) (name : List ℕ) (e : PutError) : Type 0 where
  pub put : PutFiles front old.files new.files
  pub asks : AsksAt old new front name e
  pub counts : Counts old new (end_of_put e)
  pub said : new.said ≡ old.said

pub left_at : {old mid new : StoreModel} {front : List File} {name : List ℕ} → PutAll old front mid → (e : PutError)
    → PutRefused mid name new e → LeftAt old new front name e
left_at {old = old} {front = front} {name = name} p put.Failed h =
    let after = rw p.rest at h in
    rw after.rest (record {
      put = p.put;
      asks = also_more old.asked (file_names front) (name ∷ []);
      counts = (refl, after.rose, after.later);
      said = refl;
    })
left_at {old = old} {front = front} {name = name} p put.NoMemory (inl e) = rw (e, p.rest) (record {
  put = p.put;
  asks = inl (also_more old.asked (file_names front) (name ∷ []));
  counts = (refl, refl);
  said = refl;
})
left_at {old = old} {front = front} p put.NoMemory (inr e) = rw (e, p.rest) (record {
  put = p.put;
  asks = inr (ap (asked_also old.asked) (sym (append-nil (file_names front))));
  counts = (refl, refl);
  said = refl;
})

-- ---- how an audit comes to its end, where its files were read

module _ (name journal : List ℕ) (old new : StoreModel) (s : Setup) (entries : List Entry)
    (scripts : AreAllScripts name old.files s) (all_asked : new ≡ asking_all old (reads (Audit name journal) s))
    (text : IfSome old.files (λ files. IsJournalText (bytes_of journal files) entries)) where
  abbrev audit : Command
  audit = Audit name journal

  -- what was read before the journal
  abbrev mid : StoreModel
  mid = asking_all old (name ∷ names_in s.config)

  -- what an end of the audit is of its journal's file
  abbrev IsFound : List ℕ → Fault → Type 0
  IsFound bytes f = IsJournalText bytes entries × IsAuditEnd s entries (ends.Refused f)

  found_fault : (bytes : List ℕ) (f : Fault) → IsFound bytes f → IsJournalFault s bytes f
  found_fault bytes (fault.NotARun k) p = (entries, p.0, p.1)
  found_fault bytes other p = absurd p.1

  yes_ends : (count : ℕ) {w : Worked} → IsAuditEnd s entries (ends.Audited count) → w.stop.end ≡ ends.Audited count
      → w.journal.items ≡ [] → Ends audit old new w
  yes_ends count found end none = ended_so none end (rw all_asked (record {
    course = NotBegun refl;
    came = (
      record {
        none = tt;
        same = refl;
        audit = tt;
        setup = s;
        runnable = scripts.runnable;
        entries = entries;
        counted = found.0;
        of_a_run = found.1;
        told = told_so_both _ _ _ old.files (λ files a q. (a, q)) scripts.valid text;
        asks = refl;
      },
      refl,
    );
    counts = (refl, refl);
    said = refl;
  }))

  read : new ≡ with_asked mid journal
  read = all_asked ∙ sym (asking_more old (name ∷ names_in s.config) journal)

  -- the verdict, or want of memory
  stopped_found : (end : End) → IsAuditEnd s entries end → ((count : ℕ) → end ≡ ends.Audited count → ⊥)
      → StoppedAt IsFound mid journal new end
  stopped_found (ends.Refused f) found other = (read, IfSome_then old.files text (λ files q. (q, found)))
  stopped_found ends.NoMemory found other = inl read
  stopped_found (ends.Audited count) found other = absurd (other count refl)
  stopped_found rest found other = absurd found

  pub found_ends : (stop : Stop) {w : Worked} → name_text audit stop.name ≡ journal → IsAuditEnd s entries stop.end
      → w.stop ≡ stop → w.journal.items ≡ [] → Ends audit old new w
  found_ends stop {w = w} is found at none = by_end stop.end refl
    where
      other_end : ((count : ℕ) → stop.end ≡ ends.Audited count → ⊥) → Ends audit old new w
      other_end other = stopped_ends (journal_stopped name journal old mid s refl scripts IsFound found_fault new stop
          is (stopped_found stop.end found other)) at none

      by_end : (e : End) → stop.end ≡ e → Ends audit old new w
      by_end (ends.Audited count) e = yes_ends count (rw e at found) (ap (λ (t : Stop). t.end) at ∙ e) none
      by_end other e = other_end (λ k x. cc)

-- How the work comes to its end after a run.

-- ---- after a run

-- what a run had
abbrev totals_of : Setup → List Entry → Totals
totals_of s journal = record { clients = length s.config.clients; entries = length journal; frames = shots journal + 1 }

module _ {c : Command} (old new : StoreModel) {s : Setup} {journal : List Entry} {outputs : List File}
    (files_are : AreAllFiles c old.files s) (are : AreOutputs s journal outputs) (headline : Headline s journal outputs)
    (inside : is_outside_of c s.config ≡ false) (added : List File) (added_are : AreAdded c are added) where
  abbrev start : StoreModel
  start = asking_all old (reads c s)

  abbrev run : IsCommandRun old c journal
  run = record {
    setup = s;
    files_are = files_are;
    inside = inside;
    outputs = outputs;
    are = are;
    headline = headline;
    added = added;
    added_are = added_are;
    puts = outputs ++ added;
    puts_are = refl;
  }

  module _ {r : PutRefusal} (p : PutUntil start (outputs ++ added) new r) where
    before : (more : List (List ℕ)) → PutFiles p.front old.files new.files
        → new.asked ≡ asked_also start.asked (file_names p.front ++ more)
        → IsPutBefore run new.files new.asked r.name more
    before more put asks = record {
      front = p.front;
      bytes = p.bytes;
      back = p.back;
      parts = p.parts;
      put = put;
      asks = asks ∙ also_more old.asked (reads c s) (file_names p.front ++ more);
    }

    refused : {t : Totals} (e : PutError) → LeftAt start new p.front r.name e
        → CameTo c old new journal (end_of_put e) r.name t
    refused put.Failed a = record {
      course = Begun run;
      came = (r.name, inr (before (r.name ∷ []) a.put a.asks), refl);
      counts = a.counts;
      said = a.said;
    }
    refused put.NoMemory a = record {
      course = Begun run;
      came = (
        inr (inr (
          r.name,
          elim a.asks [ inl x ↦ inl (before (r.name ∷ []) a.put x) | inr x ↦ inr (before [] a.put x) ],
        )),
        refl,
      );
      counts = a.counts;
      said = a.said;
    }

  -- the run went to its end
  puts_end : (fault : Option PutFault) (name : StopName) (t : Totals) → t ≡ totals_of s journal
      → IfSome fault (λ f. name ≡ file_name.Put f.file)
      → PutSo start (outputs ++ added) new (option_map refusal_of fault)
      → CameTo c old new journal (end_of_run fault) (name_text c name) t
  puts_end None name t is named p = rw p.rest (record {
    course = Begun run;
    came = (
      record { put = p.put; asks = also_more old.asked (reads c s) (file_names (outputs ++ added)) },
      ap summary_line is,
    );
    counts = (refl, refl);
    said = refl;
  })
  puts_end (Some f) name t is named p = rw named (refused p f.error (left_at p.put f.error p.refused))

-- the work of a command whose files are read and valid, and whose run went to its end
pub run_ends : {c : Command} {old mid new : StoreModel} {s : Setup} {w : Worked} {journal : List Entry}
    {outputs : List File} (added : List File) (fault : Option PutFault) → mid ≡ asking_all old (reads c s)
    → AreAllFiles c old.files s → (are : AreOutputs s journal outputs) → Headline s journal outputs
    → is_outside_of c s.config ≡ false → AreAdded c are added
    → PutsAll (outputs ++ added) (unrefused mid) (put_state_of_run new fault) → w.stop.end ≡ end_of_run fault
    → IfSome fault (λ f. w.stop.name ≡ file_name.Put f.file) → w.journal.items ≡ journal
    → w.clients ≡ length s.scripts → w.frames ≡ shots journal + 1 → Ends c old new w
run_ends {c = c} {old = old} {new = new} {s = s} {w = w} {journal = journal} {outputs = outputs} added fault asked
    files_are are headline inside added_are puts end name journal_is clients frames =
    let totals : totals_on w ≡ totals_of s journal =
    rw (clients, files_are.runnable.scripts, journal_is, frames) refl in
    ended_so journal_is end (puts_end old new files_are are headline inside added added_are fault w.stop.name
    (totals_on w) totals name (all_put (asking_all old (reads c s)) (outputs ++ added) (put_state_of_run new fault)
    (rw asked at puts)))

-- the work of a command whose files are read and valid, where memory ran out before the run
pub unbegun_ends : {c : Command} {old mid new : StoreModel} {s : Setup} {w : Worked} → mid ≡ asking_all old (reads c s)
    → AreAllFiles c old.files s → (w.stop.end ≡ ends.NoMemory) × (new ≡ mid) × (w.journal.items ≡ []) → Ends c old new w
unbegun_ends {s = s} asked files_are (end, same, none) =
    ended_so none end (no_memory (AllFiles s) files_are (same ∙ asked))

-- the region that is to be filmed does not lie on the screen
pub outside_ends : {c : Command} {old new : StoreModel} {s : Setup} {w : Worked} → new ≡ asking_all old (reads c s)
    → AreAllFiles c old.files s → is_outside_of c s.config ≡ true → w.stop.end ≡ ends.Outside → w.journal.items ≡ []
    → Ends c old new w
outside_ends {s = s} asked files_are outside end none = ended_so none end (rw asked (record {
  course = NotBegun refl;
  came = (
    record { none = tt; same = refl; setup = s; valid = files_are; outside = outside; asks = refl },
    refl,
  );
  counts = (refl, refl);
  said = refl;
}))

-- the command films nothing: it adds no file, and no region lies outside
abbrev pub FilmsNothing : Command → Type 0
FilmsNothing c = ((s : Setup) (journal : List Entry) (files : List File) (are : AreOutputs s journal files)
    → AreAdded c are []) × ((config : Configuration) → is_outside_of c config ≡ false)

-- the work of a command whose files are read and valid, and which films nothing
pub performed_ends : {c : Command} {old mid new : StoreModel} {s : Setup} {w : Worked} → FilmsNothing c
    → mid ≡ asking_all old (reads c s) → AreAllFiles c old.files s → Performed mid s new w → Ends c old new w
performed_ends {s = s} nothing asked files_are (inl after') =
    let r = after'.has_run in
    run_ends [] after'.ran.fault asked files_are r.are after'.headline (nothing.1 s.config) (nothing.0 s _ _ r.are)
    (rw (append-nil r.outputs) r.puts) after'.end_is after'.name_is after'.journal_is after'.clients_are
    (after'.frames_are ∙ r.frames)
performed_ends nothing asked files_are (inr none) = unbegun_ends asked files_are none

-- the words are no command
pub usage_ends : {old : StoreModel} {w : Worked} → w.stop.end ≡ ends.Usage → w.journal.items ≡ []
    → Ends NoCommand old old w
usage_ends {old = old} end none = ended_so none end (record {
  course = NotBegun refl;
  came = (
    refl,
    record { none = tt; same = refl; read = NoFile; valid = tt; asks = inl (also_none old.asked) },
    refl,
  );
  counts = (refl, refl);
  said = refl;
})

-- the work of a run with clip scripts: the text of its clip list is behind the files of the run

pub clips_end : {name : List ℕ} {old now new : StoreModel} {s : Setup} {w : Worked}
    → now ≡ asking_all old (reads (Clip name) s) → AreAllFiles (Clip name) old.files s → PerformedClips now s new w
    → Ends (Clip name) old new w
clips_end asked files_are (inl after') =
    let r = after'.has_run in
    run_ends (r.file ∷ []) after'.ran.fault asked files_are r.are after'.headline refl (r.file, r.file_is, refl) r.puts
    after'.end_is after'.name_is after'.journal_is after'.clients_are (after'.frames_are ∙ r.frames_are)
clips_end asked files_are (inr none) = unbegun_ends asked files_are none

-- the work of a capture: the film is behind the files of the run

pub film_ends : {name : List ℕ} {region : Region} {old mid new : StoreModel} {s : Setup} {w : Worked}
    → mid ≡ asking_all old (reads (Capture name region) s) → AreAllFiles (Capture name region) old.files s
    → is_outside_of (Capture name region) s.config ≡ false → PerformedFilmed region mid s new w
    → Ends (Capture name region) old new w
film_ends {region = region} {s = s} asked files_are inside (inl after') =
    let r = after'.has_run in
    run_ends ((film_name, film_of region s.config (pictures_in r.are)) ∷ []) after'.ran.fault asked files_are r.are
    after'.headline inside refl r.puts after'.end_is after'.name_is after'.journal_is after'.clients_are
    (after'.frames_are ∙ r.frames_are)
film_ends asked files_are inside (inr none) = unbegun_ends asked files_are none
