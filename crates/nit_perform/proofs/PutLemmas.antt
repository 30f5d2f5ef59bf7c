-- What files that are put one after the other leave: all were put; or those before one, which was refused.
use Rattle.std.proofs.Common.{Bool, Err, List, None, Ok, Option, Result, Some, [], ap, append_assoc}
use Rattle.std.proofs.Common.{arith, false, inl, inr, length, map, not, refl, rules, suc, sym, true}
use Rattle.std.proofs.Common.{zero, zero-add, ℕ, ◌++◌, ◌+◌, ◌<◌, ◌^◌, ◌∙◌, ◌∷◌, ◌≡◌, ◌≢◌, ◌≤◌}
use Rattle.nit_perform.proofs.Basics.{AfterPut, AllByRecursion, AskedAtMost, CaptureModel, File}
use Rattle.nit_perform.proofs.Basics.{HasFilmed, HasRun, IsAscii-append, IsAscii-decimal, IsFilmOf}
use Rattle.nit_perform.proofs.Basics.{IsNearPicture, IsPut, IsUtf8, IsUtf8-from_ascii, Numbered}
use Rattle.nit_perform.proofs.Basics.{OtherThan, PutEach, PutError, PutFault, PutFiles, PutIn}
use Rattle.nit_perform.proofs.Basics.{PutRefusal, PutState, PutsAll, PutsFile, PutsNext, Ran}
use Rattle.nit_perform.proofs.Basics.{Region, Setup, StoreModel, WriteFaulted, all_append}
use Rattle.nit_perform.proofs.Basics.{also_more, and_parts, append-nil, asking_all, asking_none}
use Rattle.nit_perform.proofs.Basics.{begun_of, bytes_of, bytes_under, cases_Bool, codes}
use Rattle.nit_perform.proofs.Basics.{cropped_bytes, decimal, events_files, events_name, file_at}
use Rattle.nit_perform.proofs.Basics.{film_header, film_name, film_of, final_name, final_picture}
use Rattle.nit_perform.proofs.Basics.{first_state, is_label, is_label_byte, is_some, journal_file}
use Rattle.nit_perform.proofs.Basics.{last_of, later_shots, list_all, map-range_with_len_more}
use Rattle.nit_perform.proofs.Basics.{map_push, nat_tests, next_record, none_behind, numbered}
use Rattle.nit_perform.proofs.Basics.{other_both, other_letter, output_name, picture_names}
use Rattle.nit_perform.proofs.Basics.{pictures_in, put_state_of_run, puts_more, range_with_len}
use Rattle.nit_perform.proofs.Basics.{record_of, records, refusal_by, same_Some, script_name}
use Rattle.nit_perform.proofs.Basics.{shot_name, shots, shots_apart, slice_index, stays}
use Rattle.nit_perform.proofs.Basics.{texts_other, unrefused, with_asked, with_last, with_texts}
use Rattle.nit_store.specs.declared.store.PutError.TheVariants as put

-- these files were put
pub record PutAll (old : StoreModel) (files : List File) (new : StoreModel) : Type 0 where
  pub rest : new ≡ record (asking_all old (map (λ f. f.0) files)) { files = new.files }
  pub put : PutFiles files old.files new.files

-- what a put under this name leaves that was refused so
abbrev pub PutRefused : StoreModel → List ℕ → StoreModel → PutError → Type 0
PutRefused old name new put.Failed = WriteFaulted (with_asked old name) new
PutRefused old name new put.NoMemory = AskedAtMost old name new

-- the files before one of them were put, and that one was refused
pub record PutUntil (old : StoreModel) (files : List File) (new : StoreModel) (r : PutRefusal) : Type 0 where
  pub front : List File
  pub bytes : List ℕ
  pub back : List File
  pub parts : files ≡ front ++ (r.name, bytes) ∷ back
  pub mid : StoreModel
  pub put : PutAll old front mid
  pub refused : PutRefused mid r.name new r.error

-- all files were put; or those before one, which was refused
abbrev pub PutSo : StoreModel → List File → StoreModel → Option PutRefusal → Type 0
PutSo old files new None = PutAll old files new
PutSo old files new (Some r) = PutUntil old files new r

-- ---- one more file

each_more : (files : List File) (f : File) (old mid new : List File) → PutEach files old mid → IsPut f.0 f.1 mid new
    → PutEach (files ++ f ∷ []) old new
each_more [] f old mid new h p = (new, rw h at p, refl)
each_more (g ∷ files) f old mid new h p = (h.0, h.1, each_more files f h.0 mid new h.2 p)

files_more : (files : List File) (f : File) (old mid new : Option (List File)) → PutFiles files old mid
    → PutIn f.0 f.1 mid new → PutFiles (files ++ f ∷ []) old new
files_more files f None mid new none p = rw none at p
files_more files f (Some o) mid new (all, is, each) p =
    let q = rw is at p in (q.0, q.1, each_more files f o all q.0 each q.2)

as_refused : (mid : StoreModel) (name bytes : List ℕ) (new : StoreModel) (error : PutError)
    → AfterPut {T = Unit {0}} mid name bytes new (Err error) → PutRefused mid name new error
as_refused mid name bytes new put.Failed h = h
as_refused mid name bytes new put.NoMemory h = h

-- ---- all files

-- a file is put, and then the rest; or it is refused, and the rest is not tried
rest_put : (files done : List File) (first : StoreModel) (old new : PutState) → old.refused ≡ None
    → PutAll first done old.shown → PutsAll files old new → PutSo first (done ++ files) new.shown new.refused
rest_put [] done first old new calm puts same = rw (same, calm, append-nil done) puts
rest_put (f ∷ files) done first old new calm puts (mid, next, rest) =
    let p = rw calm at next in
    by_outcome p.answer p.put p.kept (λ still more. rest_put files (done ++ f ∷ []) first mid new still more rest)
  where
    by_outcome : (answer : Result (Unit {0}) PutError) → AfterPut old.shown f.0 f.1 mid.shown answer
        → mid.refused ≡ refusal_by f.0 answer
        → (mid.refused ≡ None → PutAll first (done ++ f ∷ []) mid.shown
        → PutSo first ((done ++ f ∷ []) ++ files) new.shown new.refused)
        → PutSo first (done ++ f ∷ files) new.shown new.refused
    by_outcome (Ok x) put is more = rw (← append_assoc done (f ∷ []) files) (more is (record {
      rest = rw (map_push, put.0, puts.rest, also_more first.asked (map (λ (g : File). g.0) done) (f.0 ∷ []));
      put = files_more done f first.files old.shown.files mid.shown.files puts.put put.1;
    }))
    by_outcome (Err e) put is more =
        let r : PutRefusal = record { name = f.0; error = e } in
        rw (none_behind files mid new r is rest, is) (record {
          front = done;
          bytes = f.1;
          back = files;
          parts = refl;
          mid = old.shown;
          put = puts;
          refused = as_refused old.shown f.0 f.1 mid.shown e put;
        })

pub all_put : (first : StoreModel) (files : List File) (new : PutState) → PutsAll files (unrefused first) new
    → PutSo first files new.shown new.refused
all_put first files new puts = rest_put files [] first (unrefused first) new refl
    (record { rest = asking_none first; put = same first.files }) puts
  where
    same : (told : Option (List File)) → PutFiles [] told told
    same None = refl
    same (Some told) = (told, refl, refl)

-- ---- one put of a run

pub none_is : (o : Option PutFault) → is_some o ≡ false → o ≡ None
none_is None e = refl
none_is (Some x) e = absurd cc

-- where a put was refused before, nothing changes
pub next_stays : (shown : StoreModel) (f : File) (fault : Option PutFault) → is_some fault ≡ true
    → PutsNext f (put_state_of_run shown fault) (put_state_of_run shown fault)
next_stays shown f None e = absurd cc
next_stays shown f (Some fault) e = refl

-- where none was, the file is put
pub next_goes : (f : File) (old : StoreModel) (fault : Option PutFault) (new : PutState) → is_some fault ≡ false
    → PutsFile f (put_state_of_run old None) new → PutsNext f (put_state_of_run old fault) new
next_goes f old fault new e puts = rw (none_is fault e) puts

-- where memory runs out for the text, nothing is put
pub no_put : (f : File) (old : StoreModel) (now : PutFault) → output_name now.file ≡ f.0 → now.error ≡ put.NoMemory
    → PutsFile f (unrefused old) (put_state_of_run old (Some now))
no_put f old now named is = record { answer = Err put.NoMemory; put = inr refl; kept = rw (named, is) }

-- ---- files that are made, put one after the other

pub one_file_more : (make : ℕ → File) (k : ℕ) {file : File} (old mid new : PutState) → file ≡ make k
    → PutsAll (map make (range_with_len 0 k)) old mid → PutsNext file mid new
    → PutsAll (map make (range_with_len 0 (k + 1))) old new
one_file_more make k old mid new is puts next = rw (map-range_with_len_more make 0 k k (zero-add k))
    (puts_more (map make (range_with_len 0 k)) (make k) old mid new puts (rw is at next))

-- The film that a store has made is that of the files that were put.

-- ---- what files have at the end

put_stays : (f : File) (files : List File) (old new : List File) → PutEach (f ∷ files) old new → OtherThan f.0 files
    → bytes_of f.0 new ≡ f.1
put_stays f files old new (mid, p, puts) other = rw (stays files f.0 mid new puts other, p.this)

-- the files behind some of those that were put
behind : (front files old new : List File) → PutEach (front ++ files) old new
    → (mid : List File) × PutEach files mid new
behind [] files old new puts = (old, puts)
behind (f ∷ front) files old new (mid, p, puts) = behind front files mid new puts

-- none of these files has the name of a shot
abbrev NoShots : List File → Type 0
NoShots files = (n : ℕ) → OtherThan (shot_name n) files

-- the files of shots have their bytes at the end
shots_under : (first : ℕ) (files rest : List File) (old new : List File) → first + length files < 2 ^ 64
    → Numbered first files → NoShots rest → PutEach (files ++ rest) old new
    → bytes_under new (map shot_name (range_with_len first (length files))) ≡ map (λ f. f.1) files
shots_under first [] rest old new few is none puts = refl
shots_under first (f ∷ files) rest old new few is none puts =
    let other : OtherThan f.0 (files ++ rest) =
    rw (← is.0) at (other_both (shot_name first) files rest
    (later_shots first (first + 1) files (omega arith) (omega arith) is.1) (none first)) in
    rw (← is.0, put_stays f (files ++ rest) old new puts other)
    (rw (shots_under (first + 1) files rest puts.0 new (omega arith) is.1 none puts.2))

-- ---- the put of the film

-- a put of bytes is that of others, where they are the same or the store tells no files
same_put : (name a b : List ℕ) (old : StoreModel) (fault : Option PutFault) (new : PutState)
    → (fault ≡ None → (files : List File) → old.files ≡ Some files → a ≡ b)
    → PutsNext (name, a) (put_state_of_run old fault) new → PutsNext (name, b) (put_state_of_run old fault) new
same_put name a b old (Some f) new same next = next
same_put name a b old None new same next =
    record { answer = next.answer; put = after next.answer next.put; kept = next.kept }
  where
    put_in : (o p : Option (List File)) → ((files : List File) → o ≡ Some files → a ≡ b) → PutIn name a o p
        → PutIn name b o p
    put_in None p equal put = put
    put_in (Some files) p equal put = rw (equal files refl) at put

    after : (r : Result (Unit {0}) PutError) → AfterPut old name a new.shown r → AfterPut old name b new.shown r
    after (Ok x) h = (h.0, put_in old.files new.shown.files (same refl) h.1)
    after (Err put.Failed) h = h
    after (Err put.NoMemory) h = h

-- ---- a run that was filmed

told_each : (outputs outputs' : List File) (old : Option (List File)) (files : List File) (new : Option (List File))
    → outputs ≡ outputs' → PutFiles outputs old new → new ≡ Some files
    → (first : List File) × PutEach outputs' first files
told_each outputs outputs' None files new is h told = absurd cc
told_each outputs outputs' (Some first) files new is h told =
    (first, rw (same_Some h.0 files (sym h.1 ∙ told), is) at h.2)

-- What is known when a run through the store of a film has ended: whether the film is whole, that it is then
-- that of the files, and what its put leaves.
pub record IsFilmEnd (region : Region) (s : Setup) (begun now : CaptureModel) (count : ℕ) (ended whole is_whole : Bool)
    (bytes : List ℕ) (mid new : StoreModel) (frames : ℕ) (fault fault' : Option PutFault) : Type 0 where
  pub begun_is : begun ≡ begun_of region s.config
  pub film : IsFilmOf whole begun now (picture_names count ended) mid.files bytes
  pub whole_is : is_whole ≡ true → whole ≡ true
  pub ended_is : is_whole ≡ true → ended ≡ true
  pub all_shots : is_whole ≡ true → count + 1 ≡ frames
  pub few : count ≤ 4294967295
  pub put : is_whole ≡ true → PutsNext (film_name, bytes ++ 0 ∷ []) (put_state_of_run mid fault)
      (put_state_of_run new fault')
  pub not_put : is_whole ≡ false → (other : List ℕ)
      → PutsNext (film_name, other) (put_state_of_run mid fault) (put_state_of_run new fault')

module _ {region : Region} {s : Setup} {begun now : CaptureModel} {count : ℕ} {ended whole is_whole : Bool}
    {bytes : List ℕ} {old mid new : StoreModel} {ran : Ran} {fault' : Option PutFault} (r : HasRun old s mid ran)
    (e : IsFilmEnd region s begun now count ended whole is_whole bytes mid new ran.frames ran.fault fault')
    (texts : s.texts ≡ true) (beside : s.beside ≡ true) (made : s.made ≡ []) where
  abbrev film : List ℕ
  film = film_of region s.config (pictures_in r.are)

  -- a film that has taken the pictures under their names is that of the run's, with its end
  is_film : is_whole ≡ true → ran.fault ≡ None → (files : List File) → mid.files ≡ Some files → bytes ++ 0 ∷ [] ≡ film
  is_film so none files told =
      let journal = ran.journal.items in
      let c = begun_of region s.config in
      let words : List File = events_files s.config journal ++ journal_file journal ∷ [] in
      let last : List File = (final_name, final_picture s journal) ∷ words in
      let each = told_each r.outputs (r.are.0 ++ last) old.files files mid.files
      (rw (r.are.2, made, with_texts s journal texts))
      (rw none at (all_put old r.outputs (put_state_of_run mid ran.fault) r.puts)).put told in
      let b = behind r.are.0 last each.0 files each.1 in
      let counted = numbered (IsNearPicture s.config s.scripts s.input) (first_state s.config) 0 [] journal r.are.0
      r.journal.legal (r.are.1.beside beside) in
      let count_is : count ≡ length r.are.0 = omega (arith, e.all_shots so, counted.1) in
      let none : NoShots last = λ n. other_letter (shot_name n) 115 last refl
      ((λ e. omega arith), texts_other s.config journal 115 (λ e. omega arith) (λ e. omega arith)) in
      let front = shots_under 1 r.are.0 last each.0 files (omega arith) counted.0 none each.1 in
      let final = put_stays (final_name, final_picture s journal) words b.0 files b.1 (other_letter final_name 102 words
      refl (texts_other s.config journal 102 (λ e. omega arith) (λ e. omega arith))) in
      let shown : bytes_under files (picture_names count true) ≡ pictures_in r.are =
      rw (count_is, map_push, front, final) in
      let taken = rw (e.ended_is so, shown, e.begun_is) at (e.film (e.whole_is so) files told) in
      rw taken.bytes_are (append_assoc (film_header region.w region.h)
      (records region.w region.h c.before (map (cropped_bytes c) (pictures_in r.are))) (0 ∷ []))

  pub film_leaves : HasFilmed region old s new ran.journal.items ran.frames fault'
  film_leaves = record {
    is_journal = r.journal;
    frames_are = r.frames;
    outputs = r.outputs;
    are = r.are;
    puts = puts_more r.outputs (film_name, film) (unrefused old) (put_state_of_run mid ran.fault)
        (put_state_of_run new fault') r.puts (elim (cases_Bool is_whole) [
          | inl so ↦ same_put film_name (bytes ++ 0 ∷ []) film mid ran.fault (put_state_of_run new fault') (is_film so)
              (e.put so)
          | inr not ↦ e.not_put not film
        ]);
  }

-- ---- the pictures of a film, and the files under their names

-- what holds of the names of so many shots holds of all of them
all_shots : (P : List ℕ → Type 0) (first count : ℕ) → ((k : ℕ) → first ≤ k → k < first + count → P (shot_name k))
    → AllByRecursion P (map shot_name (range_with_len first count))
all_shots P first zero each = tt
all_shots P first (suc count) each = (
  each first (omega arith) (omega arith),
  all_shots P (first + 1) count (λ k low high. each k (omega arith) (omega arith)),
)

-- and what holds of the last picture's too, if that was taken
all_names : (P : List ℕ → Type 0) (count : ℕ) (ended : Bool) → ((k : ℕ) → 1 ≤ k → k < 1 + count → P (shot_name k))
    → (ended ≡ true → P final_name) → AllByRecursion P (picture_names count ended)
all_names P count true each last = all_append P (map shot_name (range_with_len 1 count)) (final_name ∷ [])
    (all_shots P 1 count each) (last refl, tt)
all_names P count false each last = rw append-nil (all_shots P 1 count each)

pub one_shot_more : (count : ℕ) → picture_names (count + 1) false ≡ picture_names count false ++ shot_name (count + 1)
    ∷ []
one_shot_more count =
    rw (append-nil, append-nil, map-range_with_len_more shot_name 1 count (count + 1) (omega arith))

pub last_more : (count : ℕ) → picture_names count true ≡ picture_names count false ++ final_name ∷ []
last_more count = rw append-nil

-- ---- files

-- where other names have the same bytes
under_same : (name : List ℕ) (old new : List File) (names : List (List ℕ))
    → ((n : List ℕ) → n ≢ name → file_at n new ≡ file_at n old) → AllByRecursion (λ n. n ≢ name) names
    → bytes_under new names ≡ bytes_under old names
under_same name old new [] others apart = refl
under_same name old new (n ∷ names) others apart =
    rw (others n apart.0, under_same name old new names others apart.1)

-- a put adds its bytes behind those under other names
put_more : (name bytes : List ℕ) (old new : List File) (names : List (List ℕ)) → IsPut name bytes old new
    → AllByRecursion (λ n. n ≢ name) names → bytes_under new (names ++ name ∷ []) ≡ bytes_under old names ++ bytes ∷ []
put_more name bytes old new names p apart = rw (map_push, under_same name old new names p.others apart, p.this)

-- ---- what a capture has taken

records_more : (w h : ℕ) (before : List ℕ) (pictures : List (List ℕ)) (now : List ℕ)
    → records w h before (pictures ++ now ∷ []) ≡ records w h before pictures ++ record_of w h (last_of before pictures)
    now
records_more w h before [] now = append-nil (record_of w h before now)
records_more w h before (p ∷ pictures) now =
    rw (records_more w h p pictures now)
    (rw (← append_assoc (record_of w h before p) (records w h p pictures) (record_of w h (last_of p pictures) now)))

last_is : (before : List ℕ) (pictures : List (List ℕ)) (now : List ℕ) → last_of before (pictures ++ now ∷ []) ≡ now
last_is before [] now = refl
last_is before (p ∷ pictures) now = last_is p pictures now

-- ---- the film of a store

-- a put that was done, where files are told
put_told : (name bytes : List ℕ) (old new : Option (List File)) (files : List File) → PutIn name bytes old new
    → new ≡ Some files → (before : List File) × (old ≡ Some before) × IsPut name bytes before files
put_told name bytes None new files p told = absurd cc
put_told name bytes (Some old) new files p told = (old, refl, rw (same_Some p.0 files (sym p.1 ∙ told)) at p.2)

-- a put under another name leaves the film that of the files
pub film_stays : {T : Type 0} (whole : Bool) (begun now : CaptureModel) (names : List (List ℕ)) (bytes : List ℕ)
    (old new : StoreModel) (name text : List ℕ) (r : Result T PutError) → AllByRecursion (λ n. n ≢ name) names
    → AfterPut old name text new r
    → IsFilmOf whole begun now names old.files bytes → IsFilmOf whole begun now names new.files bytes
film_stays whole begun now names bytes old new name text (Ok x) apart h film is files told =
    let p = put_told name text old.files new.files files h.1 told in
    rw (← under_same name p.0 files names p.2.others apart) at (film is p.0 p.1)
film_stays whole begun now names bytes old new name text (Err put.Failed) apart h film is files told =
    film is files (rw h.rest at told)
film_stays whole begun now names bytes old new name text (Err put.NoMemory) apart h film is files told =
    film is files (elim h [ inl e ↦ rw e at told | inr e ↦ rw e at told ])

-- a picture that was put and added makes it that of the files with the next name
pub film_grows : (begun : CaptureModel) {now next : CaptureModel} (names : List (List ℕ)) {names' : List (List ℕ)}
    (bytes : List ℕ) {more : List ℕ} (old new : Option (List File)) (name ppm : List ℕ)
    → AllByRecursion (λ n. n ≢ name) names → PutIn name ppm old new
    → now ≡ with_last begun now.before → next ≡ with_last now (cropped_bytes now ppm)
    → more ≡ bytes ++ next_record now (cropped_bytes now ppm) → IsFilmOf true begun now names old bytes
    → names' ≡ names ++ name ∷ [] → IsFilmOf true begun next names' new more
film_grows begun names bytes old new name ppm apart put same last is film then whole files told =
    let p = put_told name ppm old new files put told in
    let h = film refl p.0 p.1 in
    let cuts = map (cropped_bytes begun) (bytes_under p.0 names) in
    let here = cropped_bytes begun ppm in
    let before = last_of begun.before cuts in
    let w = begun.rect.w in
    let h' = begun.rect.h in
    rw (then, put_more name ppm p.0 files names p.2 apart) (record {
      last = rw (last, map_push, last_is begun.before cuts here, same);
      bytes_are = rw (is, h.bytes_are, map_push, records_more w h' begun.before cuts here)
          (rw (← append_assoc (film_header w h') (records w h' begun.before cuts) (record_of w h' before here))
          (rw (h.last, same)));
    })

-- the names of shots differ from that of the last picture, and from that of a later shot
pub before_shot : (count : ℕ) → count < 65536
    → AllByRecursion (λ n. n ≢ shot_name (count + 1)) (picture_names count false)
before_shot count few = all_names (λ n. n ≢ shot_name (count + 1)) count false
    (λ k low high same. omega (arith, shots_apart k (count + 1) (omega arith) (omega arith) same)) (λ ended. absurd cc)

pub before_last : (count : ℕ) → AllByRecursion (λ n. n ≢ final_name) (picture_names count false)
before_last count = all_names (λ n. n ≢ final_name) count false
    (λ k low high same. let e : ◌≡◌ {A = ℕ} 115 102 = ap (λ (bytes : List ℕ). slice_index bytes 0) same in omega arith)
    (λ ended. absurd cc)

-- a name that is none of a picture is none of those of a film
pub other_names : (name : List ℕ) (is_picture : Bool) (count : ℕ) (ended : Bool) → is_picture ≡ false
    → ((n : ℕ) → name ≡ shot_name n → is_picture ≡ true) → (name ≡ final_name → is_picture ≡ true)
    → AllByRecursion (λ n. n ≢ name) (picture_names count ended)
other_names name is_picture count ended none shots last = all_names (λ n. n ≢ name) count ended
    (λ k low inside same. let yes = shots k (sym same) in cc) (λ is same. let yes = last (sym same) in cc)
