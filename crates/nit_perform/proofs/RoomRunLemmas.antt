-- A run whose clients are beside each other: its beginning, and what it leaves.
use Rattle.std.proofs.Common.{List, Option, Result, Some, [], append_assoc, arith, false, inl, inr}
use Rattle.std.proofs.Common.{length, map, refl, suc, take, true, zero, ℕ, ◌++◌, ◌+◌, ◌<◌, ◌∙◌, ◌∷◌}
use Rattle.std.proofs.Common.{◌≡◌}
use Rattle.nit_perform.proofs.Basics.{All, All-from_recursion, All-map, AreAllDone, AreDone}
use Rattle.nit_perform.proofs.Basics.{AreDoneClips, AreFirstClipPasses, AreRoundsOf, Bare, Belongs}
use Rattle.nit_perform.proofs.Basics.{ClipLine, ClipPassModel, ClipRole, Configuration, Desk, End}
use Rattle.nit_perform.proofs.Basics.{Entry, Global, HasEnded, HasRun, HasRunClips, IfOk, InputLine}
use Rattle.nit_perform.proofs.Basics.{IsAlone, IsClipListText, IsDoneClip, IsKnownWhole, IsLegal}
use Rattle.nit_perform.proofs.Basics.{IsNearPicture, IsOpen, IsOpening, IsPairIn, IsPictureAmong}
use Rattle.nit_perform.proofs.Basics.{IsReady, IsReadyAlone, IsReadyWithClips, IsRunOf, IsRunnable}
use Rattle.nit_perform.proofs.Basics.{IsSetting, IsWhole, Line, NoMemory, OpeningParts, Pair}
use Rattle.nit_perform.proofs.Basics.{PairRole, PassModel, PixelSource, PlanModel, PutFault}
use Rattle.nit_perform.proofs.Basics.{PutsAll, PutsNext, PutsShotsBehind, Ran, Role, RoomModel}
use Rattle.nit_perform.proofs.Basics.{SceneModel, Setup, ShotsBehind, State, StoreModel}
use Rattle.nit_perform.proofs.Basics.{UserBelongs, UserOnce, UserPassModel, UserRole, Vec}
use Rattle.nit_perform.proofs.Basics.{actions_done, actions_of-append, among_more, ap, append-nil}
use Rattle.nit_perform.proofs.Basics.{append_cancel_left, calls_to_make, clip_number, clip_phases}
use Rattle.nit_perform.proofs.Basics.{clip_role_of, clip_text, clips_name, clips_setup}
use Rattle.nit_perform.proofs.Basics.{clips_setup_in, count_by, events_files, files_both}
use Rattle.nit_perform.proofs.Basics.{final_picture, first_clip_pass, first_state, fits_belongs}
use Rattle.nit_perform.proofs.Basics.{frame, get_or_from_slice_get, idle_user, input_phases}
use Rattle.nit_perform.proofs.Basics.{is_phase, journal_file, left_word, length-map, no_files}
use Rattle.nit_perform.proofs.Basics.{no_picture, no_shots, one_history, pair_role_of, phases}
use Rattle.nit_perform.proofs.Basics.{picture, pixel_count, put_state_at, put_state_of_run}
use Rattle.nit_perform.proofs.Basics.{puts_more, range_with_len, raw_words, replay, role_at}
use Rattle.nit_perform.proofs.Basics.{role_of, roles_fit, roles_long, rounds, same_Some}
use Rattle.nit_perform.proofs.Basics.{same_throughout, scenery_of, setup_of, shots, shots_along}
use Rattle.nit_perform.proofs.Basics.{slice_get, slice_get-get_or, slice_get-map, slice_get_within}
use Rattle.nit_perform.proofs.Basics.{slice_index_or, source_at, subst, sym, tables_left, take_all}
use Rattle.nit_perform.proofs.Basics.{unrefused, user_actions_in, user_actions_of}
use Rattle.nit_perform.proofs.Basics.{user_actions_to_do, user_role_of, with_clip_scripts}
use Rattle.nit_perform.proofs.Basics.{word_from, words_left_in}
use Rattle.nit_perform.proofs.RunLemmas.{OneMore, has_run}
use mathlib.Core.List.{IsPrefix}
use Rattle.nit_events.specs.declared.entry.Entry.TheVariants as entry

-- the setup of an opening, as it runs
abbrev pub setup_in : OpeningParts → Setup
setup_in parts = setup_of parts.config parts.scripts parts.input true true

-- what holds of all elements by their numbers, and of one more
pub all_push : {X : Type 0} (P : ℕ → X → Type 0) (xs : List X) (x : X)
    → ((k : ℕ) (y : X) → slice_get xs k ≡ Some y → P k y)
    → P (length xs) x → (k : ℕ) (y : X) → slice_get (xs ++ x ∷ []) k ≡ Some y → P k y
all_push P [] x all here zero y at = rw (← same_Some x y at) here
all_push P [] x all here (suc k) y at = absurd cc
all_push P (z ∷ xs) x all here zero y at = all zero y at
all_push P (z ∷ xs) x all here (suc k) y at = all_push (λ n. P (suc n)) xs x (λ n. all (suc n)) here k y at

-- ---- the beginning

abbrev pass_of : Pair → PassModel
pass_of b = b.pass

abbrev clip_of : Pair → ClipPassModel
clip_of b = b.clip

module _ {config : Configuration} {scripts : List (List Line)} {plans : List PlanModel} {input : List InputLine}
    {canvases : List End} {r : RoomModel} {ps : List PassModel} {u : UserPassModel}
    (o : IsOpening config scripts plans input canvases r ps u) (s : IsSetting config scripts plans) where
  -- the pass of this number belongs to the opening
  pub first_belongs : (k : ℕ) (p : PassModel) → slice_get ps k ≡ Some p → Belongs r.parts p
  first_belongs k p at =
      let first = o.passes k p at in
      let inside : k < length scripts = omega (arith, slice_get_within ps k p at) in
      rw (first.2, o.room.parts_are) (record {
        name = refl;
        script = slice_get-get_or scripts k [] inside;
        plan = slice_get-get_or plans k _ (omega arith);
        donation = refl;
        buffer = rw (slice_get-map, first.1);
      })

  pub is_ready : IsReady r.parts r ps u
  is_ready = record {
    parts_are = refl;
    open_now = rw o.room.entries tt;
    clients = rw o.room.parts_are s.sessions;
    each = rw o.room.parts_are o.each;
    belong = λ k d inside. first_belongs k (slice_index_or ps k d) (slice_get-get_or ps k d inside);
    numbers = λ k p at. rw (o.passes k p at).2;
    user_belongs = rw o.user (record { number = refl; name = refl; input = refl });
    fresh = rw o.user;
  }

  -- and so is that of one client whose user does nothing
  pub is_ready_alone : IsAlone scripts input → IsReadyAlone r.parts r ps u
  is_ready_alone (script, one, quiet) = record {
    ready = is_ready;
    alone = rw o.room.parts_are (script, one, quiet);
    one_client = rw (o.room.parts_are, ← s.sessions, one);
    step = λ p at.
        let first = (o.passes 0 p at).2 in
        record {
          one = rw (o.room.parts_are, one);
          belongs = first_belongs 0 p at;
          user_belongs = is_ready.user_belongs;
          phase = rw (first, o.room.phase.0);
          user_phase = rw (o.user, o.room.phase.0);
          arrived = o.room.phase.1;
          idle = rw (o.user, first, o.room.parts_are, one, quiet);
        };
  }

  -- and that of a run with clip scripts
  module _ (clips : List (List ClipLine)) (runnable : IsRunnable (clips_setup config scripts input clips))
      (each : length clips ≡ length scripts) (pairs : List Pair) (passes_are : map (λ (b : Pair). b.pass) pairs ≡ ps)
      (first : AreFirstClipPasses (with_clip_scripts r clips).parts (map (λ (b : Pair). b.clip) pairs)) where
    abbrev parts : OpeningParts
    parts = (with_clip_scripts r clips).parts

    -- the two passes of this number go together
    pair_in : (k : ℕ) (b : Pair) → slice_get ps k ≡ Some b.pass → slice_get (map clip_of pairs) k ≡ Some b.clip
        → IsPairIn parts b.pass b.clip
    pair_in k b pass_at clip_at =
        let pass_is = (o.passes k b.pass pass_at).2 in
        let clip_is : b.clip ≡ first_clip_pass parts k = first.first k b.clip clip_at in
        let inside : k < length scripts = omega (arith, slice_get_within ps k b.pass pass_at) in
        let wanted = input_phases input in
        let phases_are : clip_phases (slice_index_or clips k []) ≡ phases (slice_index_or scripts k []) =
        elim runnable.clips_each [
          | inl none ↦ absurd (omega (arith, rw none at each))
          | inr of ↦ rw (All-from_recursion (λ ls. clip_phases ls ≡ wanted) clips of.1 k [] (rw each inside))
              (rw (All-from_recursion (λ ls. phases ls ≡ wanted) scripts runnable.phases k [] inside))
        ] in
        record {
          pass = assumption (first_belongs k b.pass pass_at);
          clip = rw clip_is
              (record { name = refl; script = slice_get-get_or clips k [] (rw each inside); number = refl });
          together = record {
            now = record { client = rw (pass_is, clip_is); phase = rw (pass_is, clip_is) };
            phases_each = rw (pass_is, clip_is, o.room.parts_are) phases_are;
          };
        }

    -- the room with these clip scripts is ready, with the passes and the user's pass that it had
    pub opened_ready : IsReadyWithClips parts (with_clip_scripts r clips) pairs u
    opened_ready =
        let belong : All (Belongs parts) ps = λ k d inside. assumption (is_ready.belong k d inside) in
        record {
          ready = rw passes_are (assumption (belong, is_ready));
          each = rw (← length-map pairs pass_of, passes_are) is_ready.each;
          clips_each = rw o.room.parts_are each;
          pairs_in = λ k d inside. pair_in k (slice_index_or pairs k d)
              (rw (← passes_are, slice_get-map, slice_get-get_or pairs k d inside))
              (rw (slice_get-map, slice_get-get_or pairs k d inside));
        }

-- ---- the passes come back done

pub all_done : {parts : OpeningParts} {r : RoomModel} {ps : List PassModel} {u : UserPassModel} (qs : List PassModel)
    → IsReady parts r ps u → map (λ (q : PassModel). role_of q) qs ≡ map (λ (q : PassModel). role_of q) ps
    → All (λ (p : PassModel). p.next ≡ length p.script) qs → AreDone parts qs
all_done {parts = parts} {ps = ps} qs ready same ended = record {
  each = roles_long qs ps same ∙ ready.each;
  done_all = λ k p at.
      let inside = slice_get_within qs k p at in
      let there : k < length ps = omega (arith, roles_long qs ps same) in
      let is = get_or_from_slice_get qs k p p at in
      let role : role_of (slice_index_or ps k p) ≡ role_of p = rw (role_at ps k p, ← same, ← role_at qs k p, is) in
      let number = ready.numbers k (slice_index_or ps k p) (slice_get-get_or ps k p there) in
      record {
        belongs = fits_belongs parts p (rw role at (roles_fit parts ps ready.belong k p there));
        number = rw (← ap (λ (x : Role). x.sid) role) number;
        ended = rw is at (ended k p inside);
      };
}

-- and so does the user's
pub are_all_done : {parts : OpeningParts} {r : RoomModel} {ps : List PassModel} {u v : UserPassModel}
    → r.parts ≡ parts → IsOpen r.scene.entries → AreDone parts ps → UserBelongs parts u
    → user_role_of v ≡ user_role_of u → v.next ≡ length v.input → AreAllDone r ps v
are_all_done is unended done belongs same ended = record {
  clients_done = rw is done;
  user_done = rw is (record {
    belongs = record {
      number = ap (λ (x : UserRole). x.number) same ∙ belongs.number;
      name = ap (λ (x : UserRole). x.name) same ∙ belongs.name;
      input = ap (λ (x : UserRole). x.input) same ∙ belongs.input;
    };
    ended = ended;
  });
  unended = unended;
}

-- ---- what the user knows

pub known_whole : (scripts : List (List Line)) (input : List InputLine) (next : ℕ)
    (known : List Entry) {entries journal : List Entry} → IsPrefix known entries → journal ≡ entries ++ entry.Final ∷ []
    → user_actions_of known ≡ user_actions_in (take next input) → next ≡ length input
    → IsWhole (map calls_to_make scripts) (user_actions_to_do input) journal → IsKnownWhole known journal
known_whole scripts input next known {journal = journal} (more, front) ended is all whole =
    let rest = more ++ entry.Final ∷ [] in
    let parts : journal ≡ known ++ rest = rw (ended, ← front, append_assoc) in
    let same : user_actions_of known ≡ user_actions_of journal =
    rw (is, take_all next input (omega arith), actions_done 0 input, whole.actions) in
    let none = append_cancel_left (user_actions_of known) (user_actions_of rest) []
    (rw (append-nil (user_actions_of known), ← actions_of-append known rest, ← parts, same)) in
    (rest, parts, none)

-- ---- the last picture

words_are : (config : Configuration) (scripts : List (List Line)) (s : State)
    → words_left_in config scripts s ≡ raw_words s (tables_left config scripts)
words_are config scripts s = λ j. map (λ (k : ℕ). word_is (source_at s k) j) (range_with_len 0 (pixel_count s))
  where
    word_is : (source : PixelSource) → left_word config scripts source ≡ word_from (tables_left config scripts) source
    word_is Bare = refl
    word_is other = refl

-- what the room shows at its end is the last picture of the whole journal
pub last_is : OneMore → (parts : OpeningParts) (config : Configuration) (entries : List Entry) {journal : List Entry}
    {size : ℕ × ℕ} {out : List ℕ} → config ≡ parts.config → size ≡ (parts.config.width, parts.config.height)
    → journal ≡ entries ++ entry.Final ∷ []
    → out ≡ frame (scenery_of (replay config entries))
    (words_left_in parts.config parts.scripts (replay config entries))
    → picture size.0 size.1 out ≡ final_picture (setup_in parts) journal
last_is more parts config entries same sized ended shown =
    rw (sized, shown, words_are parts.config parts.scripts (replay config entries), same, ended)
    (rw (more (first_state parts.config) entries entry.Final, same_throughout parts.config entries))

-- ---- the run

module _ {S : Type 0} {shown : S → StoreModel} {parts : OpeningParts} {known known' : List Entry}
    {raws : List (List ℕ)} {first new : StoreModel} {scene : SceneModel End} {desk left : Desk S} {ran : Ran}
    (none : known ≡ [])
    (puts : PutsShotsBehind parts known known' raws (unrefused first) (put_state_at shown desk))
    (ended : HasEnded shown parts known' raws scene desk left)
    (texts : PutsAll (events_files scene.config scene.entries ++ journal_file scene.entries ∷ [])
    (put_state_at shown left) (put_state_of_run new ran.fault))
    (is : ran.journal.items ≡ scene.entries) (frames : ran.frames ≡ shots scene.entries + 1) where
  pub beside_leaves : HasRun first (setup_in parts) new ran
  beside_leaves =
      let journal = scene.entries in
      let h = ended.history in
      let Pic = IsPictureAmong raws parts.config parts.scripts parts.input in
      let seen : ShotsBehind Pic [] known' puts.files = rw (puts.grown, none) (rw none at puts.are) in
      let rest = ended.known.0 in
      let shown_all : ShotsBehind Pic [] journal puts.files =
      rw ended.known.1 (rw (append-nil puts.files) at (files_both Pic [] known' rest puts.files [] seen
      (no_files Pic known' rest (no_shots rest ended.known.2)))) in
      has_run {s = setup_in parts} puts.files (put_state_at shown desk) (put_state_at shown left) is refl
      (record { legal = ended.legal; whole = ended.whole; rounds = λ alone. absurd cc }) frames
      (record {
        by_rounds = λ alone. absurd cc;
        beside = λ by. shots_along _ (IsNearPicture parts.config parts.scripts parts.input) [] journal puts.files
            (λ front rest n bytes is pic. pic.0) shown_all;
        history = λ by. one_history parts.config parts.scripts parts.input h.entries journal h.all puts.files
            h.history h.ended (among_more parts [] journal puts.files raws h.all h.front shown_all);
      })
      puts.put ended.put (rw ended.config at texts)

-- A run of one client whose user does nothing: what it leaves.

-- what the law of one client says
abbrev pub OneClient : Type 0
OneClient = (config : Configuration) (script : List Line) (lines : List InputLine) (journal : List Entry)
    → length config.clients ≡ 1 → user_actions_to_do lines ≡ [] → IsLegal config journal
    → IsWhole (map calls_to_make (script ∷ [])) (user_actions_to_do lines) journal
    → (entries : List Entry) × AreRoundsOf entries (script ∷ []) lines × (journal ≡ entries ++ entry.Final ∷ [])

-- what holds of an opening holds of one that is equal
pub ended_as : {S : Type 0} {shown : S → StoreModel} {parts parts' : OpeningParts} {seen : List Entry}
    {raws : List (List ℕ)} {s : SceneModel End} {old new : Desk S} → parts ≡ parts'
    → HasEnded shown parts seen raws s old new → HasEnded shown parts' seen raws s old new
ended_as same ended = rw same at ended

pub alone_leaves : OneClient → ((lines : List Line) → user_actions_to_do (idle_user lines) ≡ []) → UserOnce
    → {S : Type 0} {shown : S → StoreModel} {parts : OpeningParts} {seen : List Entry} {raws : List (List ℕ)}
    {first new : StoreModel} {scene : SceneModel End} {desk left : Desk S} {fault : Option PutFault} {ran : Ran}
    → IsAlone parts.scripts parts.input → length parts.config.clients ≡ 1
    → HasEnded shown parts seen raws scene desk left
    → put_state_at shown desk ≡ unrefused first → put_state_of_run new fault ≡ put_state_at shown left
    → IsRunOf scene.entries fault ran
    → HasRun first (setup_of parts.config parts.scripts parts.input false false) new ran
alone_leaves one_client idle once {shown = shown} {parts = parts} {new = new} {scene = scene} {desk = desk} {ran = ran}
    (script, are, quiet) one ended begun put left_is =
    let by_rounds : (entries : List Entry) × AreRoundsOf entries parts.scripts parts.input
    × (scene.entries ≡ entries ++ entry.Final ∷ []) = rw are (one_client parts.config script parts.input scene.entries
    one (rw (quiet, idle script)) ended.legal (rw are at ended.whole)) in
    let none = no_picture parts.config parts.scripts (rounds parts.scripts parts.input) (count_by is_phase script)
    (once parts.scripts parts.input ∙ quiet) in
    has_run [] (put_state_at shown desk) (put_state_of_run new ran.fault) left_is.journal_is refl
    (record { legal = ended.legal; whole = ended.whole; rounds = λ by. by_rounds }) left_is.frames
    (record { by_rounds = λ by. rw none; beside = λ by. absurd cc; history = λ by. absurd cc })
    begun (rw (left_is.fault_is, put) ended.put) refl

-- ---- a run with clip scripts whose clients are beside each other: its beginning, and what it leaves

-- an element of mapped elements is that of one of them
of_mapped : {X Y : Type 0} (f : X → Y) (xs : List X) (k : ℕ) (y : Y) → slice_get (map f xs) k ≡ Some y
    → (x : X) × (slice_get xs k ≡ Some x) × (f x ≡ y)
of_mapped f [] k y e = absurd cc
of_mapped f (x ∷ xs) zero y e = (x, refl, cc)
of_mapped f (x ∷ xs) (suc k) y e = of_mapped f xs k y e

-- ---- the pairs come back done

abbrev role_of_pair : Pair → PairRole
role_of_pair b = pair_role_of b.pass b.clip

abbrev IsDonePair : Pair → Type 0
IsDonePair b = (b.pass.next ≡ length b.pass.script) × (b.clip.next ≡ length b.clip.script)

client_roles : (bs : List Pair) → map (λ (p : PassModel). role_of p) (map (λ (b : Pair). b.pass) bs)
    ≡ map (λ (r : PairRole). r.client) (map role_of_pair bs)
client_roles [] = refl
client_roles (b ∷ bs) = rw (client_roles bs)

module _ {parts : OpeningParts} {r : RoomModel} {pairs : List Pair} {u : UserPassModel} (back : List Pair)
    (ready : IsReadyWithClips parts r pairs u)
    (same : map (λ (b : Pair). pair_role_of b.pass b.clip) back ≡ map (λ (b : Pair). pair_role_of b.pass b.clip) pairs)
    (ended : All IsDonePair back) where
  pub back_long : length back ≡ length pairs
  back_long = rw (← length-map back role_of_pair, same, length-map pairs role_of_pair)

  pub passes_done : AreDone parts (map (λ (b : Pair). b.pass) back)
  passes_done = all_done (map pass_of back) ready.ready (rw (client_roles back, same, client_roles pairs))
      (All-map (λ (p : PassModel). p.next ≡ length p.script) pass_of back (λ k d inside. (ended k d inside).0))

  -- the clip pass of a pair that came back, which has the role of the pair of its number
  clip_done : (k : ℕ) (b c : Pair) → slice_get back k ≡ Some b → slice_get pairs k ≡ Some c
      → role_of_pair c ≡ role_of_pair b → IsDoneClip parts k b.clip
  clip_done k b c at from role =
      let pair : IsPairIn parts c.pass c.clip = rw (get_or_from_slice_get pairs k c c from)
      at (ready.pairs_in k c (slice_get_within pairs k c from)) in
      let done : IsDonePair b = rw (get_or_from_slice_get back k b b at)
      at (ended k b (slice_get_within back k b at)) in
      let fits = pair.clip in
      let number = ready.ready.numbers k c.pass (rw (slice_get-map, from)) in
      let client = pair.together.now.client in
      let clip : clip_role_of c.clip ≡ clip_role_of b.clip = ap (λ (x : PairRole). x.clip) role in
      record {
        belongs = record {
          name = ap (λ (x : ClipRole). x.name) (sym clip) ∙ fits.name;
          script = subst (λ (x : ClipRole). slice_get parts.clips x.sid ≡ Some x.script) clip fits.script;
          number = subst (λ (x : ClipRole). x.number ≡ clip_number parts x.sid) clip fits.number;
        };
        number = rw (← ap (λ (x : ClipRole). x.sid) clip, ← client) number;
        ended = done.1;
      }

  pub clips_done : AreDoneClips parts (map (λ (b : Pair). b.clip) back)
  clips_done = record {
    each = rw (length-map back clip_of, back_long, ready.each, ready.clips_each);
    done_all = λ k q at.
        let here = of_mapped clip_of back k q at in
        let there = of_mapped role_of_pair pairs k (role_of_pair here.0) (rw (← same, slice_get-map, here.1)) in
        rw (← here.2) (clip_done k here.0 there.0 here.1 there.1 there.2);
  }

-- ---- the run

pub clips_leave : (parts : OpeningParts) {first mid new : StoreModel} {ran : Ran} {fault : Option PutFault}
    (text : Result (Vec ℕ Global) NoMemory) → HasRun first (setup_in parts) mid ran
    → IsClipListText (clips_setup_in parts) ran.journal.items text
    → ((bytes : List ℕ) → IfOk text (λ v. v.items ≡ bytes)
    → PutsNext (clips_name, bytes) (put_state_of_run mid ran.fault) (put_state_of_run new fault))
    → HasRunClips first (clips_setup_in parts) new ran.journal.items ran.frames fault
clips_leave parts {first = first} {mid = mid} {new = new} {ran = ran} {fault = fault} text has (list, is_list, told)
    put = record {
      is_journal = assumption has.journal;
      frames_are = has.frames;
      outputs = has.outputs;
      are = (has.are.0, assumption has.are.1, has.are.2);
      file = (clips_name, clip_text list);
      file_is = (list, is_list, refl);
      puts = puts_more has.outputs (clips_name, clip_text list) (unrefused first) (put_state_of_run mid ran.fault)
          (put_state_of_run new fault) has.puts (put (clip_text list) told);
    }
