-- The frames of an inner run: how many there are, and what is known of the nest that took them.
use Rattle.std.proofs.Common.{Bool, Err, List, None, Ok, Option, Result, Some, [], add-zero, ap}
use Rattle.std.proofs.Common.{append-nil, append_assoc, arith, cond, false, fold, inl, inr, length}
use Rattle.std.proofs.Common.{length-append, map, refl, subst, sym, true, zero-add, ℕ, ◌++◌, ◌+◌}
use Rattle.std.proofs.Common.{◌<◌, ◌∙◌, ◌∷◌, ◌≡◌}
use Rattle.nit_nested.specs.declared.error.NestError.TheVariants.{NoMemory}
use Rattle.nit_perform.proofs.Basics.{ActorLine, AreRoundsOf, Bad, ByUser, Configuration, Drawing}
use Rattle.nit_perform.proofs.Basics.{Entry, InputLine, IsLegal, Line, LineTurn, NestError}
use Rattle.nit_perform.proofs.Basics.{NestModel, NestState, NestsRun, Phases, RunFiles, SceneModel}
use Rattle.nit_perform.proofs.Basics.{ShotFrame, ShowsEach, Sight, TakesAll, TakesNext, TooLong}
use Rattle.nit_perform.proofs.Basics.{UnlessMemory, action_of, actions_of_turns, after_turn}
use Rattle.nit_perform.proofs.Basics.{count_by, count_lines, drawn_shot, eq-eqb, first_forbidden}
use Rattle.nit_perform.proofs.Basics.{frame, frame_answer, frame_lines, frames_of, input_by_user}
use Rattle.nit_perform.proofs.Basics.{input_lines_of, is_shot_line, is_too_long, last_frame}
use Rattle.nit_perform.proofs.Basics.{length-map, lines_of_frames, lt-ltb, map-append, most_lines}
use Rattle.nit_perform.proofs.Basics.{nat_tests, nest_of, nest_script, phases, raw_words, replay}
use Rattle.nit_perform.proofs.Basics.{rounds, scenery_of, script_answer, shots_after, state_now}
use Rattle.nit_perform.proofs.Basics.{sum_by-append, sum_by-cons, tables_left}
use Rattle.nit_rounds.specs.Drawing.{drawn}
use Rattle.nit_script.specs.declared.line.InputLine.TheVariants as input

-- ---- how many frames there are

-- a line takes as many shots as it has lines `shot`
one_line : (config : Configuration) (doing : ActorLine) (d : Drawing) → length (shots_after config doing d)
    ≡ length d.shots + count_by is_shot_line (input_by_user doing)
one_line config (ByUser input.Shot) d = length-append d.shots (drawn_shot config d ∷ [])
one_line config other d = sym (add-zero (length d.shots))

shots_from : (config : Configuration) (scripts : List (List Line)) (moves : List LineTurn) (d : Drawing)
    → length (fold (after_turn config scripts) d moves).shots
    ≡ length d.shots + count_by is_shot_line (input_lines_of moves)
shots_from config scripts [] d = sym (add-zero (length d.shots))
shots_from config scripts (m ∷ moves) d =
    let more = shots_from config scripts moves (after_turn config scripts d m) in
    let both = sum_by-append (λ l. cond (is_shot_line l) 1 0) (input_by_user m.doing) (input_lines_of moves) in
    omega (arith, one_line config m.doing d)

-- what the law of rounds says
abbrev pub UserOnce : Type 0
UserOnce = (scripts : List (List Line)) (lines : List InputLine) → input_lines_of (rounds scripts lines) ≡ lines

pub frames_counted : UserOnce → (i : RunFiles) → length (frames_of i) ≡ count_by is_shot_line i.input + 1
unfolding drawn
frames_counted once i = rw (length-append, length-map, shots_from, zero-add, once i.scripts i.input)

-- ---- what the nest took

-- a nest with more frames
abbrev pub with_frames : NestModel → List (List ℕ) → NestModel
with_frames n frames = record n { frames = n.frames ++ frames }

-- the lines of these frames are too many for a script
abbrev AreTooLong : NestModel → List (List ℕ) → Type 0
AreTooLong n frames = most_lines < 1 + count_lines (map (frame_lines n.w n.h) (n.frames ++ frames))

-- all frames were taken, or one was too long, or memory ran out
abbrev pub Took : NestModel → List (List ℕ) → NestModel → Option NestError → Type 0
Took n frames now None = now ≡ with_frames n frames
Took n frames now (Some TooLong) = AreTooLong n frames
Took n frames now (Some NoMemory) = Unit {0}
Took n frames now (Some (Bad line)) = ⊥
Took n frames now (Some Phases) = ⊥

-- behind a refusal nothing changes
kept : (frames : List (List ℕ)) (old now : NestState) (e : NestError) → old.fault ≡ Some e → TakesAll frames old now
    → now ≡ old
kept [] old now e is takes = takes
kept (words ∷ rest) old now e is (mid, next, more) =
    let same : mid ≡ old = rw (← is) at (rw is at next) in
    kept rest mid now e (rw (same, is)) more ∙ same

longer : (n : NestModel) (first : List ℕ) (rest : List (List ℕ)) (now : NestModel) (fault : Option NestError)
    → Took (with_frames n (first ∷ [])) rest now fault → Took n (first ∷ rest) now fault
longer n first rest now None took = rw (took, append_assoc n.frames (first ∷ []) rest)
longer n first rest now (Some TooLong) took = rw (append_assoc n.frames (first ∷ []) rest) at took
longer n first rest now (Some other) took = took

-- a frame that is too long makes all of them too long
too_long : (n : NestModel) (words : List ℕ) (rest : List (List ℕ)) → frame_answer n words ≡ Err TooLong
    → AreTooLong n (words ∷ rest)
too_long n words rest answer =
    let lines : List ℕ → List Line = frame_lines n.w n.h in
    let long : most_lines < 1 + count_lines (map lines n.frames) + length (lines words) =
    grind (arith, nat_tests, answer) in
    let count : count_lines (map lines (n.frames ++ words ∷ rest))
    ≡ count_lines (map lines n.frames) + (length (lines words) + count_lines (map lines rest)) =
    rw (map-append lines n.frames (words ∷ rest))
    (rw (sum_by-append (λ (ls : List Line). length ls) (map lines n.frames) (map lines (words ∷ rest)))
    (rw (sum_by-cons (λ (ls : List Line). length ls) (lines words) (map lines rest)))) in
    omega arith

all_taken : (frames : List (List ℕ)) (n : NestModel) (now : NestState)
    → TakesAll frames (record { nest = n; fault = None }) now → Took n frames now.nest now.fault
all_taken [] n now takes = rw (takes, append-nil n.frames)
all_taken (words ∷ rest) n now (mid, inl (none, is), more) =
    let same : mid ≡ record { nest = with_frames n (words ∷ []); fault = None } =
    λ i. record { nest = is i; fault = none i } in
    longer n words rest now.nest now.fault
    (all_taken rest (with_frames n (words ∷ [])) now (subst (λ (s : NestState). TakesAll rest s now) same more))
all_taken (words ∷ rest) n now (mid, inr (inl (long, answer)), more) =
    rw (kept rest mid now TooLong long more, long) (too_long n words rest answer)
all_taken (words ∷ rest) n now (mid, inr (inr memory), more) =
    rw (kept rest mid now NoMemory memory more, memory) tt

-- what the law on the lines of the script says
abbrev pub Counted : Type 0
Counted = (n : NestModel) (own : List Line) → phases own ≡ length n.frames
    → length (nest_script n own) ≡ 1 + count_lines (lines_of_frames n) + length own

-- ---- the run

-- what the law of drawing says
abbrev pub DrawnLaw : Type 0
DrawnLaw = (config : Configuration) (scripts : List (List Line)) (moves : List LineTurn) (journal : List Entry)
    → IsLegal config journal → map action_of journal ≡ actions_of_turns moves → (drawn config scripts moves).state
    ≡ replay config journal

-- the last frame shows the state and the words that are drawn
pub last_is : DrawnLaw → (i : RunFiles) (mid : SceneModel Sight) → mid.config ≡ i.config
    → IsLegal mid.config mid.entries → AreRoundsOf mid.entries i.scripts i.input
    → frame (scenery_of (state_now mid)) (raw_words (state_now mid) (tables_left i.config i.scripts)) ≡ last_frame i
last_is law i mid config legal is =
    rw (config, ← law i.config i.scripts (rounds i.scripts i.input) mid.entries (rw config at legal) is)

-- each shot's frame was taken
pub taken_all : {V : Type 0} (Shows : ShotFrame → V → V → Type 0) (seen : V → NestState)
    → ((f : ShotFrame) (before after' : V) → Shows f before after' → TakesNext f.words (seen before) (seen after'))
    → (shots : List ShotFrame) (old new : V) → ShowsEach Shows shots old new
    → TakesAll (map (λ (f : ShotFrame). f.words) shots) (seen old) (seen new)
taken_all Shows seen takes [] old new same = ap seen same
taken_all Shows seen takes (f ∷ shots) old new (mid, first, rest) =
    (seen mid, takes f old mid first, taken_all Shows seen takes shots mid new rest)

-- and then one more
pub takes_more : (frames : List (List ℕ)) (words : List ℕ) (old mid new : NestState) → TakesAll frames old mid
    → TakesNext words mid new → TakesAll (frames ++ words ∷ []) old new
takes_more [] words old mid new same next = (new, rw same at next, refl)
takes_more (f ∷ frames) words old mid new (at, first, rest) next =
    (at, first, takes_more frames words at mid new rest next)

-- ---- how the inner run ends

abbrev pub no_frames : RunFiles → NestModel
no_frames i = record { w = i.config.width; h = i.config.height; frames = [] }

none_left : (o : Option NestError) → ((e : NestError) → o ≡ Some e → ⊥) → o ≡ None
none_left None never = refl
none_left (Some e) never = absurd (never e refl)

-- the nest took the frames up to a refusal
module _ (i : RunFiles) (own : List Line) (now : NestModel) (fault : Option NestError)
    (takes : TakesAll (frames_of i) (record { nest = no_frames i; fault = None })
    (record { nest = now; fault = fault })) where
  took : Took (no_frames i) (frames_of i) now fault
  took = all_taken (frames_of i) (no_frames i) (record { nest = now; fault = fault }) takes

  -- a frame was refused
  pub frame_refused : (e : NestError) → fault ≡ Some e → NestsRun i own (Err e)
  frame_refused TooLong is =
      let long : most_lines < 1 + count_lines (lines_of_frames (nest_of i)) = rw is at took in
      lt-ltb most_lines (1 + count_lines (lines_of_frames (nest_of i)) + length own) (omega arith)
  frame_refused NoMemory is = tt
  frame_refused other is = absurd (rw is at took)

  -- none was
  pub whole_nest : ((e : NestError) → fault ≡ Some e → ⊥) → now ≡ nest_of i
  whole_nest never = rw (none_left fault never) at took

-- how a script is answered by whether it is too long
abbrev IsAnswered : Bool → List Line → Result (List Line) NestError → Type 0
IsAnswered long made (Ok script) = (long ≡ false) × (script ≡ made)
IsAnswered long made (Err TooLong) = long ≡ true
IsAnswered long made (Err other) = ⊥

one_answer : (long : Bool) (made : List Line) → IsAnswered long made (cond long (Err TooLong) (Ok made))
one_answer true made = refl
one_answer false made = (refl, refl)

-- all frames were taken, and the script was made or refused
module _ (counted : Counted) (i : RunFiles) (own : List Line) (may : first_forbidden 1 own ≡ None)
    (same : phases own ≡ length (frames_of i)) where
  pub answered : (n : NestModel) → n ≡ nest_of i → (r : Result (List Line) NestError) → r ≡ script_answer n own
      → IsAnswered (is_too_long (nest_of i) (own ∷ [])) (nest_script (nest_of i) own) r
  answered n whole r answer = rw (answer, whole, may, eq-eqb (phases own) (length (frames_of i)) same)
      (rw (counted (nest_of i) own same)
      (one_answer (is_too_long (nest_of i) (own ∷ [])) (nest_script (nest_of i) own)))

  pub script_refused : (n : NestModel) → n ≡ nest_of i → (e : NestError)
      → UnlessMemory {A = List Line} (Err e) (Err e ≡ script_answer n own) → NestsRun i own (Err e)
  script_refused n whole NoMemory answer = tt
  script_refused n whole other answer = answered n whole (Err other) answer
