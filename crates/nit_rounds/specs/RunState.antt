-- A run by rounds that is under way: what one line leaves, and what holds between two turns.
use Rattle.std.specs.Prelude.{◌≡◌, ◌≢◌, ℕ, ◌+◌, ◌/◌, ◌%◌, ◌<◌, Bool, true, false, List, [], ◌∷◌}
use Rattle.std.specs.Prelude.{◌++◌, ◌≤◌, length, map, slice_index_or, slice_set, Option, Some, None}
use Rattle.nit_rounds.specs.Below.{BufferArea, Configuration, Entry, FitsInputLine, InputLine}
use Rattle.nit_rounds.specs.Below.{IsConfiguration, IsOpen, IsPlanOf, IsWordOfSource, Line}
use Rattle.nit_rounds.specs.Below.{PlanModel, Reply, Routed, SceneModel, Sight, State, action_of}
use Rattle.nit_rounds.specs.Below.{after, dirty, donation_of, frame, glass_in, is_in_area, pixel}
use Rattle.nit_rounds.specs.Below.{pixel_count, plan_in, scenery_of, script_in, shots, source_at}
use Rattle.nit_rounds.specs.Below.{state_now}
use Rattle.nit_events.specs.declared.entry.Entry.TheVariants as entry
use Rattle.nit_script.specs.declared.line.Line.TheVariants as line
use Rattle.nit_script.specs.declared.line.InputLine.TheVariants as input
use Rattle.nit_rounds.specs.Turn.{ByClient, ByUser, LineTurn}
use Rattle.nit_rounds.specs.Rounds.{rounds}
use Rattle.nit_rounds.specs.TurnActions.{actions_of_turns, lines_of}
use Rattle.nit_rounds.specs.RoundsRun.{IsSetUp, glass_after}
use Rattle.nit_rounds.specs.ShotFrames.{ShotFrame, ShowsEach}
use Rattle.nit_rounds.specs.Drawing.{Drawing, drawn, entry_of, state_after}

-- no glass tells a log
abbrev pub AreQuiet : List Sight → Type 0
AreQuiet glasses = (t : ℕ) → (glass_in glasses t).log ≡ None

-- no glass but that of this session tells a log
abbrev pub AreQuietBut : ℕ → List Sight → Type 0
AreQuietBut sid glasses = (t : ℕ) → t ≢ sid → (glass_in glasses t).log ≡ None

-- the word of this number is that of a place of the area, where the buffer has w columns
abbrev pub is_number_in : ℕ → BufferArea → ℕ → Bool
is_number_in w area n = is_in_area area (n % w) (n / w)

-- a client's line was recorded where it is a call, and nothing was recorded where it is not
abbrev pub IsRecorded : ℕ → Line → List Entry → List Entry → Type 0
IsRecorded sid (line.Call call) before after' =
    (r : Reply) × (after' ≡ before ++ entry.Call sid call r ∷ [])
IsRecorded sid other before after' = after' ≡ before

-- a user's line was recorded: what a device did with its deliveries, a shot with the next number,
-- or nothing
abbrev pub IsUserRecorded : InputLine → List Entry → List Entry → Type 0
IsUserRecorded (input.Device dev) before after' =
    (routed : Routed) × (after' ≡ before ++ entry.Input dev routed ∷ [])
IsUserRecorded input.Shot before after' = after' ≡ before ++ entry.Shot (shots before + 1) ∷ []
IsUserRecorded input.Phase before after' = after' ≡ before

-- a user's line that is recorded takes a place of the journal
abbrev pub takes_place : InputLine → Bool
takes_place input.Phase = false
takes_place other = true

-- the sessions open within the range of donations, and each plan is of its script
pub record IsPlanned (config : Configuration) (scripts : List (List Line))
    (plans : List PlanModel) : Type 0 where
  pub configured : IsConfiguration config
  pub sessions : length scripts ≡ length config.clients
  pub plans_each : length plans ≡ length scripts
  pub planned : (t : ℕ) → t < length scripts
      → IsPlanOf (script_in scripts t) (donation_of config t) (plan_in plans t)

-- A run by rounds begins: its parts are set up, and the scene has no entry, and room for one for
-- each call, device event and shot.
pub record BeginsRounds (scripts : List (List Line)) (plans : List PlanModel)
    (input : List InputLine) (s : SceneModel Sight) (owns : List Sight) : Type 0 where
  pub set_up : IsSetUp s.config scripts plans s.glasses owns
  pub entries : s.entries ≡ []
  pub spare : length (actions_of_turns (rounds scripts input)) ≤ s.spare

-- By these glasses, exactly the pixels that an entry makes dirty hold what their sources in the
-- state after it give, and all others hold what they held. Where there is no entry all do.
abbrev pub AreLoaded : State → Option Entry → (ℕ → Sight) → List ℕ → List ℕ → Type 0
AreLoaded s None glasses raw raw' = raw' ≡ raw
AreLoaded s (Some e) glasses raw raw' =
    (k : ℕ) → k < pixel_count s → let p = pixel s.config.width k in
    (dirty s e (after s e) p ≡ true
    → IsWordOfSource glasses (source_at (after s e) k) (slice_index_or raw' k 0))
    × (dirty s e (after s e) p ≡ false → slice_index_or raw' k 0 ≡ slice_index_or raw k 0)

-- the scene came by this entry, or by none, to another state and other raw words
pub record IsMoved (e : Option Entry) (s s' : SceneModel Sight) : Type 0 where
  pub state : state_now s' ≡ state_after (state_now s) e
  pub words : AreLoaded (state_now s) e (glass_in s'.glasses) s.raw s'.raw

-- a client's line was done: the scene goes on with an open journal and the rest of its room, the
-- line is recorded, and what its entry makes dirty is loaded by this own glass of the session
pub record DoesClientLine (sid : ℕ) (l : Line) (s s' : SceneModel Sight) (own : Sight) : Type 0
  where
    pub config : s'.config ≡ s.config
    pub unended : IsOpen s'.entries
    pub spare : length s'.entries + s'.spare ≡ length s.entries + s.spare
    pub recorded : IsRecorded sid l s.entries s'.entries
    pub moved : IsMoved (entry_of (state_now s) (ByClient sid l)) s
        (record s' { glasses = slice_set s'.glasses sid own })

-- a user's line may be done: no glass tells a log, and the open journal has room for the line's
-- entry
pub record CanDoUserLine (l : InputLine) (s : SceneModel Sight) : Type 0 where
  pub fits : FitsInputLine l
  pub quiet : AreQuiet s.glasses
  pub spare : takes_place l ≡ true → 1 ≤ s.spare
  pub unended : IsOpen s.entries

-- a user's line was done: the same as of a client's, and the glasses stay
pub record DoesUserLine (l : InputLine) (s s' : SceneModel Sight) : Type 0 where
  pub glasses : s'.glasses ≡ s.glasses
  pub config : s'.config ≡ s.config
  pub unended : IsOpen s'.entries
  pub spare : length s'.entries + s'.spare ≡ length s.entries + s.spare
  pub recorded : IsUserRecorded l s.entries s'.entries
  pub moved : IsMoved (entry_of (state_now s) (ByUser l)) s s'

-- the frame of what the scene shows now, by the number of the next shot
abbrev pub next_shot : SceneModel Sight → ShotFrame
next_shot s = record {
  number = shots s.entries + 1;
  width = s.config.width;
  height = s.config.height;
  words = frame (scenery_of (state_now s)) s.raw;
}

-- the user's line shows the frame of the scene where it is a shot, and else nothing
abbrev pub ShowsLine : {V : Type 0} → (ShotFrame → V → V → Type 0) → InputLine → SceneModel Sight
    → V → V → Type 0
ShowsLine Shows input.Shot s old new = Shows (next_shot s) old new
ShowsLine Shows other s old new = new ≡ old

-- the scene is in the state that is drawn, its pixels hold the drawn words, and its journal has a
-- shot for each frame
pub record IsDrawn (d : Drawing) (s : SceneModel Sight) : Type 0 where
  pub state : state_now s ≡ d.state
  pub words : (k : ℕ) → k < pixel_count d.state → slice_index_or s.raw k 0 ≡ d.word k
  pub taken : length d.shots ≡ shots s.entries

-- The moves before those that are left are done: their entries are recorded, each session's words
-- are those that its lines among them leave, and what they draw is drawn.
pub record IsUnderWay (scripts : List (List Line)) (lines : List InputLine)
    (before now : SceneModel Sight) (owns : List Sight) (left : List LineTurn) : Type 0 where
  pub front : List LineTurn
  pub parts : rounds scripts lines ≡ front ++ left
  pub config : now.config ≡ before.config
  pub entries : map action_of now.entries ≡ actions_of_turns front
  pub unended : IsOpen now.entries
  pub spare : length now.entries + now.spare ≡ before.spare
  pub same : now.glasses ≡ owns
  pub owns_each : length owns ≡ length scripts
  pub done : (t : ℕ) → t < length scripts
      → glass_in owns t ≡ glass_after t (script_in scripts t)
      (donation_of before.config t) (length (lines_of t front))
  pub counts : (t : ℕ) → (drawn before.config scripts front).done t ≡ length (lines_of t front)
  pub is_drawn : IsDrawn (drawn before.config scripts front) now

-- a run by rounds under way, where the frames of the shots among the moves that are done were shown
-- to what takes frames of the screen's width and height
pub record IsShowing {V : Type 0} (Fits : ℕ → ℕ → V → Type 0) (Shows : ShotFrame → V → V → Type 0)
    (scripts : List (List Line)) (lines : List InputLine)
    (before now : SceneModel Sight) (owns : List Sight) (left : List LineTurn)
    (first last : V) : Type 0 where
  pub way : IsUnderWay scripts lines before now owns left
  pub shown : ShowsEach Shows (drawn before.config scripts way.front).shots first last
  pub fits : Fits before.config.width before.config.height last
