-- What a room is opened with, and what it and its passes are then.
use Rattle.std.specs.Prelude.{◌≡◌, ℕ, ◌+◌, ◌*◌, ◌<◌, List, [], length, map, replicate}
use Rattle.nit_hall.specs.Below.{BookName, BufferName, Configuration, End, InputLine, IsPlanOf}
use Rattle.nit_hall.specs.Below.{IsRunConfiguration, Line, PlanModel, Some, bare_word, donation_of}
use Rattle.nit_hall.specs.Below.{new_sight, plan_in, script_in, slice_get, with_stages}
use Rattle.nit_hall.specs.OpeningParts.{OpeningParts}
use Rattle.nit_hall.specs.ServedLines.{lines_of_all}
use Rattle.nit_hall.specs.Stretch.{stretch, watching_sight}
use Rattle.nit_hall.specs.Pass.{PassModel, UserPassModel}
use Rattle.nit_hall.specs.Room.{RoomModel}

-- there are a script and a plan for each client, in order, and each plan is of its script
pub record IsSetting (config : Configuration) (scripts : List (List Line)) (plans : List PlanModel)
    : Type 0 where
  pub sessions : length scripts ≡ length config.clients
  pub plans_each : length plans ≡ length scripts
  pub planned : (k : ℕ) → k < length scripts
      → IsPlanOf (script_in scripts k) (donation_of config k) (plan_in plans k)

-- there is a canvas for each client, in order, with the client's number as owner, the ink of its
-- script, a word for each place of its table, and words 0
pub record AreBlank (config : Configuration) (scripts : List (List Line)) (canvases : List End)
    : Type 0 where
  pub canvas_each : length canvases ≡ length config.clients
  pub blank : (k : ℕ) (c : End) → slice_get canvases k ≡ Some c
      → c.sight ≡ new_sight k (script_in scripts k) (donation_of config k)

-- the buffers that these ends are of
abbrev pub buffers_of : List End → List BufferName
buffers_of ends = map (λ (e : End). e.stand.buffer) ends

-- each canvas agrees with its reader's end on the first stretch of its client; all else is as
-- before
pub record AreAgreed (config : Configuration) (scripts : List (List Line))
    (before after : List End) : Type 0 where
  pub each : length after ≡ length before
  pub buffers : buffers_of after ≡ buffers_of before
  pub agreed : (k : ℕ) (c c' : End) → slice_get before k ≡ Some c → slice_get after k ≡ Some c'
      → c' ≡ record c {
        sight = with_stages (stretch (script_in scripts k) (donation_of config k) 0) c.sight;
      }

-- there is a canvas for each client, in order, that was blank and agrees on the first stretch
pub record AreBegun (config : Configuration) (scripts : List (List Line)) (canvases : List End)
    : Type 0 where
  pub canvas_each : length canvases ≡ length config.clients
  pub begun : (k : ℕ) (c : End) → slice_get canvases k ≡ Some c
      → c.sight ≡ with_stages (stretch (script_in scripts k) (donation_of config k) 0)
      (new_sight k (script_in scripts k) (donation_of config k))

-- the configuration, a setting of it, and a canvas for each client that agrees on its first stretch
pub record CanOpen (config : Configuration) (scripts : List (List Line)) (plans : List PlanModel)
    (canvases : List End) : Type 0 where
  pub config_is : IsRunConfiguration config
  pub setting : IsSetting config scripts plans
  pub canvases_are : AreBegun config scripts canvases

-- the parts of an opening without clip scripts
abbrev pub parts_of : BookName → Configuration → List (List Line) → List PlanModel
    → List BufferName → List InputLine → OpeningParts
parts_of name config scripts plans buffers input =
    record {
      name = name;
      config = config;
      scripts = scripts;
      plans = plans;
      buffers = buffers;
      input = input;
      clips = [];
    }

-- the first stretch of the client of this number
abbrev pub first_stretch : OpeningParts → ℕ → List (List ℕ)
first_stretch parts k = stretch (script_in parts.scripts k) (donation_of parts.config k) 0

-- the pass of this number, of which no line is done: it agrees with the room on its first stretch
abbrev pub first_pass : OpeningParts → ℕ → End → PassModel
first_pass parts k canvas =
    record {
      sid = k;
      next = 0;
      phase = 0;
      met = 0;
      name = parts.name;
      script = script_in parts.scripts k;
      plan = plan_in parts.plans k;
      donation = donation_of parts.config k;
      seen = [];
      sight = with_stages (first_stretch parts k) canvas.sight;
      stand = canvas.stand;
    }

-- the user's pass, of which no line is done
abbrev pub first_user : OpeningParts → UserPassModel
first_user parts =
    record {
      number = length parts.scripts;
      next = 0;
      phase = 0;
      name = parts.name;
      input = parts.input;
      seen = [];
      raws = [];
    }

-- the pass is the first of this number, with its canvas
abbrev pub IsFirstPass : OpeningParts → List End → ℕ → PassModel → Type 0
IsFirstPass parts canvases k p =
    (canvas : End) × (slice_get canvases k ≡ Some canvas) × (p ≡ first_pass parts k canvas)

-- each reader's end is one of the canvas at its number, with nothing loaded yet, and knows the
-- first stretch of its client
pub record AreSplitOff (config : Configuration) (scripts : List (List Line))
    (canvases ends : List End) : Type 0 where
  pub each : length ends ≡ length canvases
  pub sights : (k : ℕ) (c e : End) → slice_get canvases k ≡ Some c → slice_get ends k ≡ Some e
      → e.sight
      ≡ watching_sight (stretch (script_in scripts k) (donation_of config k) 0) c.sight
  pub buffers : buffers_of ends ≡ buffers_of canvases

-- The room of these parts before its first entry: the journal is empty, with room for an entry of
-- each line and for the last picture; every pixel holds the bare word; nothing was served, the
-- first phase is, and no clip call has room.
pub record IsFirstRoom (parts : OpeningParts) (canvases : List End) (r : RoomModel) : Type 0 where
  pub parts_are : r.parts ≡ parts
  pub config : r.scene.config ≡ parts.config
  pub entries : r.scene.entries ≡ []
  pub spare : r.scene.spare ≡ lines_of_all parts.scripts parts.input + 1
  pub raw : r.scene.raw ≡ replicate (parts.config.width * parts.config.height) bare_word
  pub lenses_are : AreSplitOff parts.config parts.scripts canvases r.scene.glasses
  pub counts : r.counts ≡ replicate (length parts.scripts + 1) 0
  pub clips_are : (r.clips ≡ record { entries = []; spare = 0 }) × (r.clip_counts ≡ [])
  pub raws : r.raws ≡ []
  pub phase : (r.phase ≡ 0) × (r.arrived ≡ 0)

-- the room of this setting, a pass for each client in order, and the user's pass: no line is done
pub record IsOpening (config : Configuration) (scripts : List (List Line)) (plans : List PlanModel)
    (input : List InputLine) (canvases : List End) (r : RoomModel) (ps : List PassModel)
    (u : UserPassModel) : Type 0 where
  pub room : IsFirstRoom
      (parts_of r.parts.name config scripts plans (buffers_of canvases) input) canvases r
  pub each : length ps ≡ length scripts
  pub passes : (k : ℕ) (p : PassModel) → slice_get ps k ≡ Some p → IsFirstPass r.parts canvases k p
  pub user : u ≡ first_user r.parts
