-- What a run by rounds leaves: its journal, the words of its sessions, and the pictures that it
-- put.
use Rattle.std.specs.Prelude.{◌≡◌, ℕ, ◌+◌, ◌<◌, List, ◌++◌, length, codes, Option, Some, None}
use Rattle.nit_rounds.specs.Below.{Configuration, InputLine, IsLegal, IsOpen, IsPlanOf, Line}
use Rattle.nit_rounds.specs.Below.{PictureName, PlanModel, PutError, PutRefusal, PutState}
use Rattle.nit_rounds.specs.Below.{SceneModel, Sight, StoreModel, decimal, donation_of, glass_in}
use Rattle.nit_rounds.specs.Below.{ink, inked_sight, plan_in, script_in, words_after, words_left}
use Rattle.nit_rounds.specs.declared.desk.PictureName.TheVariants as name
use Rattle.nit_rounds.specs.TurnActions.{AreRoundsOf}

-- ---- what a run begins with

-- the glass of a session of this donation over the words that the first k lines of its script leave
abbrev pub glass_after : ℕ → List Line → ℕ → ℕ → Sight
glass_after t script donation k = inked_sight t (words_after script donation k) (ink script)

-- There are one script, plan and own glass for each session, in order, and each plan is of its
-- script. The scene's glasses equal the own ones, on which no line is done.
pub record IsSetUp (config : Configuration) (scripts : List (List Line)) (plans : List PlanModel)
    (glasses owns : List Sight) : Type 0 where
  pub sessions : length scripts ≡ length config.clients
  pub plans_each : length plans ≡ length scripts
  pub owns_each : length owns ≡ length scripts
  pub same : glasses ≡ owns
  pub planned : (t : ℕ) → t < length scripts
      → IsPlanOf (script_in scripts t) (donation_of config t) (plan_in plans t)
  pub blank : (t : ℕ) → t < length scripts
      → glass_in owns t ≡ glass_after t (script_in scripts t) (donation_of config t) 0

-- ---- pictures

-- the name of a shot's picture
abbrev pub shot_name : ℕ → List ℕ
shot_name number = codes "shot-" ++ decimal number ++ codes ".ppm"

-- the name of the last picture
abbrev pub final_name : List ℕ
final_name = codes "final.ppm"

-- the bytes of a picture's name
abbrev pub picture_name : PictureName → List ℕ
picture_name (name.Shot number) = shot_name number
picture_name name.Final = final_name

-- the put of a picture that was refused so, where that of this name was tried last
abbrev pub refusal_at : Option PutError → PictureName → Option PutRefusal
refusal_at None tried = None
refusal_at (Some e) tried = Some (record { name = picture_name tried; error = e })

-- what a desk shows: its store, and the refusal that it met, at the picture that it tried last
abbrev pub put_state_of_desk : StoreModel → Option PutError → PictureName → PutState
put_state_of_desk shown fault tried = record { shown = shown; refused = refusal_at fault tried }

-- ---- what a run leaves

-- The entries are those of the rounds, and the last picture is not among them. Each session's words
-- are those that its whole script leaves, in its own glass and in the scene's.
pub record IsRoundsRun (scripts : List (List Line)) (input : List InputLine)
    (before after' : SceneModel Sight) (owns : List Sight) : Type 0 where
  pub config : after'.config ≡ before.config
  pub entries : AreRoundsOf after'.entries scripts input
  pub legal : IsLegal after'.config after'.entries
  pub unended : IsOpen after'.entries
  pub spare : length after'.entries + after'.spare ≡ before.spare
  pub same : after'.glasses ≡ owns
  pub owns_each : length owns ≡ length scripts
  pub words : (t : ℕ) → t < length scripts
      → glass_in owns t ≡ inked_sight t
      (words_left (script_in scripts t) (donation_of before.config t)) (ink (script_in scripts t))
