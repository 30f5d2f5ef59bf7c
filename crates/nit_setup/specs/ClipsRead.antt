-- How clip scripts are read and judged, one after the other.
use Rattle.std.specs.Prelude.{◌≡◌, ℕ, List, ◌∷◌, ◌++◌, length, map, Option, None, Result, Ok, Err}
use Rattle.std.specs.Prelude.{IfSome, Vec}
use Rattle.nit_setup.specs.Below.{AllByRecursion, ClipLine, Global, Stop, StoreModel, asking_all}
use Rattle.nit_setup.specs.Judgement.{AreClipScripts, IsClipFault, clip_name, wrong_clip}
use Rattle.nit_setup.specs.StopNames.{IsNameOf}
use Rattle.nit_setup.specs.Reading.{StoppedAt}

-- The clip scripts of these scripts' names were read, and are valid.
pub record AreClipsRead (wanted : Option ℕ) (old : StoreModel) (scripts : List (List ℕ))
    (clips : List (List ClipLine)) (now : StoreModel) : Type 0 where
  pub asked : now ≡ asking_all old (map clip_name scripts)
  pub count : length clips ≡ length scripts
  pub right : AllByRecursion (λ lines. wrong_clip wanted lines ≡ None) clips
  pub valid : IfSome old.files
      (λ files. AreClipScripts files wanted (map clip_name scripts) clips)

-- The clip script of one script's name was not read or is refused, or memory ran out there; those
-- before it are valid.
pub record StoppedAtClip (wanted : Option ℕ) (old : StoreModel) (scripts : List (List ℕ))
    (new : StoreModel) (stop : Stop) : Type 0 where
  pub before : List (List ℕ)
  pub behind : List (List ℕ)
  pub script : List ℕ
  pub parts : scripts ≡ before ++ script ∷ behind
  pub named : IsNameOf stop.name (clip_name script)
  pub clips : List (List ClipLine)
  pub between : StoreModel
  pub read : AreClipsRead wanted old before clips between
  pub stopped : StoppedAt (IsClipFault wanted) between (clip_name script) new stop.end

-- the clip scripts of these scripts' names were read and judged, in order
abbrev pub LoadedClips : Option ℕ → StoreModel → List (List ℕ) → StoreModel
    → Result (Vec (List ClipLine) Global) Stop → Type 0
LoadedClips wanted old scripts new (Ok clips) = AreClipsRead wanted old scripts clips.items new
LoadedClips wanted old scripts new (Err stop) = StoppedAtClip wanted old scripts new stop
