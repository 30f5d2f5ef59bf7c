-- A frame that is kept.
use Rattle.std.specs.Prelude.{◌≡◌, ℕ, ◌*◌, ◌<◌, Bool, true, false, List, length, slice_index}
use Rattle.nit_overlay.specs.Below.{pixel}
use Rattle.nit_overlay.specs.Frame.{Scenery, shown}

-- One word for each pixel was kept: each chosen pixel was set to what is shown now, each other one
-- is as before, and what is shown there is the same as before.
pub record IsRenewed
    (before now : Scenery) (chosen : ℕ → Bool) (raw raw' old new : List ℕ) : Type 0 where
  pub size : (now.width ≡ before.width) × (now.height ≡ before.height)
  pub count : length new ≡ now.width * now.height
  pub set : (k : ℕ) → k < now.width * now.height → chosen k ≡ true
      → slice_index new k ≡ shown now (pixel now.width k) (slice_index raw' k)
  pub left : (k : ℕ) → k < now.width * now.height → chosen k ≡ false
      → slice_index new k ≡ slice_index old k
  pub same : (k : ℕ) → k < now.width * now.height → chosen k ≡ false
      → shown now (pixel now.width k) (slice_index raw' k)
      ≡ shown before (pixel now.width k) (slice_index raw k)
