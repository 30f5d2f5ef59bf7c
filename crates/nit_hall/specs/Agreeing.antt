-- When a client's own end of its words and the scene's can agree on stages, and what is then.
use Rattle.std.specs.Prelude.{◌≡◌, ℕ, ◌<◌, IsSome, Some, length, slice_get}
use Rattle.nit_hall.specs.Below.{End, IsGlass, SceneModel}

-- The scene has an end of the canvas's words for this session, and both know some stages. The spare
-- end, which takes its place meanwhile, is of such a table too.
pub record CanAgree (scene : SceneModel End) (sid : ℕ) (canvas spare : End) : Type 0 where
  pub session : sid < length scene.config.clients
  pub lens : End
  pub there : slice_get scene.glasses sid ≡ Some lens
  pub buffer : lens.stand.buffer ≡ canvas.stand.buffer
  pub knows : IsSome lens.sight.stages
  pub agreed : IsSome canvas.sight.stages
  pub spare_fits : IsGlass scene.config sid spare.sight
