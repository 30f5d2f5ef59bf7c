-- A client's line that is drawn on the own glass of its session.
use Rattle.std.specs.Prelude.{◌≡◌, ℕ, ◌+◌, ◌<◌, length, Option}
use Rattle.nit_rounds.specs.Below.{ClientPart, IsDonation, IsPlanOf, SceneModel, Sight, Stale}
use Rattle.nit_rounds.specs.Below.{donation_of, glass_in}
use Rattle.nit_rounds.specs.RoundsRun.{glass_after}
use Rattle.nit_rounds.specs.Stale.{IsBehind}

-- the scene has this session, with a glass
pub record HasSession (s : SceneModel Sight) (sid : ℕ) : Type 0 where
  pub session : sid < length s.config.clients
  pub glasses : sid < length s.glasses

-- The script has a line of this number, and the plan is that of the script with the session's
-- opening donation. The lines before it stand on the own glass, and on the scene's but for what is
-- stale.
pub record CanDraw (s : SceneModel Sight) (part : ClientPart) (number : ℕ) (stale : Option Stale)
    (glass : Sight) : Type 0 where
  pub there : HasSession s part.sid
  pub line : number < length part.script.now
  pub donation : IsDonation (donation_of s.config part.sid)
  pub plan : IsPlanOf part.script.now (donation_of s.config part.sid) part.plan.now
  pub own : glass ≡ glass_after part.sid part.script.now (donation_of s.config part.sid) number
  pub behind : IsBehind stale part.sid (glass_in s.glasses part.sid) glass

-- the line stands on the own glass too, and on the scene's but for what is stale then
pub record HasDrawn (s s' : SceneModel Sight) (part : ClientPart) (number : ℕ)
    (stale : Option Stale)
    (glass : Sight) : Type 0 where
  pub own : glass ≡ glass_after part.sid part.script.now (donation_of s.config part.sid)
      (number + 1)
  pub behind : IsBehind stale part.sid (glass_in s'.glasses part.sid) glass
