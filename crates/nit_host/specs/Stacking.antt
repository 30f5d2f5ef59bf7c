-- What the user's restacking of a view leaves as it was.
use Rattle.std.specs.Prelude.{◌≡◌, ℕ}
use Rattle.nit_host.specs.Below.{NoPair, State, falls, is_view, layer, without}
use Rattle.nit_host.specs.Host.{HostModel}

-- from the front to the rear the layers of the views never fall
abbrev pub AreInLayers : State → Type 0
AreInLayers s = NoPair (falls (λ v. layer s.config v.sid)) s.stack

-- Nothing but the place of a seat's view is another: each session stays, with all that its client
-- is told and answered, and the input, the configuration, the words and the clients; the other
-- views keep their order, and no view leaves its layer.
pub record IsRestacked (h now : HostModel) (seat view : ℕ) : Type 0 where
  pub sessions : now.state.sessions ≡ h.state.sessions
  pub input : now.state.input ≡ h.state.input
  pub config : now.state.config ≡ h.state.config
  pub sheets : now.sheets ≡ h.sheets
  pub turns : now.turns ≡ h.turns
  pub others : without (is_view seat view) now.state.stack
      ≡ without (is_view seat view) h.state.stack
  pub layers : AreInLayers h.state → AreInLayers now.state
