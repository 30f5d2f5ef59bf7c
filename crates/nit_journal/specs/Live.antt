-- States in which whoever the input knows, and whoever has a view, is served.
use Rattle.nit_journal.specs.Below.{All, IfSome, InputState, ℕ}
use Rattle.nit_journal.specs.Deliveries.{IsLive}
use Rattle.nit_journal.specs.State.{State}

-- this holds of the receiver, the hovered session and the focused one, where there are such
pub record Knows (P : ℕ → Type 0) (i : InputState) : Type 0 where
  pub receiver : IfSome i.receiver P
  pub hover : IfSome i.hover P
  pub focus : IfSome i.focus P

-- so a session that is over has no view, and the input does not know it
pub record AreLive (s : State) : Type 0 where
  pub known : Knows (IsLive s) s.input
  pub views : All (λ v. IsLive s v.sid) s.stack
