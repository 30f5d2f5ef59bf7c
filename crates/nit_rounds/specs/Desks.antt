-- What stays of a desk when it puts pictures.
use Rattle.std.specs.Prelude.{◌≡◌, length}
use Rattle.nit_rounds.specs.Below.{Desk}

-- the desk has its store, and as much room as before
pub record IsSameDesk {S : Type 0} (before after' : Desk S) : Type 0 where
  pub frame : length after'.frame.items ≡ length before.frame.items
  pub text : length after'.text.items ≡ length before.text.items
  pub same_store : after'.store.ghost_name ≡ before.store.ghost_name

-- the desk has its store, as much room as before, and the frame that it has copied
pub record KeepsFrame {S : Type 0} (before after' : Desk S) : Type 0 where
  pub frame : after'.frame.items ≡ before.frame.items
  pub text : length after'.text.items ≡ length before.text.items
  pub same_store : after'.store.ghost_name ≡ before.store.ghost_name
