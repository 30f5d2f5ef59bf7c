-- What contracts see of a screen that keeps no journal, and what holds of it.
use Rattle.std.specs.Prelude.{◌≡◌, ℕ, ◌+◌, ◌-◌, ◌*◌, ◌^◌, ◌<◌, Bool, true, false, List}
use Rattle.nit_desktop.specs.Below.{AreBelowNext, AreLive, AreRaw, Call, Entry, HaveOwnNames}
use Rattle.nit_desktop.specs.Below.{State, after, session}
use Rattle.nit_events.specs.declared.call.Call.TheVariants.{View}

-- the state, how many more entries it serves, and the raw words of the screen's pixels
pub record DesktopModel : Type 0 where
  pub state : State
  pub left : ℕ
  pub raw : List ℕ

-- the call asks for a new view
abbrev pub asks_view : Call → Bool
asks_view View = true
asks_view other = false

-- The state is the one after this entry, and the raw words are as its sources want them.
pub record IsServedEntry (before now : DesktopModel) (e : Entry) : Type 0 where
  pub state : now.state ≡ after before.state e
  pub left : now.left ≡ before.left - 1
  pub raw : AreRaw now.state now.raw

-- Whoever the input knows and whoever has a view is live, the raw words are as the pixels' sources
-- want them, no two views have the same session and handle, nor does one have a handle that is
-- still
-- to come, and neither handles nor a count of lost events come to their end before the entries do.
pub record IsDesktop (s : State) (raw : List ℕ) (left : ℕ) : Type 0 where
  pub live : AreLive s
  pub raw_words : AreRaw s raw
  pub named : HaveOwnNames s.stack × AreBelowNext s
  pub handles : (t : ℕ) → (session s t).next < 2 ^ 32 - 1
  pub lost : (t : ℕ) → (session s t).lost + 3 * left < 2 ^ 64
