-- One client in two runs.
use Rattle.std.specs.Prelude.{◌≡◌, ℕ, ◌<◌, List, length, Contains}
use Rattle.nit_run.specs.Below.{Configuration, Entry, File, donation_of, member, projection}
use Rattle.nit_run.specs.Outputs.{events_name}

-- A session of each of two journals, of any two configurations. It has the same donation in both,
-- and sees the same: its calls, and what the user's input routes to it, in order.
pub record IsSameClient (c d : Configuration) (js ks : List Entry) (s t : ℕ) : Type 0 where
  pub inside : s < length c.clients
  pub other_inside : t < length d.clients
  pub donation : donation_of c s ≡ donation_of d t
  pub seen : projection s js ≡ projection t ks

-- One text of events stands in both lists of files, under the name of its client in each.
pub record HaveSameEvents (c d : Configuration) (fs gs : List File) (s t : ℕ) : Type 0 where
  pub text : List ℕ
  pub one : Contains fs (events_name (member c s).label, text)
  pub other : Contains gs (events_name (member d t).label, text)
