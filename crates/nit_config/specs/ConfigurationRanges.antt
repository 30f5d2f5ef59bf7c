-- The configurations that are within ranges: those of a server, and those of the format.
use Rattle.std.specs.Prelude.{◌≢◌, ◌≤◌, ◌<◌, ℕ, length, All, AllPairs, IsTrue}
use Rattle.nit_config.specs.Below.{IsLettering, is_label, least_units, most_height, most_run_height}
use Rattle.nit_config.specs.Below.{most_run_sessions, most_run_units, most_run_width}
use Rattle.nit_config.specs.Below.{most_sessions, most_units, most_width}
use Rattle.nit_config.specs.declared.config.Member.{Member}
use Rattle.nit_config.specs.Configuration.{Configuration, bar_rows, is_file_name}

-- the label is a label, the script's name is the name of a file, and the numbers are within their
-- ranges, where a donation has at most so many units
pub record IsMemberWithin (units : ℕ) (m : Member) : Type 0 where
  pub label : IsTrue (is_label m.label)
  pub donation : (least_units ≤ m.donation) × (m.donation ≤ units)
  pub script : IsTrue (is_file_name m.script)
  pub layer : m.layer ≤ 7

-- the screen has at most so many columns and so many rows, at least one of each, and a row below the
-- status bar; texts are drawn by a lettering; the input script has the name of a file; there is a
-- client and at most so many, each within the ranges, and no two have the same label
pub record IsWithin (columns rows sessions units : ℕ) (config : Configuration) : Type 0 where
  pub width : (1 ≤ config.width) × (config.width ≤ columns)
  pub height : (1 ≤ config.height) × (config.height ≤ rows)
  pub lettering : IsLettering config.lettering
  pub bar : bar_rows config < config.height
  pub input : IsTrue (is_file_name config.input)
  pub count : (1 ≤ length config.clients) × (length config.clients ≤ sessions)
  pub clients : All (IsMemberWithin units) config.clients
  pub labels : AllPairs (λ a b. a.label ≢ b.label) config.clients

-- ---- what a server can be opened with: a screen of 1..=4096 by 1..=4096, 1..=64 clients, and
-- donations of 256..=268435456 units

abbrev pub IsMember : Member → Type 0
IsMember = IsMemberWithin most_units

abbrev pub IsConfiguration : Configuration → Type 0
IsConfiguration = IsWithin most_width most_height most_sessions most_units

-- ---- what a run has: a screen of 1..=1024 by 1..=768, 1..=16 clients, and donations of
-- 256..=8388608 units

abbrev pub IsRunMember : Member → Type 0
IsRunMember = IsMemberWithin most_run_units

abbrev pub IsRunConfiguration : Configuration → Type 0
IsRunConfiguration = IsWithin most_run_width most_run_height most_run_sessions most_run_units
