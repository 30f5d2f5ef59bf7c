-- The configuration that a text is, and the refusal that it meets.
use Rattle.std.specs.Prelude.{◌≡◌, ◌==◌, ◌≤◌, ◌+◌, ℕ, pos, false, List, codes, Option, Some, None, bytes_eq}
use Rattle.std.specs.Prelude.{Result, Ok, count_by}
use Rattle.nit_config.specs.Below.{AllZip, ConfigError, Err, Members, NoMemory, Syntax, get_member}
use Rattle.nit_config.specs.Below.{integer, plain, string}
use Rattle.nit_config.specs.declared.config.Member.{Member}
use Rattle.nit_config.specs.Configuration.{Configuration}
use Rattle.nit_config.specs.Tree.{ReadsTable, integer_at, string_at, boolean_at, screen_table}
use Rattle.nit_config.specs.Tree.{input_table, client_tables}
use Rattle.nit_config.specs.Refusals.{first_refusal}

-- the member holds the values of a client's table, with layer 0 and `click` where these keys are
-- not there
pub record HoldsClient (client : Members) (m : Member) : Type 0 where
  pub label : get_member (codes "label") client ≡ Some (string m.label)
  pub donation : get_member (codes "donation") client ≡ Some (integer (pos m.donation))
  pub script : get_member (codes "script") client ≡ Some (string m.script)
  pub layer : pos m.layer ≡ integer_at (codes "layer") (pos 0) client
  pub clicks : m.clicks
      ≡ bytes_eq (string_at (codes "focus") (codes "click") client) (codes "click")

-- the configuration holds the values of a table, its clients one by one, with no bar where that key
-- is not there; its texts are drawn plainly
pub record HoldsTable (top : Members) (config : Configuration) : Type 0 where
  pub width : get_member (codes "width") (screen_table top) ≡ Some (integer (pos config.width))
  pub height : get_member (codes "height") (screen_table top) ≡ Some (integer (pos config.height))
  pub bar : config.bar ≡ boolean_at (codes "bar") false (screen_table top)
  pub lettering : config.lettering ≡ plain
  pub input : get_member (codes "script") (input_table top) ≡ Some (string config.input)
  pub clients : AllZip HoldsClient (client_tables top) config.clients

-- the bytes are this configuration: `toml` reads them as a table that no refusal applies to, and
-- whose values it holds
pub record IsConfigurationOf (bytes : List ℕ) (config : Configuration) : Type 0 where
  pub top : Members
  pub read : ReadsTable bytes top
  pub accepted : first_refusal top ≡ None
  pub holds : HoldsTable top config

-- `toml` reads the bytes as no table
abbrev pub HasNoTable : List ℕ → Type 0
HasNoTable bytes = (top : Members) → ReadsTable bytes top → ⊥

-- `toml` reads the bytes as a table, and this refusal is the first that applies to it
pub record HasRefusedTable (bytes : List ℕ) (error : ConfigError) : Type 0 where
  pub top : Members
  pub read : ReadsTable bytes top
  pub first : first_refusal top ≡ Some error

-- the bytes meet this refusal
abbrev pub MeetsRefusal : List ℕ → ConfigError → Type 0
MeetsRefusal bytes Syntax = HasNoTable bytes
MeetsRefusal bytes NoMemory = ⊥
MeetsRefusal bytes error = HasRefusedTable bytes error

-- the fact holds, unless want of memory is the answer
abbrev pub UnlessMemory : Result Configuration ConfigError → Type 0 → Type 0
UnlessMemory (Err NoMemory) P = Unit {0}
UnlessMemory _ P = P

-- what reading bytes as a configuration may answer
abbrev pub IsConfigAnswer : List ℕ → Result Configuration ConfigError → Type 0
IsConfigAnswer bytes (Ok config) = IsConfigurationOf bytes config
IsConfigAnswer bytes (Err NoMemory) = Unit {0}
IsConfigAnswer bytes (Err error) = MeetsRefusal bytes error

-- a text has one line more than line feeds
abbrev pub line_count : List ℕ → ℕ
line_count bytes = count_by (λ c. c == 10) bytes + 1

-- `toml` reads the bytes as a table; or as none, and this is one of their lines, counted from 1
abbrev pub IsFaultLine : List ℕ → Option ℕ → Type 0
IsFaultLine bytes None = (top : Members) × ReadsTable bytes top
IsFaultLine bytes (Some line) = HasNoTable bytes × (1 ≤ line) × (line ≤ line_count bytes)
