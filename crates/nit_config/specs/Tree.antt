-- What stands at a key of a table that `toml` gave, with a value for where nothing of the kind
-- stands there.
use Rattle.std.specs.Prelude.{◌≡◌, ℕ, ℤ, Bool, List, [], ◌∷◌, Some, map, codes, unwrap_or}
use Rattle.nit_config.specs.Below.{Data, IsUtf8, Items, Members, as_array, as_bool, as_integer}
use Rattle.nit_config.specs.Below.{as_str, as_table, get_member, item, no_items, no_members}
use Rattle.nit_config.specs.Below.{option_and_then, parse_document}

-- `toml` reads the bytes as this table: they are UTF-8, and a document
pub record ReadsTable (bytes : List ℕ) (top : Members) : Type 0 where
  pub utf8 : IsUtf8 bytes
  pub table : parse_document bytes ≡ Some top

-- the integer at a key, or another
abbrev pub integer_at : List ℕ → ℤ → Members → ℤ
integer_at key other ms = unwrap_or (option_and_then as_integer (get_member key ms)) other

-- the string at a key, or another
abbrev pub string_at : List ℕ → List ℕ → Members → List ℕ
string_at key other ms = unwrap_or (option_and_then as_str (get_member key ms)) other

-- the boolean at a key, or another
abbrev pub boolean_at : List ℕ → Bool → Members → Bool
boolean_at key other ms = unwrap_or (option_and_then as_bool (get_member key ms)) other

-- the members of a table, and none of another value
abbrev pub members_of : Data → Members
members_of d = unwrap_or (as_table d) no_members

-- the members of the table at a key, or none
abbrev pub members_at : List ℕ → Members → Members
members_at key ms = unwrap_or (option_and_then as_table (get_member key ms)) no_members

-- the items of an array as a list
abbrev pub list_of : Items → List Data
list_of no_items = []
list_of (item d ds) = d ∷ list_of ds

-- the elements of the array at a key, or none
abbrev pub elements_at : List ℕ → Members → List Data
elements_at key ms = list_of (unwrap_or (option_and_then as_array (get_member key ms)) no_items)

-- the elements of `client`
abbrev pub elements_of : Members → List Data
elements_of top = elements_at (codes "client") top

-- the members of `screen`, of `input`, and of each element of `client`
abbrev pub screen_table : Members → Members
screen_table top = members_at (codes "screen") top

abbrev pub input_table : Members → Members
input_table top = members_at (codes "input") top

abbrev pub client_tables : Members → List Members
client_tables top = map members_of (elements_of top)
