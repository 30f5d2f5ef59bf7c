-- The keys of a configuration.
use Rattle.std.specs.Prelude.{ℕ, Bool, true, false, not, ◌&&◌, ◌||◌, is_some, is_none, List, []}
use Rattle.std.specs.Prelude.{◌∷◌, map, codes, bytes_eq}
use Rattle.nit_config.specs.Below.{Boolean, Client, Data, Input, Integer, TableKey, Members}
use Rattle.nit_config.specs.Below.{TablePlace}
use Rattle.nit_config.specs.Below.{Screen, Table, Tables, Text, Top, as_array, as_bool, as_integer}
use Rattle.nit_config.specs.Below.{as_str, as_table, get_member, list_all, list_any, member}
use Rattle.nit_config.specs.Below.{no_members, option_map_or}
use Rattle.nit_config.specs.declared.keys.Kind.{Kind}
use Rattle.nit_config.specs.Tree.{list_of}

-- a key, the kind of its value, and whether it has to be there
pub record KeyRow : Type 0 where
  pub name : List ℕ
  pub kind : Kind
  pub is_required : Bool

-- a key that has to be there, and one that may be
abbrev pub required : List ℕ → Kind → KeyRow
required n k = record { name = n; kind = k; is_required = true }

abbrev pub optional : List ℕ → Kind → KeyRow
optional n k = record { name = n; kind = k; is_required = false }

-- the keys of the top
abbrev pub top_rows : List KeyRow
top_rows =
    required (codes "screen") Table ∷ required (codes "input") Table
    ∷ required (codes "client") Tables ∷ []

-- the keys of `screen`
abbrev pub screen_rows : List KeyRow
screen_rows =
    required (codes "width") Integer ∷ required (codes "height") Integer
    ∷ optional (codes "bar") Boolean ∷ []

-- the keys of `input`
abbrev pub input_rows : List KeyRow
input_rows = required (codes "script") Text ∷ []

-- the keys of a client
abbrev pub client_rows : List KeyRow
client_rows =
    required (codes "label") Text ∷ required (codes "donation") Integer
    ∷ required (codes "script") Text
    ∷ optional (codes "layer") Integer ∷ optional (codes "focus") Text ∷ []

-- the keys of a place
abbrev pub place_rows : TablePlace → List KeyRow
place_rows Top = top_rows
place_rows Screen = screen_rows
place_rows Input = input_rows
place_rows Client = client_rows

-- a key of the code as a row, and some of them
abbrev pub row_of : TableKey → KeyRow
row_of k = record { name = k.name.now; kind = k.kind; is_required = k.is_required }

abbrev pub rows_of : List TableKey → List KeyRow
rows_of keys = map row_of keys

-- the value is of the kind
abbrev pub is_of_kind : Kind → Data → Bool
is_of_kind Integer d = is_some (as_integer d)
is_of_kind Boolean d = is_some (as_bool d)
is_of_kind Text d = is_some (as_str d)
is_of_kind Table d = is_some (as_table d)
is_of_kind Tables d =
    option_map_or (λ ds. list_all (λ e. is_some (as_table e)) (list_of ds)) (as_array d) false

-- the key is there and its value is of another kind
abbrev pub is_of_other_kind : KeyRow → Members → Bool
is_of_other_kind r ms = option_map_or (λ d. not (is_of_kind r.kind d)) (get_member r.name ms) false

-- such a key is among the rows
unfoldable pub has_other_kind : List KeyRow → Members → Bool
has_other_kind rows ms = list_any (λ r. is_of_other_kind r ms) rows

-- the key is required and not there
abbrev pub is_lacking : KeyRow → Members → Bool
is_lacking r ms = r.is_required && is_none (get_member r.name ms)

-- such a key is among the rows
unfoldable pub lacks_key : List KeyRow → Members → Bool
lacks_key rows ms = list_any (λ r. is_lacking r ms) rows

-- the key is one of the rows
unfoldable pub is_known_key : List KeyRow → List ℕ → Bool
is_known_key rows key = list_any (λ r. bytes_eq r.name key) rows

-- a key is there that no row names
unfoldable pub has_unknown_key : List KeyRow → Members → Bool
has_unknown_key rows no_members = false
has_unknown_key rows (member key d ms) = not (is_known_key rows key) || has_unknown_key rows ms
