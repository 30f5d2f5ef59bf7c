-- The refusals of a table, in their order over the whole file.
use Rattle.std.specs.Prelude.{ℕ, Bool, false, ◌||◌, if◌then◌else◌, nat_lt, List, [], ◌∷◌, length}
use Rattle.nit_config.specs.Below.{ConfigError, KeyFault, Lacking, Members, None, Option, OtherKind}
use Rattle.nit_config.specs.Below.{Some, bytes_eq, list_any, map, most_run_sessions}
use Rattle.nit_config.specs.declared.error.ConfigError.TheVariants as refused
use Rattle.nit_config.specs.declared.refusals.KeyFault.TheVariants.{Unknown}
use Rattle.nit_config.specs.Keys.{KeyRow, top_rows, screen_rows, input_rows, client_rows}
use Rattle.nit_config.specs.Keys.{has_other_kind, lacks_key, has_unknown_key}
use Rattle.nit_config.specs.Ranges.{has_bad_size, has_bad_script, has_bad_value, label_of_table}
use Rattle.nit_config.specs.Ranges.{has_bad_label}
use Rattle.nit_config.specs.Tree.{elements_of, screen_table, input_table, client_tables}

-- the table has the fault, by the rows of its place
abbrev pub has_fault : KeyFault → List KeyRow → Members → Bool
has_fault OtherKind rows ms = has_other_kind rows ms
has_fault Lacking rows ms = lacks_key rows ms
has_fault Unknown rows ms = has_unknown_key rows ms

-- the top, `screen`, `input` or a client has the fault
unfoldable pub is_somewhere : KeyFault → Members → Bool
is_somewhere fault top =
    ((has_fault fault top_rows top || has_fault fault screen_rows (screen_table top))
    || has_fault fault input_rows (input_table top))
    || list_any (has_fault fault client_rows) (client_tables top)

-- the screen's size, the input script's name, or a value of a client is outside its range
unfoldable pub has_bad_range : Members → Bool
has_bad_range top =
    (has_bad_size (screen_table top) || has_bad_script (input_table top))
    || list_any has_bad_value (client_tables top)

-- a text stands twice in the list
abbrev pub stands_twice : List (List ℕ) → Bool
stands_twice [] = false
stands_twice (x ∷ xs) = list_any (bytes_eq x) xs || stands_twice xs

-- two clients have the same label
unfoldable pub has_label_twice : Members → Bool
has_label_twice top = stands_twice (map label_of_table (client_tables top))

-- the first of the refusals whose test holds
abbrev pub first_that_holds : List (Bool × ConfigError) → Option ConfigError
first_that_holds [] = None
first_that_holds (r ∷ rest) = if r.0 then Some r.1 else first_that_holds rest

-- the refusals in their order, each over the whole file before the next; a later test may hold too,
-- where an earlier one does
abbrev pub refusals : Members → List (Bool × ConfigError)
refusals top =
    (is_somewhere OtherKind top, refused.Kind)
    ∷ (is_somewhere Lacking top, refused.Missing)
    ∷ (nat_lt (length (elements_of top)) 1, refused.Missing)
    ∷ (is_somewhere Unknown top, refused.Unknown)
    ∷ (nat_lt most_run_sessions (length (elements_of top)), refused.TooMany)
    ∷ (has_bad_range top, refused.Range)
    ∷ (list_any has_bad_label (client_tables top), refused.Label)
    ∷ (has_label_twice top, refused.Twice)
    ∷ []

-- the first refusal that applies to a table, or none
unfoldable pub first_refusal : Members → Option ConfigError
first_refusal top = first_that_holds (refusals top)
