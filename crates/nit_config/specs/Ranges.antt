-- The ranges of the values, each where nothing else is wrong with its key.
-- Where a required key is not there, the value that stands in for it is out of its range.
use Rattle.std.specs.Prelude.{ℕ, ℤ, pos, Bool, false, not, ◌&&◌, ◌||◌, List, [], codes, bytes_eq}
use Rattle.nit_config.specs.Below.{Members, int_lt, is_label, least_units, most_run_height}
use Rattle.nit_config.specs.Below.{most_run_units, most_run_width}
use Rattle.nit_config.specs.Configuration.{is_file_name}
use Rattle.nit_config.specs.Tree.{integer_at, string_at, boolean_at}

-- the integer is outside low..=high
abbrev pub is_outside : ℤ → ℤ → ℤ → Bool
is_outside low high z = int_lt z low || int_lt high z

-- the width or the height is outside its range, or the bar does not fit
unfoldable pub has_bad_size : Members → Bool
has_bad_size screen =
    (is_outside (pos 1) (pos most_run_width) (integer_at (codes "width") (pos 0) screen)
    || is_outside (pos 1) (pos most_run_height) (integer_at (codes "height") (pos 0) screen))
    || (boolean_at (codes "bar") false screen
    && int_lt (integer_at (codes "height") (pos 0) screen) (pos 8))

-- the script has no name of a file
unfoldable pub has_bad_script : Members → Bool
has_bad_script ms = not (is_file_name (string_at (codes "script") [] ms))

-- the `focus` is another string than `click` and `none`
unfoldable pub has_bad_focus : Members → Bool
has_bad_focus client =
    not (bytes_eq (codes "click") (string_at (codes "focus") (codes "click") client)
    || bytes_eq (codes "none") (string_at (codes "focus") (codes "click") client))

-- a value of the client is outside its range
unfoldable pub has_bad_value : Members → Bool
has_bad_value client =
    ((is_outside (pos least_units) (pos most_run_units)
    (integer_at (codes "donation") (pos 0) client)
    || is_outside (pos 0) (pos 7) (integer_at (codes "layer") (pos 0) client))
    || has_bad_script client)
    || has_bad_focus client

-- the text of a client's label
abbrev pub label_of_table : Members → List ℕ
label_of_table client = string_at (codes "label") [] client

-- the text of the client's label is no label
unfoldable pub has_bad_label : Members → Bool
has_bad_label client = not (is_label (label_of_table client))
