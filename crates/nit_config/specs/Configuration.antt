-- A configuration, as a value.
use Rattle.std.specs.Prelude.{ℕ, Bool, true, false, ◌&&◌, nat_le, List, [], ◌∷◌, length}
use Rattle.std.specs.Prelude.{slice_index_or, codes, if◌then◌else◌}
use Rattle.nit_config.specs.Below.{Lettering, first_printable, last_printable, list_all}
use Rattle.nit_config.specs.Below.{most_run_units, picture_height, plain}
use Rattle.nit_config.specs.declared.config.Member.{Member}

-- the screen's size, whether it has a status bar, how texts are drawn there, the name of the input
-- script, and the clients in order
pub record Configuration : Type 0 where
  pub width : ℕ
  pub height : ℕ
  pub bar : Bool
  pub lettering : Lettering
  pub input : List ℕ
  pub clients : List Member

-- how many bytes the name of a file has at most
abbrev pub most_file_name : ℕ
most_file_name = 255

-- 1 to 255 bytes of printable ASCII
abbrev pub is_file_name : List ℕ → Bool
is_file_name text =
    nat_le 1 (length text) && nat_le (length text) most_file_name
    && list_all (λ b. nat_le first_printable b && nat_le b last_printable) text

-- the rows of the status bar, which are those of the picture of a text
abbrev pub bar_rows : Configuration → ℕ
bar_rows config = if config.bar then picture_height config.lettering else 0

-- the configuration, with texts drawn so
abbrev pub lettered : Lettering → Configuration → Configuration
lettered l config = record config { lettering = l }

-- the client of a session; one without a donation where there is none
abbrev pub member : Configuration → ℕ → Member
member config session =
    slice_index_or config.clients session
    (record { label = []; donation = 0; script = []; layer = 0; clicks = false })

-- what a session opens with, in units
abbrev pub donation_of : Configuration → ℕ → ℕ
donation_of config session = (member config session).donation

-- the configuration of a picture of one client's script, on a screen of this size
abbrev pub still_configuration : ℕ → ℕ → Configuration
still_configuration width height =
    record {
      width = width;
      height = height;
      bar = false;
      lettering = plain;
      input = codes "still";
      clients = record {
        label = codes "still";
        donation = most_run_units;
        script = codes "still";
        layer = 0;
        clicks = true;
      } ∷ [];
    }
