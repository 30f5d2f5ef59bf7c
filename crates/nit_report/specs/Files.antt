-- The files of a generated run, as a value.
use Rattle.nit_report.specs.Below.{List, ℕ}

-- the bytes of the configuration, of each client's script in order, and of the user's script
pub record FilesModel : Type 0 where
  pub config : List ℕ
  pub clients : List (List ℕ)
  pub input : List ℕ
