-- What one opening is made of. No call changes it.
use Rattle.nit_hall.specs.Below.{BookName, BufferName, ClipLine, Configuration, InputLine, Line}
use Rattle.nit_hall.specs.Below.{List, PlanModel}

-- the name of its book, the configuration, a script, a plan and the buffer of its words for each
-- client in order, the input script, and a clip script for each client in order, or none at all
pub record OpeningParts : Type 0 where
  pub name : BookName
  pub config : Configuration
  pub scripts : List (List Line)
  pub plans : List PlanModel
  pub buffers : List BufferName
  pub input : List InputLine
  pub clips : List (List ClipLine)
