-- The work of a command, and then the line on it.
use Rattle.std.specs.Prelude.{◌≡◌, ℕ, List, Result}
use Rattle.nit_top.specs.Below.{Command, Entry, PutError, StoreModel, Worked}
use Rattle.nit_top.specs.SaidText.{Says}
use Rattle.nit_top.specs.Work.{Ends, line_on}
use Rattle.nit_top.specs.Answer.{code_of, status_of}

-- the line on the end of the work of a command was said, or a front of it, and the status goes by
-- both
pub record Finished (c : Command) (mid : StoreModel) (worked : Worked) (new : StoreModel)
    (status : ℕ) : Type 0 where
  pub said : Result (Unit {0}) PutError
  pub says : Says mid (line_on c worked) new said
  pub status_is : status ≡ status_of (code_of worked.stop.end) said

-- the work came to its end, and then the line was said
pub record Ended (old : StoreModel) (c : Command) (new : StoreModel) (status : ℕ)
    (journal : List Entry) : Type 0 where
  pub mid : StoreModel
  pub worked : Worked
  pub ends : Ends c old mid worked
  pub finished : Finished c mid worked new status
  pub journal_is : journal ≡ worked.journal.items
