use Rattle.nit_script.proofs.Lemmas.{bad_for}
use Rattle.nit_script.proofs.parse.parse_input.Goals as goal

pub returns-in-Ok-clause-is_bad : goal.returns-in-Ok-clause-is_bad
returns-in-Ok-clause-is_bad c = λ line h. let never = c.in-Ok.ensures.is_bad line h in cc

pub returns-in-Err-clause-is_bad : goal.returns-in-Err-clause-is_bad
returns-in-Err-clause-is_bad c = λ line h. bad_for _ _ c.in-Err.error line (c.in-Err.ensures.is_bad line h)
