use Rattle.nit_run.proofs.Lemmas.{no_shot, one_file}
use Rattle.nit_run.proofs.laws.still_puts_one_file.Goals as goal

pub returns-clause-files : goal.returns-clause-files
returns-clause-files c = one_file c.each_line_once.ensures.user

pub returns-clause-shots : goal.returns-clause-shots
returns-clause-shots c = no_shot
