use Rattle.nit_config.proofs.Lemmas.{answer_configured, read, refused}
use Rattle.nit_config.proofs.read.read_config.Goals as goal

pub returns-clause-configured : goal.returns-clause-configured
returns-clause-configured c = answer_configured _ _ c.read_table.ensures

pub returns-clause-read : goal.returns-clause-read
returns-clause-read c = λ config h. read _ _ config c.read_table.ensures h

pub returns-clause-refused : goal.returns-clause-refused
returns-clause-refused c = λ error h. refused _ _ error c.read_table.ensures h
