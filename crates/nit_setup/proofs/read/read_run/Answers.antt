use Rattle.nit_setup.proofs.Lemmas.{film_read, run_read}
use Rattle.nit_setup.proofs.read.read_run.Goals as goal

pub returns-clause-run : goal.returns-clause-run
returns-clause-run g c = λ beside. run_read _ _ beside _ _ c.load_run.ensures

pub returns-clause-film : goal.returns-clause-film
returns-clause-film g c = λ region. film_read _ _ region _ _ c.load_run.ensures
