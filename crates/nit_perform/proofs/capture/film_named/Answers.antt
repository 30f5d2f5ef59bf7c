use Rattle.nit_perform.proofs.Lemmas.{sym, ◌∙◌}
use Rattle.nit_perform.proofs.capture.film_named.Goals as goal

pub returns-clause-same_store : goal.returns-clause-same_store
returns-clause-same_store g c = c.run_beside-ran.new.store.same ∙ sym c.requires.name
