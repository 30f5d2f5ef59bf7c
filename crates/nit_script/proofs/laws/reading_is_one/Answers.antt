use Rattle.nit_script.proofs.Lemmas.{same_read, sym, ◌∙◌}
use Rattle.nit_script.proofs.laws.reading_is_one.Goals as goal

pub returns-clause-lines : goal.returns-clause-lines
returns-clause-lines g c = λ bytes a b p q. same_read c.one_in_front.ensures bytes a b p q

pub returns-clause-bytes : goal.returns-clause-bytes
returns-clause-bytes g c = λ lines a b p q. p.1 ∙ sym q.1
