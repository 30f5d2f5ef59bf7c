use Rattle.nit_config.proofs.Lemmas.{ap, labels_of, stands_twice, ◌∙◌}
use Rattle.nit_config.specs.Refusals.{has_label_twice}
use Rattle.nit_config.proofs.refusals.has_label_twice.Goals as goal

pub returns : goal.returns
unfolding has_label_twice
returns c = c.stands_twice.ensures ∙ ap stands_twice (labels_of _ _ c.elements_of.ensures)
