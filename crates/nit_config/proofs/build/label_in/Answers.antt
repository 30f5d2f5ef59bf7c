use Rattle.nit_config.proofs.Lemmas.{ap, is_label, label_is_label, label_length, ◌∙◌}
use Rattle.nit_config.proofs.build.label_in.Goals as goal

pub text_at-requires : goal.text_at-requires
text_at-requires c = label_length _ (label_is_label _ c.requires)

pub of-requires : goal.of-requires
of-requires c = ap is_label (c.as_bytes.ensures.value ∙ c.text_at.ensures.same) ∙ label_is_label _ c.requires
