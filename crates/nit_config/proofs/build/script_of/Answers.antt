use Rattle.nit_config.proofs.Lemmas.{ap, file_name_length, is_file_name, script_is_name, ◌∙◌}
use Rattle.nit_config.proofs.build.script_of.Goals as goal

pub text_at-requires : goal.text_at-requires
text_at-requires c = file_name_length _ (script_is_name _ c.requires)

pub new-requires : goal.new-requires
new-requires c = ap is_file_name (c.as_bytes.ensures.value ∙ c.text_at.ensures.same) ∙ script_is_name _ c.requires
