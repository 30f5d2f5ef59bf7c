use Rattle.nit_perform.proofs.Lemmas.{output_is_text}
use Rattle.nit_perform.proofs.puts.put_next.Goals as goal

pub name_of-requires : goal.name_of-requires
name_of-requires g c = rw c.name_into-end.ensures.name (output_is_text c.args.file c.requires)
