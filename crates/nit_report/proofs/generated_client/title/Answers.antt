use Rattle.nit_report.proofs.Lemmas.{arith, is_title}
use Rattle.nit_report.proofs.generated_client.title.Goals as goal

pub number-end-requires : goal.number-end-requires
number-end-requires c = let few = (is_title c.args.view c.requires).0 in omega arith

pub of-requires : goal.of-requires
of-requires c = rw c.number-end.ensures.written (is_title c.args.view c.requires).1
