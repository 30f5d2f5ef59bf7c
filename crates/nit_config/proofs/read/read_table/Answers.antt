use Rattle.nit_config.proofs.Lemmas.{refused_answers, refused_by, sym}
use Rattle.nit_config.proofs.read.read_table.Goals as goal

pub returns-in-Some : goal.returns-in-Some
returns-in-Some c = refused_answers _ _
    (refused_by _ _ _ (record { utf8 = c.in-Ok.ensures.ok.0; table = c.in-Ok.ensures.ok.1 }) (sym c.in-Some.ensures))
