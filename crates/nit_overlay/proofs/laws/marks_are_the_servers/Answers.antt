use Rattle.nit_overlay.proofs.Lemmas.{kill_tints, plain_is_label, xray_bright}
use Rattle.nit_overlay.proofs.laws.marks_are_the_servers.Goals as goal

pub returns-clause-xray : goal.returns-clause-xray
returns-clause-xray c = xray_bright

pub returns-clause-kill : goal.returns-clause-kill
returns-clause-kill c = kill_tints

pub returns-clause-plain : goal.returns-clause-plain
returns-clause-plain c = plain_is_label
