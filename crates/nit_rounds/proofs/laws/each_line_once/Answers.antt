use Rattle.nit_rounds.proofs.Lemmas.{as_many_as_lines, client_lines, few_acts, user_lines}
use Rattle.nit_rounds.proofs.laws.each_line_once.Goals as goal

pub returns : goal.returns
returns c = record { clients = client_lines; user = user_lines; count = as_many_as_lines; acts = few_acts }
