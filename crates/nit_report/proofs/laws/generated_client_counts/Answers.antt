use Rattle.nit_report.proofs.Lemmas.{client_calls, client_lines, client_phases}
use Rattle.nit_report.proofs.laws.generated_client_counts.Goals as goal

pub returns : goal.returns
returns c = record { lines = client_lines; calls = client_calls; phases = client_phases }
