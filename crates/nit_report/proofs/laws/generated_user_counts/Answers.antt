use Rattle.nit_report.proofs.Lemmas.{user_devices, user_lines, user_phase_count, user_shots}
use Rattle.nit_report.proofs.laws.generated_user_counts.Goals as goal

pub returns : goal.returns
returns c = record { lines = user_lines; devices = user_devices; shots = user_shots; phases = user_phase_count }
