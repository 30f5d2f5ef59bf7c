use Rattle.nit_run.proofs.Lemmas.{generated_entries}
use Rattle.nit_run.proofs.laws.generated_runs_count.Goals as goal

pub returns : goal.returns
returns c = generated_entries c.generated_client_counts.ensures.calls c.generated_user_counts.ensures.devices
    c.generated_user_counts.ensures.shots
