use Rattle.nit_perform.proofs.Lemmas.{setting, ◌∙◌}
use Rattle.nit_perform.proofs.clips.run_with_clips.Goals as goal

pub buffers_of-requires : goal.buffers_of-requires
buffers_of-requires g c =
    record {
      configured = c.requires.runnable.configured;
      each = rw (c.as_slice-clients.ensures.value, c.requires.runnable.scripts);
    }

pub open_pairs-requires-clause-setting : goal.open_pairs-requires-clause-setting
open_pairs-requires-clause-setting g c = setting (rw c.as_slice-clients.ensures.value c.requires.runnable.scripts)
    (c.deref-2.ensures.value ∙ c.in_ok-plans.ensures.plans)
