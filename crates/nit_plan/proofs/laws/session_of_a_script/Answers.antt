use Rattle.nit_plan.proofs.Lemmas.{as_its_calls_have_it, calls_done, donation_of, static_called}
use Rattle.nit_plan.proofs.laws.session_of_a_script.Goals as goal

pub returns : goal.returns
returns c =
    record {
      calls = calls_done 0;
      alone = static_called;
      live = λ config journal sid script k inside live made.
          rw (static_called script (donation_of config sid) k, ← made)
          (as_its_calls_have_it config journal sid inside live);
    }
