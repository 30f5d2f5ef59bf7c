use Rattle.nit_journal.proofs.Lemmas.{AreLive, [], along, begun, live_after, live_first}
use Rattle.nit_journal.proofs.Lemmas.{live_opened, live_restacked, refl, told_next, ℕ}
use Rattle.nit_journal.proofs.laws.live_sessions_stay.Goals as goal

pub returns : goal.returns
returns c =
    record {
      first = live_first;
      vacant = λ config. begun _ refl refl;
      entry = live_after;
      opened = live_opened;
      steps = λ s steps h are. along 0 (λ (a : ℕ) t done. AreLive t) 0
          (λ a t taken e done agrees live. live_after t taken e live agrees)
          (λ a t sid label done is live. live_opened t sid label live)
          (λ a t side sid v done live. live_restacked t side sid v live) 0 s steps [] are h;
      told = told_next;
    }
