use Rattle.nit_journal.proofs.Lemmas.{IsTaken, Session, [], after_set, first_session}
use Rattle.nit_journal.proofs.Lemmas.{get_or-set_other, refl, serve, session, taken_served}
use Rattle.nit_journal.proofs.laws.calls_touch_no_other.Goals as goal

pub returns : goal.returns
returns c =
    record {
      others = λ s sid call r x other.
          get_or-set_other s.sessions sid x (serve (session s sid) call).session (first_session 0) other;
      queues = λ s sid call r x.
          after_set (λ (t : Session). IsTaken (session s x).queue t.queue) s.sessions sid x _ (first_session 0)
          (λ own. rw (← own) (taken_served (session s sid) call)) ([], refl);
    }
