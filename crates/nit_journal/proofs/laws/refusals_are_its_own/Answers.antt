use Rattle.nit_journal.proofs.Lemmas.{lacks_by_itself, refl}
use Rattle.nit_events.specs.declared.call.Reply.TheVariants as reply
use Rattle.nit_journal.proofs.laws.refusals_are_its_own.Goals as goal

pub returns : goal.returns
returns c =
    record {
      quota = λ config front rest sid call n m. lacks_by_itself config front rest sid call (reply.OutOfQuota n m) refl;
      reserve = λ config front rest sid call n m. lacks_by_itself config front rest sid call (reply.NoReserve n m) refl;
    }
