use Rattle.std.proofs.Common.{false, true}
use Rattle.nit_audit.proofs.Lemmas.{arith, get_or-replicate, most_sessions, refl}
use Rattle.nit_audit.proofs.replay.opened_focus.Goals as goal

pub loop-sid-init : goal.loop-sid-init
loop-sid-init c = record {
  rest = refl;
  told = λ t lt. absurd (omega (arith, lt));
  later = λ t le few. rw c.new-focus.ensures (get_or-replicate most_sessions t true false few);
}
