use Rattle.nit_slots.proofs.Lemmas.{all_free, ap, arith, free_at_first, length}
use Rattle.nit_slots.proofs.Lemmas.{length-range_with_len}
use Rattle.nit_slots.proofs.slots.Slots.new.Goals as goal

pub invariant_of-result : goal.invariant_of-result
invariant_of-result c =
    let total = c.args.total in
    record {
      free = rw c.in_ok-free.ensures (free_at_first total);
      space = omega (arith, c.in_ok-free.free.ok.0, ap length c.in_ok-free.ensures, length-range_with_len 0 total);
    }

pub returns : goal.returns
returns c = rw c.in_ok-free.ensures (λ i. record { total = c.args.total; taken = all_free c.args.total i })
