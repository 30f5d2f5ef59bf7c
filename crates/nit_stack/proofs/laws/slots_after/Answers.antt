use Rattle.nit_stack.proofs.Lemmas.{Put-back, Put-front, has-above, has-changed, has-moved}
use Rattle.nit_stack.proofs.Lemmas.{has-put_front, has-without, put_own_back, put_own_front}
use Rattle.nit_stack.proofs.Lemmas.{without_none, without_one}
use Rattle.nit_stack.proofs.laws.slots_after.Goals as goal

pub returns : goal.returns
returns c =
    record {
      push_front = has-put_front;
      remove = has-without;
      changed = has-changed;
      front = λ j k layer seats there.
          has-moved j k (put_own_front layer) seats there (λ s. Put-front layer (layer s) s);
      back = λ j k layer seats there.
          has-moved j k (put_own_back layer) seats there (λ s. Put-back layer (layer s) s);
      above = has-above;
      one_less = without_one;
      none_left = without_none;
    }
