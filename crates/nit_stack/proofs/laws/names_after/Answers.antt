use Rattle.nit_stack.proofs.Lemmas.{has-name, name-above, name-back, name-changed, name-front}
use Rattle.nit_stack.proofs.Lemmas.{name-put_front, name-without, name_has_slot, name_is_there}
use Rattle.nit_stack.proofs.laws.names_after.Goals as goal

pub returns : goal.returns
returns c =
    record {
      push_front = name-put_front;
      remove = name-without;
      changed = name-changed;
      front = name-front;
      back = name-back;
      above = name-above;
      has = has-name;
      named = name_is_there;
      slot = name_has_slot;
    }
