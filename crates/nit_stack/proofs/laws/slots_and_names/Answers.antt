use Rattle.nit_stack.proofs.Lemmas.{is_slot, moved_to, views_above, views_backed, views_changed}
use Rattle.nit_stack.proofs.Lemmas.{views_fronted, views_without, without}
use Rattle.nit_stack.proofs.laws.slots_and_names.Goals as goal

pub returns : goal.returns
returns c =
    record {
      removed = views_without;
      changed = views_changed;
      moved = λ k sid handle put put_view seats h along.
          moved_to k sid handle put put_view seats h (λ a e. along a (without (is_slot k) seats));
      front = views_fronted;
      back = views_backed;
      above = views_above;
    }
