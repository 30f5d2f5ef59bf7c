use Rattle.nit_host.proofs.Lemmas.{clicks_client, clicks_first, clicks_focus, clicks_locked}
use Rattle.nit_host.proofs.Lemmas.{clicks_moved, clicks_refused, clicks_seat, clicks_unseen}
use Rattle.nit_host.proofs.Lemmas.{shown_at}
use Rattle.nit_host.proofs.laws.clicks_go_where_the_user_saw.Goals as goal

pub returns : goal.returns
returns c = record {
  seat = clicks_seat;
  client = clicks_client;
  focus = clicks_focus;
  locked = clicks_locked;
  first = clicks_first;
  unseen = clicks_unseen;
  shown = shown_at;
  refused = clicks_refused;
  moved = clicks_moved;
}
