use Rattle.nit_stack.proofs.Lemmas.{is_session, is_view, list_any-map, map-put_back, owner_of_views}
use Rattle.nit_stack.proofs.Lemmas.{view_layer, views_closed, views_put_front}
use Rattle.nit_stack.proofs.laws.seats_and_views.Goals as goal

pub returns : goal.returns
returns c =
    record {
      put_front = views_put_front;
      put_back = λ layer. map-put_back (λ s. s.view) (view_layer layer);
      closed = views_closed;
      session = λ sid. list_any-map (is_session sid) (λ s. s.view);
      named = λ sid handle. list_any-map (is_view sid handle) (λ s. s.view);
      owner = owner_of_views;
    }
