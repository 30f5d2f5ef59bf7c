use Rattle.nit_audit.proofs.Lemmas.{ap, created_views, layer, new_view, on_ok, views_at, ◌∙◌}
use Rattle.nit_audit.proofs.views.Views.create.Goals as goal

pub returns : goal.returns
returns c =
    let at = rw (c.as_slice.ensures.value, c.layer_of.ensures) at c.front_place-place.ensures.place in
    let updates = rw c.new_view.ensures at c.in_ok-key.ensures.updates in
    on_ok c.put_in.result (λ put. ap (views_at c.insert.new.self) put
    ∙ rw (← c.self.view_is) (created_views (λ v. layer c.args.config.now v.sid)
    (layer c.args.config.now c.args.sid) c.front_place-place.result c.in_ok-key.key (new_view c.args.sid c.args.handle)
    c.self.inside.keys.items
    c.self.inside.records c.insert.new.self c.self.invariant c.in_ok-key.ensures.was_vacant updates at))
    c.put_in.ensures.put
