use Rattle.nit_audit.proofs.Lemmas.{HasView, all_filter, ap, found_all, is_view, moves, on_ok}
use Rattle.nit_audit.proofs.Lemmas.{put_above, raised, stays, sym, views_at, ◌∙◌}
use Rattle.nit_audit.proofs.views.Views.above.Goals as goal

pub returns-in_default : goal.returns-in_default
returns-in_default c =
    let none = sym (rw c.as_slice.ensures.value at c.first_key.ensures) ∙ c.in_default.is in
    rw (← c.self.view_is) (sym (stays (is_view c.args.sid c.args.handle)
    (put_above (is_view c.args.sid c.args.next))
    c.self.inside.records c.self.inside.keys.items none))

pub invariant_of-self : goal.invariant_of-self
invariant_of-self c =
    let found = sym (rw c.as_slice.ensures.value at c.first_key.ensures) ∙ c.in-Some.is in
    let has = found_all (HasView c.self.inside.records) _ c.self.inside.keys.items _ c.self.invariant found in
    c.put_in.ensures.kept c.self.inside.records has
    (rw c.take_out.ensures (all_filter (HasView c.self.inside.records) _ _ c.self.invariant))

pub returns : goal.returns
returns c =
    let found = sym (rw c.as_slice.ensures.value at c.first_key.ensures) ∙ c.in-Some.is in
    let at = rw (c.as_slice-2.ensures.value, c.take_out.ensures) at c.place_of-place.ensures.place in
    on_ok c.put_in.result (λ put. ap (views_at c.self.inside.records) put ∙ rw (← c.self.view_is, c.take_out.ensures)
    (moves (is_view c.args.sid c.args.handle) (put_above (is_view c.args.sid c.args.next)) c.self.inside.records
    c.self.inside.keys.items _ c.in-Some.key found (raised c.self.inside.records _ c.in-Some.key c.place_of-place.result
    (is_view c.args.sid c.args.next) at))) c.put_in.ensures.put
