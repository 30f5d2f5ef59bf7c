use Rattle.nit_plan.proofs.Lemmas.{changed, for_any, in_turn, next_between, none_between, refl}
use Rattle.nit_plan.proofs.Lemmas.{turn_there, unchanged, ◌∙◌}
use Rattle.nit_plan.proofs.surface.Surface.alternate.Goals as goal

pub places-init : goal.places-init
places-init g c =
    let a = c.args in
    record { sight = unchanged _ _ (for_any _ _ (none_between a.from (in_turn a.from a.c a.d))); rest = refl }

pub places-preserved : goal.places-preserved
places-preserved g c =
    let a = c.args in
    let turn = c.turn.ensures ∙ turn_there a.from a.c a.d c.places.i in
    record {
      sight = changed _ _ _ (g.Self.Glass.sight a.self.now) _ _ (for_any _ _
          (λ words. next_between a.from c.places.i c.turn.result (in_turn a.from a.c a.d) words c.places.auto.i turn))
          c.places.invariant.sight c.store.ensures.sight;
      rest = c.store.ensures.rest ∙ c.places.invariant.rest;
    }
