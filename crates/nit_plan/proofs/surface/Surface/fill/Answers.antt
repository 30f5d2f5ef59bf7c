use Rattle.nit_plan.proofs.Lemmas.{ap, arith, changed, for_any, is_between, next_between}
use Rattle.nit_plan.proofs.Lemmas.{none_between, refl, set_where, unchanged, with_words, ℕ, ◌∙◌}
use Rattle.nit_plan.proofs.surface.Surface.fill.Goals as goal

pub places-init : goal.places-init
places-init g c =
    let sight = unchanged _ _ (for_any _ _ (none_between c.args.from (λ n. c.args.w))) in
    record { sight = sight; rest = refl }

pub places-preserved : goal.places-preserved
places-preserved g c =
    record {
      sight = changed _ _ _ (g.Self.Glass.sight c.args.self.now) _ _ (for_any _ _
          (λ words. next_between c.args.from c.places.i c.args.w (λ n. c.args.w) words c.places.auto.i refl))
          c.places.invariant.sight c.store.ensures.sight;
      rest = c.store.ensures.rest ∙ c.places.invariant.rest;
    }

pub returns-clause-sight : goal.returns-clause-sight
returns-clause-sight g c =
    c.places.invariant.sight ∙ ap (λ (last : ℕ). with_words (set_where (is_between c.args.from last) (λ n. c.args.w))
    (g.Self.Glass.sight c.args.self.now)) (omega (arith, c.places-test.false, c.places.auto.i-end))
