use Rattle.std.proofs.Common.{map, ◌≡◌, subst, sym}
use Rattle.nit_actor.proofs.Lemmas.{all_again}
use Rattle.nit_actor.proofs.crew.run_crew.Goals as goal

pub run_mine-requires-clause-fits : goal.run_mine-requires-clause-fits
run_mine-requires-clause-fits g c =
    all_again g.P.Actor.role g.P.Actor.fits c.deref_mut.result.now c.args.passes.now.items
    (subst (λ v. map g.P.Actor.role c.deref_mut.result.now ≡ map g.P.Actor.role v.items) c.replace.ensures.value
    (subst (λ ps. map g.P.Actor.role ps ≡ map g.P.Actor.role c.replace.result.items) (sym c.deref_mut.ensures.value)
    c.run_all-ran.ensures.same))
    c.requires.fits
