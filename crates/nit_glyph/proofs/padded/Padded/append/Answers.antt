use Rattle.std.proofs.Common.{ap, arith, length, ◌++◌, ◌∙◌}
use Rattle.nit_glyph.proofs.Lemmas.{padded-append, take-padded}
use Rattle.nit_glyph.proofs.padded.Padded.append.Goals as goal

pub invariant_of-self : goal.invariant_of-self
invariant_of-self g c =
    rw c.copy_from_slice.ensures.after
    (padded-append _ _ _ _ _ c.self.invariant (omega (arith, ap length c.self.view_is, c.self.invariant.counted))
    (omega arith))

pub returns : goal.returns
returns g c =
    rw c.copy_from_slice.ensures.after
    (take-padded _ _ _ _ _ c.self.invariant ∙ ap (λ before. before ++ c.args.text.now) c.self.view_is)
