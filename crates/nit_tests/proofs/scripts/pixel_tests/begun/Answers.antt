use Rattle.std.proofs.Common.{arith, refl, subst, sym}
use Rattle.nit_plan.specs.Surface.{IsPaintedTo}
use Rattle.nit_pixels.specs.End.{new_sight}
use Rattle.nit_word.specs.Sight.{Sight}
use Rattle.nit_tests.proofs.scripts.pixel_tests.begun.Goals as goal

pub returns-clause-painted : goal.returns-clause-painted
returns-clause-painted c =
    subst (λ (s : Sight). IsPaintedTo c.args.client.now 16384 c.args.plan.now 0 s) (sym c.requires.canvas)
    (c.no_line_done.ensures.inked c.args.client.now 16384 c.args.plan.now (new_sight 0 c.args.client.now 16384)
    (omega arith, omega arith) c.requires.plan (c.ink_of_a_script.ensures.has c.args.client.now 16384) refl refl)
