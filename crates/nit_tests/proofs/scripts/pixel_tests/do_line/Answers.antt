use Rattle.std.proofs.Common.{ap, ◌∙◌}
use Rattle.nit_word.specs.Sight.{Sight}
use Rattle.nit_tests.proofs.scripts.pixel_tests.do_line.Goals as goal

pub stroke-requires-clause-before : goal.stroke-requires-clause-before
stroke-requires-clause-before g c = (16384, c.requires.painted)

pub stroke-requires-clause-next : goal.stroke-requires-clause-next
stroke-requires-clause-next g c = (16384, c.requires.painted, rw c.requires.free tt)

pub returns-clause-painted : goal.returns-clause-painted
returns-clause-painted g c = c.stroke.ensures.after 16384 c.requires.painted

pub returns-clause-size : goal.returns-clause-size
returns-clause-size g c = ap (λ (s : Sight). s.size) (c.stroke.ensures.sight 16384 c.requires.painted)

pub returns-clause-free : goal.returns-clause-free
returns-clause-free g c =
    ap (λ (s : Sight). s.stages) (c.stroke.ensures.sight 16384 c.requires.painted) ∙ c.requires.free
