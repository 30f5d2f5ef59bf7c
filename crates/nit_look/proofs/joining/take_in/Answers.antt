use Rattle.std.proofs.Common.{true, ◌≡◌}
use Rattle.nit_look.proofs.Lemmas.{apart_from, joined_more, joined_one, areas_meet, met_not_apart}
use Rattle.nit_look.proofs.Lemmas.{read_at, refl}
use Rattle.nit_look.proofs.joining.take_in.Goals as goal

pub areas-preserved : goal.areas-preserved
areas-preserved c =
    let areas = c.areas.areas.items in
    let place = c.in-Some.place in
    let part = c.remove-part.result in
    let known = c.areas.invariant in
    let found = read_at (λ a. areas_meet a c.areas.all ≡ true) areas place part c.remove-part.ensures.value
    (rw c.as_slice.ensures.value at c.in-Some.ensures.some) in
    let step = joined_one areas place part c.areas.all found.0 c.remove-part.ensures.value in
    rw (c.remove-part.ensures.items, c.around-all.ensures) (record {
      parts = step.parts known.parts;
      pixels = step.pixels known.pixels;
      joined = joined_more _ areas _ _ c.areas.all _ known.joined step;
      same = λ apart.
          let as_was = known.same apart in
          absurd (met_not_apart areas place part c.areas.all found.0 c.remove-part.ensures.value known.parts known.pixels
          found.1 (rw (as_was.0, as_was.1) apart));
    })

pub returns-clause-apart : goal.returns-clause-apart
returns-clause-apart c =
    apart_from c.areas.all c.areas.areas.items (rw c.as_slice.ensures.value at (c.in_default.ensures.none refl))
