use Rattle.std.proofs.Common.{length, ◌≡◌, ◌≤◌}
use Rattle.nit_overlay.proofs.Basics.{IsPainted}
use Rattle.nit_overlay.proofs.Lemmas.{stripe_rule, word_by}
use Rattle.nit_overlay.proofs.narrow.paint_pixels.Given as goal

abbrev pub invariant-pixels : goal.invariant-pixels
invariant-pixels l = record {
  count : length l.out ≡ length l.initial.out;
  after : l.fn.part.from ≤ l.x;
  painted : IsPainted (λ x w. word_by (stripe_rule l.stripe x) x l.fn.part.y w) l.raw l.initial.out l.out l.fn.part.from
      l.x;
}
