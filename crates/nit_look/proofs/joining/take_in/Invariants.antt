use Rattle.std.proofs.Common.{length, ◌≡◌}
use Rattle.nit_look.proofs.Lemmas.{AreParts, HasPlaces, IsApartFrom, IsJoined}
use Rattle.nit_look.proofs.joining.take_in.Given as goal

abbrev pub invariant-areas : goal.invariant-areas
invariant-areas l = record {
  parts : AreParts l.areas.items;
  pixels : HasPlaces l.all;
  joined : IsJoined l.fn.areas.items l.fn.one l.areas.items l.all;
  same : IsApartFrom l.fn.one l.fn.areas.items → (l.areas.items ≡ l.fn.areas.items) × (l.all ≡ l.fn.one);
}

abbrev pub decreases-areas : goal.decreases-areas
decreases-areas l = length l.areas.items
