use Rattle.std.proofs.Common.{All, take, true, ℕ, ◌≡◌}
use Rattle.nit_look.proofs.Lemmas.{IsAreaOf, has_any, has_place}
use Rattle.nit_look.proofs.parts.Parts.around.Given as goal

abbrev pub invariant-areas : goal.invariant-areas
invariant-areas l = record {
  area : (width height : ℕ) → All (IsAreaOf width height) l.areas → IsAreaOf width height l.all;
  all : (x y : ℕ) → has_any (take l.place l.areas) x y ≡ true → has_place l.all x y ≡ true;
}
