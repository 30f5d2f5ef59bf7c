use Rattle.nit_rounds.proofs.Lemmas.{kept_first, left_first_of}
use Rattle.nit_rounds.proofs.places.Places.new.Goals as goal

pub returns : goal.returns
returns c = let a = c.args in record {
  kept = kept_first a.scripts.now a.input.now c.requires;
  left = left_first_of a.scripts.now a.input.now c.requires;
}
