use Rattle.nit_paint.proofs.Lemmas.{piece_of_owner}
use Rattle.nit_paint.proofs.laws.pieces_of_owners.Goals as goal

pub returns : goal.returns
returns c = piece_of_owner
