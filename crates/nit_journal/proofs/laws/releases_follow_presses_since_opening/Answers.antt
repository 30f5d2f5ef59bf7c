use Rattle.nit_journal.proofs.Lemmas.{projection, release_down, since_begun, since_opening}
use Rattle.nit_journal.proofs.laws.releases_follow_presses_since_opening.Goals as goal

pub returns : goal.returns
returns c s steps x k before rest live first are =
    release_down k (projection x (since_opening x steps)) before rest (since_begun s steps x k live first are).0
