use Rattle.nit_journal.proofs.Lemmas.{paired_whole, projection, release_down}
use Rattle.nit_journal.proofs.laws.releases_follow_presses.Goals as goal

pub returns : goal.returns
returns c config journal s k before rest legal =
    release_down k (projection s journal) before rest (paired_whole s k config journal legal).0
