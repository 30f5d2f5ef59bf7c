use Rattle.nit_place.proofs.Lemmas.{fits_within, least_only, place_least}
use Rattle.nit_place.proofs.laws.least_place.Goals as goal

pub returns-clause-least : goal.returns-clause-least
returns-clause-least c = place_least

pub returns-clause-only : goal.returns-clause-only
returns-clause-only c = least_only

pub returns-clause-within : goal.returns-clause-within
returns-clause-within c = fits_within
