use Rattle.nit_top.proofs.Lemmas.{film_of, picture_seen, pictures_in, same_film}
use Rattle.nit_top.proofs.laws.films_tell_of_their_region.Goals as goal

pub returns-clause-film : goal.returns-clause-film
returns-clause-film c = λ old other name file region journal entries run twin screen agree.
    let same = same_film region run.setup.config twin.setup.config (pictures_in run.are) (pictures_in twin.are) screen
    agree in (
      film_of region run.setup.config (pictures_in run.are),
      rw run.added_are at run.puts_are,
      rw (twin.added_are, ← same) at twin.puts_are,
    )

pub returns-clause-words : goal.returns-clause-words
returns-clause-words c = picture_seen c.picture_is_cut.ensures
