use Rattle.std.specs.Prelude.{[], ◌∷◌}
use Rattle.nit_word.specs.Sight.{told_words}
use Rattle.nit_tests.proofs.scripts.pixel_tests.a_watching_reader_sees_what_was_agreed_on.Given as goal

abbrev pub ghosts-clear_watched : goal.ghosts-clear_watched
ghosts-clear_watched g a = record { stages = told_words a.canvas.now.sight.words ∷ [] ∷ [] }
