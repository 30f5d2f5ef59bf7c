use Rattle.nit_host.proofs.Lemmas.{arith, by_source, nat_tests, of_none, of_past}
use Rattle.nit_host.proofs.laws.pixels_show_words_of_their_seats.Goals as goal

pub returns : goal.returns
returns c = grind (arith, nat_tests, by_source, of_past, of_none)
