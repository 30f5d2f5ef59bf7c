use Rattle.nit_screen.proofs.Lemmas.{arith, few_views, nat_tests}
use Rattle.nit_screen.proofs.screen.framing.frame_by_pieces.Goals as goal

pub show_whole-requires-clause-room : goal.show_whole-requires-clause-room
show_whole-requires-clause-room c = grind (arith, nat_tests, few_views)
