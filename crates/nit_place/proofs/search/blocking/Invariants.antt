use Rattle.nit_place.proofs.Lemmas.{IsBlocking, part_at, views_of}
use Rattle.nit_place.proofs.search.blocking.Given as goal

abbrev pub invariant-views : goal.invariant-views
invariant-views l = IsBlocking (part_at (views_of l.stack.views)) l.i l.x l.y l.w l.h l.found
