use Rattle.std.proofs.Common.{◌≡◌}
use Rattle.nit_plan.proofs.Lemmas.{in_turn, is_between, set_where, with_words}
use Rattle.nit_plan.proofs.surface.Surface.alternate.Given as goal

abbrev pub invariant-places : goal.invariant-places
invariant-places g l = record {
  sight : g.Self.Glass.sight l.self ≡ with_words (set_where (is_between l.from l.i) (in_turn l.from l.c l.d))
      (g.Self.Glass.sight l.initial.self);
  rest : g.Self.Glass.rest l.self ≡ g.Self.Glass.rest l.initial.self;
}
