use Rattle.std.proofs.Common.{length, ◌≡◌}
use Rattle.nit_word.proofs.Lemmas.{IsLoadedTo}
use Rattle.nit_word.proofs.glass.Glass.load_row.Given as goal

abbrev pub invariant-places : goal.invariant-places
invariant-places g l = record {
  loaded : IsLoadedTo (g.Self.Glass.sight l.initial.self) l.from l.j l.row (g.Self.Glass.sight l.self);
  count : length l.row ≡ length l.initial.row;
  rest : g.Self.Glass.rest l.self ≡ g.Self.Glass.rest l.initial.self;
}
