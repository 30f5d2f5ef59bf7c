use Rattle.std.proofs.Common.{drop, find, ◌≡◌}
use Rattle.nit_host.proofs.Lemmas.{covers}
use Rattle.nit_host.proofs.host.shown.first_covering.Given as goal

abbrev pub invariant-loop-view : goal.invariant-loop-view
invariant-loop-view l = find (λ v. covers v.rect l.p) (drop l.view-index l.views)
    ≡ find (λ v. covers v.rect l.p) l.views
