use Rattle.std.proofs.Common.{arith, false, refl, ◌≡◌}
use Rattle.nit_audit.proofs.Lemmas.{View, covers, find-map, in_bar, ints, map_twice, owner_small}
use Rattle.nit_audit.proofs.Lemmas.{sym, view_under}
use Rattle.nit_audit.proofs.views.Views.owner.Goals as goal

pub returns-clause-owner : goal.returns-clause-owner
returns-clause-owner c =
    let below : in_bar c.args.rows c.args.p ≡ false = grind (arith, ints) in
    let found = rw c.as_slice.ensures.value at c.covering.ensures in
    rw (← c.self.view_is, found, below, find-map (λ (v : View). covers v.rect c.args.p))
    (sym (map_twice (λ (v : View). v.sid) (view_under c.self.inside.records) _))

pub returns-clause-known : goal.returns-clause-known
returns-clause-known c =
    let found = rw c.as_slice.ensures.value at c.covering.ensures in
    rw found (owner_small c.self.inside.records c.self.inside.keys.items
    (λ k. covers (view_under c.self.inside.records k).rect c.args.p) _ c.self.invariant refl)
