use Rattle.nit_slots.proofs.Lemmas.{last_greatest, last_held}
use Rattle.std.proofs.Common.{rules, ◌≡◌}
use Rattle.nit_slots.proofs.HandleLists.{last_handle}
use Rattle.nit_slots.proofs.table.Table.last.Goals as goal

pub returns-clause-held : goal.returns-clause-held
returns-clause-held c =
    let e : c.map.result ≡ last_handle c.self.inside.pairs.items = search rules in
    rw (← c.self.view_is) (last_held c.self.inside.pairs.items c.map.result e)

pub returns-clause-greatest : goal.returns-clause-greatest
returns-clause-greatest c =
    let e : c.map.result ≡ last_handle c.self.inside.pairs.items = search rules in
    rw (← c.self.view_is) (last_greatest 1 c.self.inside.pairs.items c.self.inside.next c.map.result
    c.self.invariant.table.rising e)
