use Rattle.std.proofs.Common.{false, refl, sym, ◌≡◌}
use Rattle.nit_look.proofs.Lemmas.{added_inside, added_last, added_none, added_parts, is_area_within}
use Rattle.nit_look.proofs.Lemmas.{list_any}
use Rattle.nit_look.proofs.parts.Parts.add.Goals as goal
use Rattle.nit_look.proofs.parts.Parts.add.Goals.{then-is_empty-via-then-is_empty}
use Rattle.nit_look.proofs.parts.Parts.add.Goals.{then-is_empty-via-else-is_empty+then-is_inside_one}

pub returns-then-is_empty-clause-added : goal.returns-then-is_empty-clause-added
returns-then-is_empty-clause-added c = elim c.then-is_empty.branch [
  | then-is_empty-via-then-is_empty w ↦
      added_none c.args.self.now c.args.area.now (w.if-is_empty.ensures.none refl)
  | then-is_empty-via-else-is_empty+then-is_inside_one w ↦
      added_inside c.args.self.now c.args.area.now
      (rw (← c.self.view_is) (rw w.as_slice.ensures.value at (sym w.if-is_inside_one.ensures)))
]

pub invariant_of-self : goal.invariant_of-self
invariant_of-self c =
    rw c.push.ensures.items (added_parts c.self.inside.areas.items c.join-all.new.areas.items c.args.area.now
    c.join-all.result (c.if-is_empty.ensures.some refl) c.join-all.ensures.joined
    c.join-all.ensures.apart c.self.invariant c.join-all.ensures.room)

pub returns-clause-added : goal.returns-clause-added
returns-clause-added c =
    let outside : list_any (is_area_within c.args.area.now) c.self.inside.areas.items ≡ false =
    rw c.as_slice.ensures.value at (sym c.if-is_inside_one.ensures) in
    rw (c.push.ensures.items, ← c.self.view_is) (added_last c.self.inside.areas.items c.join-all.new.areas.items
    c.args.area.now c.join-all.result (c.if-is_empty.ensures.some refl) c.join-all.ensures.joined
    c.join-all.ensures.apart outside c.join-all.ensures.same)

pub returns-clause-parts : goal.returns-clause-parts
returns-clause-parts c =
    rw c.push.ensures.items (added_parts c.self.inside.areas.items c.join-all.new.areas.items c.args.area.now
    c.join-all.result (c.if-is_empty.ensures.some refl) c.join-all.ensures.joined
    c.join-all.ensures.apart c.self.invariant c.join-all.ensures.room)
