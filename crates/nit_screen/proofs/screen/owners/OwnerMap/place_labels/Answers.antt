use Rattle.nit_screen.proofs.Lemmas.{MapRoom, all_placed, ap, arith, length, written, ◌∙◌}
use Rattle.nit_screen.proofs.Basics.{mul_comm}
use Rattle.nit_screen.proofs.screen.owners.OwnerMap.place_labels.Goals as goal

pub places-requires-clause-map : goal.places-requires-clause-map
places-requires-clause-map c =
    let map = c.as_slice.ensures.value ∙ ap (λ (m : MapRoom). m.map) c.self.view_is in
    rw c.size-width.ensures.size
    (ap length map ∙ c.requires.map.count ∙ mul_comm c.args.stack.now.width c.args.stack.now.height)

pub returns-clause-placed : goal.returns-clause-placed
returns-clause-placed c =
    let map = c.as_slice.ensures.value ∙ ap (λ (m : MapRoom). m.map) c.self.view_is in
    let widths = c.as_slice-2.ensures.value
    ∙ written _ c.measure.new.widths c.self.inside.widths.items (c.measure.ensures.count
    ∙ c.as_mut_slice.ensures.len) in
    let room = ap (λ (m : MapRoom). m.slots) c.self.view_is ∙ c.requires.room.2 in
    let all = c.measure.ensures.count ∙ ap length c.as_mut_slice.ensures.value ∙ room in
    let found = c.places.auto.found in
    all_placed c.args.lettering c.requires.lettering c.args.stack.now c.args.labels.now c.args.self.now.map c.measure.new.widths c.places.new.found
    c.measure.ensures.standing (omega arith) (omega arith) c.requires.map.numbers c.measure.ensures.measured
    (rw (map, widths, c.size-width.ensures.size, c.text_size-tall.ensures.size) at c.places.ensures)
