use Rattle.std.proofs.Common.{None, arith, true, ◌≡◌}
use Rattle.std.proofs.lemmas.Option.{get_or_from_slice_get, slice_get_within}
use Rattle.nit_overlay.proofs.SlotLemmas.{placed_in, standing}
use Rattle.nit_overlay.specs.Terms.{draws_labels}
use Rattle.nit_overlay.proofs.owner.place_at.Goals as goal

pub bounds-lettered-v : goal.bounds-lettered-v
bounds-lettered-v c =
    let l = c.args.lettered.now in
    let draws : draws_labels l.look.mode ≡ true = grind (arith, c.in_default.not-Flat) in
    let seat = standing l.look.stack.now.views c.args.v c.requires.stands in
    slice_get_within l.look.places.now c.args.v.0 _ (placed_in l c.args.v seat.0 c.requires.look draws seat.1)

pub returns-in_default : goal.returns-in_default
returns-in_default c draws view at =
    let l = c.args.lettered.now in
    get_or_from_slice_get l.look.places.now c.args.v.0 _ None (placed_in l c.args.v view c.requires.look draws at)
