use Rattle.nit_look.proofs.Lemmas.{around, joined_more, joined_one}
use Rattle.nit_look.proofs.joining.join_nearest.Goals as goal

pub take_in-requires-clause-parts : goal.take_in-requires-clause-parts
take_in-requires-clause-parts c =
    rw c.remove-part.ensures.items ((joined_one c.args.areas.now.items c.nearest-place.result c.remove-part.result
    c.args.one.now (rw c.as_slice.ensures.value at c.nearest-place.ensures) c.remove-part.ensures.value).parts c.requires.parts)

pub returns-clause-joined : goal.returns-clause-joined
returns-clause-joined c =
    joined_more _ c.remove-part.new.self.items _ _ (around c.args.one.now c.remove-part.result) _
    (rw c.remove-part.ensures.items (joined_one c.args.areas.now.items c.nearest-place.result c.remove-part.result
    c.args.one.now (rw c.as_slice.ensures.value at c.nearest-place.ensures) c.remove-part.ensures.value))
    (rw c.around.ensures at c.take_in.ensures.joined)
