use Rattle.std.proofs.Common.{ap, arith, List, ℕ, ◌+◌, ◌∙◌}
use Rattle.nit_host.proofs.Lemmas.{SheetModel, slice_index, word_loaded}
use Rattle.nit_host.proofs.sheet.SheetGlass.load_row.Goals as goal

pub returns-clause-loaded : goal.returns-clause-loaded
returns-clause-loaded c =
    λ j inside.
    word_loaded c.self.inside.owner c.self.inside.size c.self.inside.reached.items c.args.self.now.sight
    (c.args.from + j) _ (ap (λ (s : SheetModel). s.sight) c.self.view_is) c.self.invariant.0 c.self.invariant.1
    (omega (arith, inside, c.requires.places, c.read_row.ensures.count))
    (c.read_row.ensures.words j (omega (arith, inside, c.read_row.ensures.count))
    ∙ ap (λ (ws : List ℕ). slice_index ws (c.args.from + j)) c.deref.ensures.value)
