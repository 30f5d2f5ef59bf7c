use Rattle.nit_host.proofs.Lemmas.{SheetModel, ap, blank_again}
use Rattle.nit_host.proofs.sheet.Sheet.wipe.Goals as goal

pub returns-clause-sight : goal.returns-clause-sight
returns-clause-sight c = blank_again c.self.inside.owner c.self.inside.size c.self.inside.reached.items _
    c.args.self.now.sight (ap (λ (s : SheetModel). s.sight) c.self.view_is) c.self.invariant.1 c.clear.ensures.items
