use Rattle.nit_host.proofs.Lemmas.{SheetModel, ap, arith, get_or-eq_default, get_or_default, sym}
use Rattle.nit_host.proofs.Lemmas.{word_loaded, ◌∙◌}
use Rattle.nit_host.proofs.sheet.SheetGlass.load.Goals as goal
use Rattle.nit_host.proofs.sheet.SheetGlass.load.Goals.{else-i-len, then-i-len}

pub returns-clause-loaded : goal.returns-clause-loaded
returns-clause-loaded c =
    word_loaded c.self.inside.owner c.self.inside.size c.self.inside.reached.items c.args.self.now.sight c.args.i
    c.if-i-len.result (ap (λ (s : SheetModel). s.sight) c.self.view_is) c.self.invariant.0 c.self.invariant.1
    c.requires
    (elim c.if-i-len.branch [
      | then-i-len w ↦ w.result-is ∙ w.index.ensures
          ∙ get_or_default c.self.inside.reached.items c.args.i _ 0
          (omega (arith, w.if-i-len.true, c.len.ensures, c.self.inside.reached.ok.0))
      | else-i-len w ↦ w.result-is ∙ sym
          (get_or-eq_default c.self.inside.reached.items 0
          (omega (arith, w.if-i-len.false, c.len.ensures, c.self.inside.reached.ok.0)))
    ])
