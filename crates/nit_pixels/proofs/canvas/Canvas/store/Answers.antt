use Rattle.nit_pixels.proofs.Lemmas.{rules, stores_keep, tells_words}
use Rattle.nit_pixels.proofs.canvas.Canvas.store.Goals as goal

pub store-requires : goal.store-requires
store-requires c =
    let may = rw (← c.self.view_is) at c.requires.word in (
      search rules,
      search rules,
      stores_keep _ _ _ _ _ _ (tells_words _ _ c.self.invariant.0.1) may.0 may.1,
    )
