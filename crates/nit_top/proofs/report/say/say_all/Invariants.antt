use Rattle.std.proofs.Common.{◌≡◌, take}
use Rattle.nit_top.proofs.Lemmas.{flat_map, piece_text, with_said}
use Rattle.nit_top.proofs.report.say.say_all.Given as goal

abbrev pub invariant-loop-part : goal.invariant-loop-part
invariant-loop-part g l = g.S.Store.shown l.store
    ≡ with_said (g.S.Store.shown l.initial.store) (flat_map piece_text (take l.part-index l.pieces))
