use Rattle.std.proofs.Common.{slice_index, ℕ, ◌+◌, ◌<◌, ◌≡◌}
use Rattle.nit_overlay.proofs.Lemmas.{Text, word_by}
use Rattle.nit_overlay.proofs.paint.paint_text.Given as goal

abbrev pub invariant-dots : goal.invariant-dots
invariant-dots l = (k : ℕ) → k < l.k → slice_index l.out k ≡ word_by (Text l.tag) (l.x + k) l.y 0
