use Rattle.std.proofs.Common.{arith, ◌≤◌}
use Rattle.nit_pixels.proofs.Lemmas.{ap, take-replicate, ◌∙◌}
use Rattle.nit_word.specs.Zeros.{zeros}
use lib.ListN.{take}
use Rattle.nit_pixels.proofs.zeros.zero_words.Goals as goal

pub returns : goal.returns
unfolding zeros
returns c =
    let count = c.table_size-count.result in
    let size = c.table_size-count.ensures in
    let few : count ≤ 1048576 = omega (arith, size.size) in
    ap (take count) c.all.ensures ∙ take-replicate count 1048576 0 few ∙ ap zeros size.size
