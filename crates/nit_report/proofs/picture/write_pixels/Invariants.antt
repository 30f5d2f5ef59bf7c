use Rattle.std.proofs.Common.{take, ◌*◌, ◌++◌, ◌+◌, ◌≡◌}
use Rattle.nit_report.proofs.Lemmas.{channels, flat_map}
use Rattle.nit_report.proofs.picture.write_pixels.Given as goal

abbrev pub invariant-loop-word : goal.invariant-loop-word
invariant-loop-word l = record {
  end : l.end ≡ l.at + 3 * l.word-index;
  written : take l.end l.out ≡ take l.at l.fn.out ++ flat_map channels (take l.word-index l.frame);
}
