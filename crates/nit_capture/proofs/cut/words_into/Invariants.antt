use Rattle.std.proofs.Common.{map, take, ◌*◌, ◌≡◌}
use Rattle.nit_capture.proofs.Lemmas.{range_with_len, word_of_bytes}
use Rattle.nit_capture.proofs.cut.words_into.Given as goal

abbrev pub invariant-loop-pixel : goal.invariant-loop-pixel
invariant-loop-pixel l = take l.pixel l.into ≡ map (λ k. word_of_bytes l.bytes (3 * k)) (range_with_len 0 l.pixel)
