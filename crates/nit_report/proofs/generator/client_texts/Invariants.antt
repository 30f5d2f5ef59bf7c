use Rattle.std.proofs.Common.{map, ◌≡◌}
use Rattle.nit_report.proofs.Lemmas.{client_text, range_with_len}
use Rattle.nit_report.proofs.generator.client_texts.Given as goal

abbrev pub invariant-loop-client : goal.invariant-loop-client
invariant-loop-client l = map (λ v. v.items) l.texts.items ≡ map (client_text l.fn.n) (range_with_len 0 l.client)
