use Rattle.std.proofs.Common.{[], ◌++◌, ◌∷◌}
use Rattle.nit_perform.proofs.added.put_film.Goals as goal

pub returns-then-whole-clause-whole : goal.returns-then-whole-clause-whole
returns-then-whole-clause-whole g c =
    λ whole. c.put_made.ensures (c.args.film.bytes.items ++ 0 ∷ []) c.into_stream.ensures

pub returns-else-whole-clause-not_whole : goal.returns-else-whole-clause-not_whole
returns-else-whole-clause-not_whole g c = λ not bytes. c.put_made-else-whole.ensures bytes tt
