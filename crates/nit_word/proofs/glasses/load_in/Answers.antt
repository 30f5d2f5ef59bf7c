use Rattle.std.proofs.Common.{ap, slice_index_or}
use Rattle.nit_word.proofs.Lemmas.{left_at, listed_seen}
use Rattle.nit_word.proofs.glasses.load_in.Goals as goal

pub returns-then-sid-glasses-clause-sights : goal.returns-then-sid-glasses-clause-sights
returns-then-sid-glasses-clause-sights g c =
    listed_seen g.G.Glass.sight c.args.glasses.now _ c.load_row.new.self c.args.sid
    (ap (slice_index_or c.args.glasses.now c.args.sid) c.index-glasses-sid.is) c.if-sid-glasses.true c.args.from
    c.load_row.new.row c.load_row.ensures.sight

pub returns-then-sid-glasses-clause-rest : goal.returns-then-sid-glasses-clause-rest
returns-then-sid-glasses-clause-rest g c =
    left_at g.G.Glass.rest c.args.glasses.now _ c.load_row.new.self c.args.sid
    (ap (slice_index_or c.args.glasses.now c.args.sid) c.index-glasses-sid.is) c.load_row.ensures.rest
