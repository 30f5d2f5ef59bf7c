use Rattle.std.proofs.Common.{false, true}
use Rattle.nit_server.proofs.Lemmas.{get_or-replicate, most_sessions}
use Rattle.nit_server.proofs.server.input.opened_focus.Goals as goal

pub set_clicks-requires-clause-all : goal.set_clicks-requires-clause-all
set_clicks-requires-clause-all c =
    λ t few. rw c.new-focus.ensures (get_or-replicate most_sessions t true false few)
