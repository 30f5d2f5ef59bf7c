use Rattle.std.proofs.Common.{arith, ap, ◌∙◌, ◌≡◌}
use Rattle.nit_server.proofs.Lemmas.{Routing, nat_tests, routed_as, routed_is, routing_of}
use Rattle.nit_focus.specs.Focus as focusing
use Rattle.nit_server.proofs.server.Server.route.Goals as goal

-- the step of the focus is the one of the state
step : (c : goal.After-input) → focusing.routing_at c.self.inside.focus c.pointed-pointed.result c.args.dev
    ≡ routing_of c.args.self.now c.args.dev
step c = grind (arith, nat_tests, routed_is)

pub returns-clause-server : goal.returns-clause-server
returns-clause-server c = rw (c.input.ensures.state, step c, ← c.self.view_is)

pub returns-clause-routed : goal.returns-clause-routed
returns-clause-routed c = c.input.ensures.routed ∙ ap (λ (r : Routing). routed_as r.deliveries) (step c)

pub returns-clause-all : goal.returns-clause-all
returns-clause-all c = c.input.ensures.all ∙ ap (λ (r : Routing). r.deliveries) (step c)
