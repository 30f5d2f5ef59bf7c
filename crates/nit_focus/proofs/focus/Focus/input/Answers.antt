use Rattle.std.proofs.Common.{subst, sym, ◌<◌, ◌≡◌}
use Rattle.nit_focus.proofs.Lemmas.{All-same, FocusModel, IsForgottenIfKilled, IsItem, IsRouted}
use Rattle.nit_focus.proofs.Lemmas.{IsWithinReach, deliveries_of, most_sessions, outcome, routed}
use Rattle.nit_focus.proofs.Lemmas.{routing_at}
use Rattle.nit_focus.proofs.focus.Focus.input.Goals as goal

-- the value before, as its fields show it
abbrev before : goal.After-routed → FocusModel
before c =
    let s = c.self.inside in record { input = s.state; width = s.width; height = s.height; clicks = s.clicks }

whole : (c : goal.After-routed) → IsRouted (before c) c.args.pointed (outcome c.route.new.self c.route.result)
whole c =
    let is : outcome c.route.new.self c.route.result ≡ routing_at (before c) c.args.pointed c.args.dev =
    rw (c.clicks_on-clicks.ensures, c.move_pointer.ensures) at c.route.ensures in
    subst (IsRouted (before c) c.args.pointed) (sym is)
    (routed (before c) c.args.pointed c.args.dev c.self.invariant c.requires.known c.requires.device)

pub invariant_of-self : goal.invariant_of-self
invariant_of-self c = (whole c).focusing

pub returns-clause-reached : goal.returns-clause-reached
returns-clause-reached c = rw (← c.self.view_is)
    (All-same (λ d. IsWithinReach c.self.inside.state c.args.pointed d.sid) (deliveries_of c.routed.result)
    c.route.result c.routed.ensures.all (whole c).reached)

pub returns-clause-sessions : goal.returns-clause-sessions
returns-clause-sessions c = All-same (λ d. d.sid < most_sessions) (deliveries_of c.routed.result) c.route.result
    c.routed.ensures.all (whole c).sessions

pub returns-clause-ranges : goal.returns-clause-ranges
returns-clause-ranges c = rw (← c.self.view_is)
    (All-same (λ d. IsItem c.self.inside.width c.self.inside.height d.item) (deliveries_of c.routed.result)
    c.route.result c.routed.ensures.all (whole c).ranges)

pub returns-clause-forgotten : goal.returns-clause-forgotten
returns-clause-forgotten c = All-same (λ d. IsForgottenIfKilled c.route.new.self d.sid d.item)
    (deliveries_of c.routed.result) c.route.result c.routed.ensures.all (whole c).forgotten

pub returns-clause-kept : goal.returns-clause-kept
returns-clause-kept c = rw (← c.self.view_is) (whole c).kept
