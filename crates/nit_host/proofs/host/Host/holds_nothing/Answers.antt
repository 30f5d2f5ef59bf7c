use Rattle.nit_host.proofs.Basics.{State}
use Rattle.nit_host.proofs.Lemmas.{ap, holds_nothing, nothing_held, ◌∙◌}
use Rattle.nit_host.proofs.host.Host.holds_nothing.Goals as goal

pub returns : goal.returns
returns c = c.is_empty.ensures ∙ nothing_held c.held.result.now ∙ ap holds_nothing (c.held.ensures ∙ ap (λ (s : State). s.input.held) c.desktop.ensures)
