use Rattle.std.proofs.Common.{None, ap, refl, ◌∙◌, ◌≡◌}
use Rattle.nit_host.proofs.Lemmas.{Foremost, HostModel, put, put_in_front, stands_if, when_served}
use Rattle.nit_host.proofs.host.Host.raise.Goals as goal

-- what is left
done : (c : goal.After-self-1) → record c.serve-done.new.self { last = None }
    ≡ put Foremost c.args.client.seat c.args.view c.args.self.now
done c =
    ap (λ (h : HostModel). record h { last = None }) c.serve-done.ensures.host
    ∙ put_in_front c.args.self.now c.args.client.seat c.args.view
    (stands_if c.args.self.now c.args.client c.args.view c.in_default.ensures)

pub returns-clause-raised : goal.returns-clause-raised
returns-clause-raised c = λ _. (refl, ap (λ (h : HostModel). record h { last = None }) c.self.view_is ∙ done c)

pub returns-clause-act : goal.returns-clause-act
returns-clause-act c =
    when_served c.args.self.now c.in_default.ensures
    (ap (λ (h : HostModel). record h { last = None }) c.self.view_is ∙ done c)
