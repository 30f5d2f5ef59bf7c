use Rattle.std.proofs.Common.{ap, refl, ◌∙◌, ◌≡◌}
use Rattle.nit_c.specs.Below.{Configuration, first_host, first_state, lettered, plain}
use Rattle.nit_c.proofs.opening.seated.Goals as goal

pub returns : goal.returns
returns c =
    let plainly : lettered plain c.args.config.now ≡ c.args.config.now = rw (← c.config.view_is) refl in
    c.in_ok-new.ensures.ok ∙ c.in_ok-seated.ensures
    ∙ ap (λ (k : Configuration). first_host (first_state k) k) plainly
