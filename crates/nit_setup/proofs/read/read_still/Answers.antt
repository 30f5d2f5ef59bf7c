use Rattle.nit_setup.proofs.Lemmas.{ap, arith, idle_user, inl, picture_read, picture_stopped}
use Rattle.nit_setup.proofs.Lemmas.{still_runnable, ◌∙◌}
use Rattle.nit_setup.proofs.read.read_still.Goals as goal

pub returns-in-Err : goal.returns-in-Err
returns-in-Err g c = picture_stopped c.at_first.ensures c.in-Err.ensures.loaded

pub returns-in_default : goal.returns-in_default
returns-in_default g c = picture_stopped c.at_first-in_default.ensures (inl c.in-Ok.ensures.loaded.0)

pub returns-in_default-idle_user : goal.returns-in_default-idle_user
returns-in_default-idle_user g c =
    picture_stopped c.at_first-in_default-idle_user.ensures (inl c.in-Ok.ensures.loaded.0)

pub returns : goal.returns
returns g c =
    let size = c.requires in
    let loaded = c.in-Ok.ensures.loaded in
    record {
      config = c.in-Ok-still_configuration.ensures;
      input = c.in-Ok-idle_user.ensures ∙ ap idle_user c.lines.ensures.value;
      read = picture_read loaded.0 loaded.1 (still_runnable c.args.width c.args.height c.in-Ok.client
          (omega (arith, size.0)) size.1 (omega (arith, size.2)) size.3 c.in-Ok.ensures.lines);
    }
