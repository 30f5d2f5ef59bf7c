use Rattle.nit_setup.proofs.Lemmas.{inl, inr, refl}
use Rattle.nit_setup.proofs.read.load_run.Goals as goal

pub returns-in-Err : goal.returns-in-Err
returns-in-Err g c = inl (refl, c.in-Err.ensures.loaded)

pub returns-in-Err-read_scripts : goal.returns-in-Err-read_scripts
returns-in-Err-read_scripts g c =
    inr (
      c.in-Ok.config,
      g.S.Store.shown c.load_config.new.store,
      assumption (c.in-Ok.ensures.configured, c.in-Ok.ensures.loaded),
      c.in-Err-read_scripts.ensures.read,
    )

pub returns-in-Ok-read_scripts : goal.returns-in-Ok-read_scripts
returns-in-Ok-read_scripts g c = record {
  between = g.S.Store.shown c.load_config.new.store;
  config = assumption (c.in-Ok.ensures.configured, c.in-Ok.ensures.loaded);
  scripts = c.in-Ok-read_scripts.ensures.read;
  runnable = c.in-Ok-read_scripts.ensures.runnable;
}
