use Rattle.nit_setup.proofs.Lemmas.{inl, inr}
use Rattle.nit_setup.proofs.read.load_outer_run.Goals as goal

pub returns-in-Err : goal.returns-in-Err
returns-in-Err g c = inl (c.at_first.ensures.1, rw c.at_first.ensures.0 c.in-Err.ensures.loaded)

pub returns-in-Err-read_outer : goal.returns-in-Err-read_outer
returns-in-Err-read_outer g c =
    inr (
      c.in-Ok.config,
      g.S.Store.shown c.load_config.new.store,
      assumption (c.in-Ok.ensures.configured, c.in-Ok.ensures.loaded),
      c.in-Err-read_outer.ensures.read,
    )

pub returns-in-Ok-read_outer : goal.returns-in-Ok-read_outer
returns-in-Ok-read_outer g c = record {
  between = g.S.Store.shown c.load_config.new.store;
  config = assumption (c.in-Ok.ensures.configured, c.in-Ok.ensures.loaded);
  scripts = c.in-Ok-read_outer.ensures.read;
  is_outer = c.in-Ok-read_outer.ensures.outer;
}
