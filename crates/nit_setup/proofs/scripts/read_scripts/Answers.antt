use Rattle.nit_setup.proofs.Lemmas.{Configuration, ap, inl, inr, run_runnable, short_name}
use Rattle.nit_setup.proofs.Lemmas.{wanted_by, ◌∙◌}
use Rattle.nit_setup.proofs.scripts.read_scripts.Goals as goal

pub load_scripts-requires : goal.load_scripts-requires
load_scripts-requires g c = rw c.deref.ensures.value (rw (← c.config.view_is) at c.requires.clients)

pub at-requires : goal.at-requires
at-requires g c = rw c.as_str-name.ensures (short_name _ (rw (← c.config.view_is) at c.requires.input))

pub returns-in-Err-clause-read : goal.returns-in-Err-clause-read
returns-in-Err-clause-read g c = rw (← c.config.view_is) (inl (rw c.deref.ensures.value at c.in-Err.ensures))

pub returns-in-Err-load_input-clause-read : goal.returns-in-Err-load_input-clause-read
returns-in-Err-load_input-clause-read g c = rw (← c.config.view_is)
    (inr (record {
      scripts = c.in-Ok.clients.items;
      between = g.S.Store.shown c.load_scripts.new.store;
      clients = rw c.deref.ensures.value at c.in-Ok.ensures;
      named = λ k. c.at.ensures.1 k ∙ c.as_str-name.ensures;
      stopped = rw c.at.ensures.0 (rw (c.wanted_by.ensures, c.deref-2.ensures.value, c.as_str-name.ensures)
          at c.in-Err-load_input.ensures.loaded);
    }))

pub returns-in-Ok-load_input-clause-read : goal.returns-in-Ok-load_input-clause-read
returns-in-Ok-load_input-clause-read g c =
    let loaded = c.in-Ok-load_input.ensures.loaded in
    rw (← c.config.view_is) (record {
      between = g.S.Store.shown c.load_scripts.new.store;
      clients = rw c.deref.ensures.value at c.in-Ok.ensures;
      asked = rw c.as_str-name.ensures at loaded.0;
      valid = rw (c.wanted_by.ensures, c.deref-2.ensures.value, c.as_str-name.ensures) at loaded.1;
    })

pub returns-in-Ok-load_input-clause-runnable : goal.returns-in-Ok-load_input-clause-runnable
returns-in-Ok-load_input-clause-runnable g c = λ beside.
    run_runnable beside c.args.config.now c.in-Ok.clients.items c.in-Ok-load_input.input c.requires
    (rw (c.deref.ensures.value, ap (λ (k : Configuration). k.clients) c.config.view_is) at c.in-Ok.ensures.count)
    c.in-Ok.ensures.lines c.in-Ok.ensures.phases c.in-Ok-load_input.ensures.lines
    (rw (c.wanted_by.ensures, c.deref-2.ensures.value) at c.in-Ok-load_input.ensures.right)
