use Rattle.std.proofs.Common.{◌≡◌, ◌∙◌, List, length, true, ap, inl}
use Rattle.nit_top.proofs.Lemmas.{Configuration, HasFilmed, Line, Rectangle, begun_of}
use Rattle.nit_top.proofs.Lemmas.{first_capture, rectangle_of, setup_of}
use Rattle.nit_top.proofs.run.capture.perform_filmed.Goals as goal

pub returns : goal.returns
returns g c =
    let config = c.args.config.now in
    let region = c.args.region in
    let s = setup_of config c.args.scripts.now.clients.items c.args.scripts.now.input true true in
    let ran = c.in-Ok-run_filmed.ran in
    let same : c.in-Ok.film.capture ≡ begun_of region config =
    c.in-Ok.ensures.capture ∙ ap (λ (r : Rectangle). first_capture c.config.inside.width c.config.inside.height r)
    c.rect-rect.ensures.value ∙ ap (λ (k : Configuration). first_capture k.width k.height (rectangle_of region))
    c.config.view_is in
    let has : HasFilmed region (g.S.Store.shown c.args.store.now) s (g.S.Store.shown c.run_filmed.new.store)
    ran.journal.items ran.frames ran.fault = c.in-Ok-run_filmed.ensures region same in
    inl (record {
      ran = ran;
      has_run = has;
      headline = c.headline.ensures s ran.journal.items has.outputs c.requires.runnable has.is_journal has.are;
      end_is = c.after.ensures.end;
      name_is = c.after.ensures.name;
      journal_is = c.after.ensures.journal;
      clients_are = c.after.ensures.clients
          ∙ ap (λ (ls : List (List Line)). length ls) c.as_slice-clients.ensures.value;
      frames_are = c.after.ensures.frames;
    })
