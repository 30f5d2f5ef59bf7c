use Rattle.nit_setup.proofs.Lemmas.{Loaded, [], ap, asking_none, clip_stopped, clips_read}
use Rattle.nit_setup.proofs.Lemmas.{reads_clips, refl, run_asked, run_valid, script_names}
use Rattle.nit_setup.proofs.Lemmas.{stopped_first, true, wanted_by}
use Rattle.nit_setup.proofs.read.read_clips.Goals as goal

pub returns-in-Err : goal.returns-in-Err
returns-in-Err g c = stopped_first (reads_clips _ _) refl c.in-Err.ensures

pub returns-in-Err-load_clips : goal.returns-in-Err-load_clips
returns-in-Err-load_clips g c =
    let old = g.S.Store.shown c.args.store.now in
    clip_stopped _ _ _ _ _ _ (run_asked old [] (asking_none old) c.in-Ok.ensures)
    (run_valid old [] (asking_none old) c.in-Ok.ensures true) _ _
    (rw (
      c.wanted_by-wanted.ensures,
      c.deref.ensures.value,
      c.deref-2.ensures.value,
      ap (λ (k : Loaded). wanted_by k.scripts.clients.items) c.run.view_is,
      ap (λ (k : Loaded). script_names k.config) c.run.view_is,
    )
    at c.in-Err-load_clips.ensures)

pub returns-in-Ok-load_clips : goal.returns-in-Ok-load_clips
returns-in-Ok-load_clips g c =
    let old = g.S.Store.shown c.args.store.now in
    clips_read _ _ _ _ _ _ (run_asked old [] (asking_none old) c.in-Ok.ensures)
    (run_valid old [] (asking_none old) c.in-Ok.ensures true) _ _
    (rw (
      c.wanted_by-wanted.ensures,
      c.deref.ensures.value,
      c.deref-2.ensures.value,
      ap (λ (k : Loaded). wanted_by k.scripts.clients.items) c.run.view_is,
      ap (λ (k : Loaded). script_names k.config) c.run.view_is,
    )
    at c.in-Ok-load_clips.ensures)
