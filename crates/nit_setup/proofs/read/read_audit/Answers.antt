use Rattle.nit_setup.proofs.Lemmas.{Audit, IsNoJournalText, [], ap, asking_more, asking_none, false}
use Rattle.nit_setup.proofs.Lemmas.{journal_stopped, name_text, names_in, reads_audit, refl}
use Rattle.nit_setup.proofs.Lemmas.{run_asked, run_valid, setup_in, stopped_first, text_fault}
use Rattle.std.proofs.Common.{◌∷◌}
use Rattle.nit_setup.proofs.read.read_audit.Goals as goal

pub returns-in-Err : goal.returns-in-Err
returns-in-Err g c = stopped_first (reads_audit _ _ c.args.journal.now) refl c.in-Err.ensures

pub returns-in-Err-load_journal : goal.returns-in-Err-load_journal
returns-in-Err-load_journal g c =
    let old = g.S.Store.shown c.args.store.now in
    let s = setup_in c.in-Ok.run' false in
    journal_stopped _ _ _ _ s (run_asked old [] (asking_none old) c.in-Ok.ensures)
    (run_valid old [] (asking_none old) c.in-Ok.ensures false) IsNoJournalText (text_fault s) _ c.at_second.result
    (ap (name_text (Audit c.args.name.now c.args.journal.now)) c.at_second.ensures.1)
    (rw c.at_second.ensures.0 c.in-Err-load_journal.ensures.loaded)

pub returns-in-Ok-load_journal : goal.returns-in-Ok-load_journal
returns-in-Ok-load_journal g c =
    let old = g.S.Store.shown c.args.store.now in
    let asked = run_asked old [] (asking_none old) c.in-Ok.ensures in
    let loaded = c.in-Ok-load_journal.ensures.loaded in
    record {
      scripts = run_valid old [] (asking_none old) c.in-Ok.ensures false;
      asked = rw (loaded.0, asked)
          (asking_more old (c.args.name.now ∷ names_in c.in-Ok.run'.config) c.args.journal.now);
      text = rw asked at loaded.1;
      few = c.in-Ok-load_journal.ensures.few;
    }
