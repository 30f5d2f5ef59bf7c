use Rattle.nit_top.proofs.Lemmas.{Audit, ap, false, found_ends, name_text, setup_in, stopped_ends}
use Rattle.nit_top.proofs.audit.audited.Goals as goal

pub returns-in-Err : goal.returns-in-Err
returns-in-Err g c =
    stopped_ends c.in-Err.ensures c.ended_before_run.ensures.stop c.ended_before_run.ensures.journal

pub audit_end-end-requires-clause-runnable : goal.audit_end-end-requires-clause-runnable
audit_end-end-requires-clause-runnable g c = c.in-Ok.ensures.scripts.runnable

pub returns : goal.returns
returns g c =
    let read = c.in-Ok.read in
    let h = c.in-Ok.ensures in
    found_ends c.args.name.now c.args.journal.now (g.S.Store.shown c.args.store.now)
    (g.S.Store.shown c.read_audit.new.store) (setup_in read.run false) read.entries.items h.scripts h.asked h.text
    c.at_second.result (ap (name_text (Audit c.args.name.now c.args.journal.now)) c.at_second.ensures.1)
    (rw (c.at_second.ensures.0, ← c.deref.ensures.value) c.audit_end-end.ensures)
    c.ended_before_run-2.ensures.stop c.ended_before_run-2.ensures.journal
