use Rattle.nit_perform.proofs.Lemmas.{File, PutsNext, ap, arith, at_member, ending_of, events_file}
use Rattle.nit_perform.proofs.Lemmas.{events_name, events_text, next_goes, next_stays, not}
use Rattle.nit_perform.proofs.Lemmas.{one_file_more, put_state_of_run, session, state_now, ◌∙◌}
use Rattle.nit_perform.proofs.texts.put_events.Goals.{else-is_none, then-is_none}
use Rattle.nit_perform.proofs.texts.put_events.Goals as goal

pub overflow_cast-sid : goal.overflow_cast-sid
overflow_cast-sid g c =
    let inside = rw c.requires at c.loop-sid-test.true in
    let few = c.size.ensures.configured.count.1 in
    omega arith

pub loop-sid-preserved : goal.loop-sid-preserved
loop-sid-preserved g c =
    let shown = g.S.Store.shown in
    let scene = c.args.scene.now in
    let before = c.loop-sid in
    let inside = rw c.requires at c.loop-sid-test.true in
    let file : File = (
      events_name c.index-clients-sid.result.label,
      events_text scene.entries before.sid (ending_of (session (state_now scene) before.sid)),
    ) in
    let step : PutsNext file (put_state_of_run (shown before.store) before.fault)
    (put_state_of_run (shown c.if-is_none.store) c.if-is_none.fault) =
    elim c.if-is_none.branch [
      | then-is_none w ↦ rw (w.store-is, w.fault-is) (next_goes file (shown before.store) before.fault
          (put_state_of_run (shown w.put_events_of-fault.new.store) w.put_events_of-fault.result) (c.is_none.ensures
          ∙ ap not w.if-is_none.true) w.put_events_of-fault.ensures)
      | else-is_none w ↦ rw (w.store-is, w.fault-is) (next_stays (shown before.store) file before.fault
          (c.is_none.ensures ∙ ap not w.if-is_none.false))
    ] in
    one_file_more (events_file scene.config scene.entries) before.sid
    (put_state_of_run (shown c.args.store.now) c.args.fault) (put_state_of_run (shown before.store) before.fault)
    (put_state_of_run (shown c.if-is_none.store) c.if-is_none.fault) (rw (c.index-clients-sid.is
    ∙ at_member scene.config before.sid c.index-clients-sid.result c.requires inside))
    before.invariant step
