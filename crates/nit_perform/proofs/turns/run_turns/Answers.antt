use Rattle.std.proofs.Common.{rules, subst, ◌∙◌, ◌≡◌}
use Rattle.nit_perform.proofs.Lemmas.{HasRun, PutsAll, PutsLast, StoreModel, can_take_last, false}
use Rattle.nit_perform.proofs.Lemmas.{put_as_pictures, put_state_of_desk, put_state_of_run, refl}
use Rattle.nit_perform.proofs.Lemmas.{run_leaves, setup_of, state_now, stays_throughout, text_files}
use Rattle.nit_perform.proofs.Lemmas.{true, with_texts, written_whole}
use Rattle.nit_perform.proofs.turns.run_turns.Goals as goal

pub put_last-requires-clause-can : goal.put_last-requires-clause-can
put_last-requires-clause-can g c =
    let long = c.run_rounds.auto.owns ∙ c.deref_mut.ensures.len in
    rw (c.deref_mut-2.ensures.value, written_whole)
    (can_take_last c.buffer_within_table.ensures.words c.in_ok-opened.ensures c.run_rounds.ensures.run)

pub returns : goal.returns
returns g c =
    let long = c.run_rounds.auto.owns ∙ c.deref_mut.ensures.len in
    let shown = g.S.Store.shown in
    let ended = c.put_last.new.scene in
    let desk = c.run_rounds.new.viewer in
    let left = c.put_last.new.desk in
    let run = c.run_rounds.ensures.run in
    let shots = put_as_pictures _ (λ d. put_state_of_desk (shown d.store.now) d.fault d.tried) _ _ _
    (λ f before after' s. s.0) c.run_rounds.ensures.shown in
    let same_store = stays_throughout _ (λ d. d.store.ghost_name) _ _ _ (λ f before after' s. s.1.same_store)
    c.run_rounds.ensures.shown in
    let s = setup_of c.args.config.now c.args.scripts.now c.args.input.now true false in
    let at = put_state_of_desk (shown desk.store.now) desk.fault desk.tried in
    let final = put_state_of_desk (shown left.store.now) left.fault left.tried in
    let config : ended.config ≡ c.args.config.now =
    rw (c.put_last.ensures.taken.config, run.config, c.in_ok-opened.ensures.configuration) in
    let puts : PutsLast (state_now c.run_rounds.new.scene) c.run_rounds.new.owns at final =
    λ tables have. c.put_last.ensures.put tables (rw (c.deref_mut-2.ensures.value, written_whole) have) in
    let texts : PutsAll (text_files s ended.entries) final
    (put_state_of_run (shown c.leave_texts.new.store) c.leave_texts.result.fault) =
    rw (with_texts s ended.entries refl)
    (rw (c.leave_desk-store.ensures.puts, config) at c.leave_texts.ensures.puts) in
    subst (λ (last : StoreModel). HasRun (shown c.args.store.now) s last c.leave_texts.result) (search rules)
    (run_leaves at final c.rounds_are_whole.ensures c.one_more_entry.ensures.replayed refl refl
    c.in_ok-opened.ensures.configuration run c.put_last.ensures.taken shots puts texts
    c.leave_texts.ensures.journal c.leave_texts.ensures.frames)
