use Rattle.std.proofs.Common.{None, map, ◌∙◌, ◌≡◌}
use Rattle.nit_perform.proofs.InnerLemmas.{last_is}
use Rattle.nit_perform.proofs.Lemmas.{Configuration, HaveTables, NestState, ShotFrame, TakesNext}
use Rattle.nit_perform.proofs.Lemmas.{[], ap, by_turns, can_take_last, last_frame, left_tables}
use Rattle.nit_perform.proofs.Lemmas.{no_frames, rounds_journal, run_files, shot_frames_of}
use Rattle.nit_perform.proofs.Lemmas.{tables_left, taken_all, takes_more, written_whole}
use Rattle.nit_perform.proofs.inner.play.Goals as goal

pub take_last-requires : goal.take_last-requires
take_last-requires c =
    let long = c.run_rounds.auto.owns ∙ c.deref_mut.ensures.len in
    rw (c.deref_mut-2.ensures.value, written_whole)
    (can_take_last c.buffer_within_table.ensures.words c.requires c.run_rounds.ensures.run)

pub returns-clause-journal : goal.returns-clause-journal
returns-clause-journal c =
    let i = run_files c.args.config.now c.args.scripts.now c.args.input.now in
    let run = c.run_rounds.ensures.run in
    rw (c.into_entries.ensures, c.into_journal.ensures.entries) (rounds_journal c.rounds_are_whole.ensures (by_turns i)
    (run.config ∙ c.requires.configuration) run.entries c.take_last.ensures.taken)

pub returns-clause-frames : goal.returns-clause-frames
returns-clause-frames c =
    let config = c.args.config.now in
    let scripts = c.args.scripts.now in
    let i = run_files config scripts c.args.input.now in
    let opened = c.args.opened in
    let mid = c.run_rounds.new.scene in
    let run = c.run_rounds.ensures.run in
    let viewer = c.run_rounds.new.viewer in
    let at : NestState = record { nest = viewer.nest; fault = viewer.fault } in
    let now : NestState = record { nest = c.take.new.self.nest; fault = c.take.new.self.fault } in
    let begun : opened.scene.config ≡ config = c.requires.configuration in
    let long = c.run_rounds.auto.owns ∙ c.deref_mut.ensures.len in
    let tables : HaveTables c.run_rounds.new.owns (tables_left config scripts) = rw begun at (left_tables run) in
    let shown = c.take_last.ensures.frame (tables_left config scripts)
    (rw (c.deref_mut-2.ensures.value, written_whole) tables) in
    let out : c.frame.result.now ≡ last_frame i = rw (c.frame.ensures.shown.frame, shown)
    (last_is c.drawn_as_replayed.ensures i mid (run.config ∙ begun) run.legal run.entries) in
    let next : TakesNext (last_frame i) at now = rw out at c.take.ensures.taken in
    let nest_is : c.new.result ≡ no_frames i = c.new.ensures
    ∙ ap (λ (k : Configuration). record { w = k.width; h = k.height; frames = [] }) c.config.view_is in
    let shots = taken_all _ (λ v. record { nest = v.nest; fault = v.fault }) (λ f before after' s. s)
    (shot_frames_of opened.scene.config scripts c.args.input.now) _ _ c.run_rounds.ensures.shown in
    takes_more (map (λ (f : ShotFrame). f.words) (shot_frames_of config scripts c.args.input.now)) (last_frame i)
    (record { nest = no_frames i; fault = None }) at now (rw (begun, nest_is) at shots) next
