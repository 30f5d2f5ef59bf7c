use Rattle.std.proofs.Common.{◌∙◌, List, ◌∷◌, ◌++◌, refl, ap, Some, subst}
use Rattle.nit_top.proofs.Lemmas.{AreOutputs, AreShots, Entry, File, IsInnerJournal, MayShowFrames}
use Rattle.nit_top.proofs.Lemmas.{RunFiles, SeenLaws, Setup, begun_first, by_turns, final_name}
use Rattle.nit_top.proofs.Lemmas.{final_picture, first_counts, first_state, fits_first}
use Rattle.nit_top.proofs.Lemmas.{frames_pictured, nest_of, seen, shots_of, shown_first, text_files}
use Rattle.nit_top.proofs.laws.inner_runs_are_seen.Goals as goal

-- what a run by turns with this journal would put
turns_put : (i : RunFiles) (journal : List Entry) → (files : List File) × AreOutputs (by_turns i) journal files
turns_put i journal =
    let shots : List File = shots_of i.config i.scripts i.input in
    let are : AreShots (by_turns i) journal shots =
    record {
      by_rounds = λ is. refl;
      beside = λ together. absurd cc;
      history = λ together. absurd cc;
    } in
    (shots ++ (final_name, final_picture (by_turns i) journal) ∷ text_files (by_turns i) journal, (shots, are, refl))

pub returns-clause-told : goal.returns-clause-told
returns-clause-told c = λ old outer inner journal run.
    let n = run.files_are.of_command in
    let is : IsInnerJournal (Some n.i) run.added = rw (ap (λ (s : Setup). s.inner) n.setup) at run.added_are in
    let put = turns_put n.i is.0 in
    record {
      journal = is.0;
      added_is = is.2;
      is_journal = is.1;
      clients = (c.headline.ensures (by_turns n.i) is.0 put.0 n.runnable is.1 put.1).clients;
      frames = frames_pictured c.drawn_as_replayed.ensures
          (λ config front e. c.one_more_entry.ensures.replayed (first_state config) front e)
          c.fronts_are_legal.ensures.legal n.i is.0 (c.configuration_stays.ensures.configuration n.i.config is.0)
          is.1;
    }

pub returns-clause-seen : goal.returns-clause-seen
returns-clause-seen c = λ old outer inner journal run.
    let s = run.setup in
    let n = run.files_are.of_command in
    let begun = begun_first n.o n.is_outer in
    let own = begun.0 in
    let rest = begun.1 in
    let none = fits_first inner n.o n.i n.fits in
    let scripts = ap (λ (t : Setup). t.scripts) n.setup ∙ ap (shown_first (nest_of n.i)) begun.2 in
    let laws : SeenLaws = record {
      machines = c.machines_stand_alone.ensures;
      calls = c.session_of_a_script.ensures.calls;
      live = c.session_of_a_script.ensures.live;
      wide = c.buffer_stays.ensures.wide;
      tall = c.buffer_stays.ensures.tall;
      bare = c.buffer_stays.ensures.bare;
      stay = c.phases_stay.ensures;
      left = c.last_frame_is_left.ensures;
    } in
    let final = run.headline.final_shows in (
      final.0,
      final.1,
      record {
        count = final.2.count;
        each = λ k inside.
            let e = final.2.each k inside in (
              e.0,
              (
                e.1,
                λ j at.
                    seen laws s journal run.headline.one_journal n.i own rest scripts
                    run.files_are.runnable.configured.count.0
                    (subst MayShowFrames begun.2 n.is_outer.may)
                    (first_counts n.o n.i own rest begun.2 n.is_outer none)
                    (rw scripts at n.shows) k e.0 j e.1 at,
              ),
              e.2,
            );
      },
    )
