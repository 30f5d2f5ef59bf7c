use Rattle.std.proofs.Common.{◌≡◌, ◌∙◌, ◌++◌, ◌∷◌, [], ◌<◌, List, length, ap, inl, inr, refl}
use Rattle.nit_run.proofs.Lemmas.{Entry, IsLegal, after, calls_to_make, done, end_shows}
use Rattle.nit_run.proofs.Lemmas.{events_among, events_taken, files_counted, first_state}
use Rattle.nit_run.proofs.Lemmas.{focus_after, get_or-map, history_shows, length-map, replay}
use Rattle.nit_run.proofs.Lemmas.{same_throughout, shot_at, shot_name, shot_shows, shots}
use Rattle.nit_run.proofs.Lemmas.{texts_tell}
use Rattle.nit_events.specs.declared.call.Reply.TheVariants as reply
use Rattle.nit_events.specs.declared.entry.Entry.TheVariants as entry
use Rattle.nit_run.proofs.laws.headline.Goals as goal

pub returns : goal.returns
returns c = λ s journal outputs runnable j are.
    let config = s.config in
    let same : (front : List Entry) (e : Entry) → replay config (front ++ e ∷ []) ≡ after (replay config front) e =
    λ front e. c.one_more_entry.ensures.replayed (first_state config) front e in
    let legal : (all : List Entry) → journal ≡ all → IsLegal config all =
    λ all parts. rw parts at j.legal in
    let law = c.shots_as_replayed.ensures.along in
    let fronts = c.fronts_are_legal.ensures.legal in
    let near = c.near_frames_by_pixels.ensures in
    record {
      one_journal = j;
      clients = λ sid inside.
          let there : sid < length s.scripts = rw runnable.scripts inside in
          record {
            calls = j.whole.calls sid (rw (length-map s.scripts calls_to_make) there)
                ∙ ap done (get_or-map calls_to_make s.scripts sid [] [] there);
            replies = c.isolation.ensures config journal sid j.legal inside;
            events = events_taken sid (first_state config) 0 journal j.legal
                ∙ ap events_among (c.isolation.ensures config journal sid j.legal inside);
            quota = λ front rest call need left parts. c.refusals_are_its_own.ensures.quota config front rest sid call
                need left (legal (front ++ entry.Call sid call (reply.OutOfQuota need left) ∷ rest) parts);
            reserve = λ front rest call need left parts. c.refusals_are_its_own.ensures.reserve config front rest sid
                call need left (legal (front ++ entry.Call sid call (reply.NoReserve need left) ∷ rest) parts);
          };
      routed = record {
        deliveries = λ front rest dev routed parts. c.deliveries_go_to_live_sessions.ensures.legal config front dev
            routed rest (legal (front ++ entry.Input dev routed ∷ rest) parts);
        meant = λ front rest dev routed parts.
            let all = legal (front ++ entry.Input dev routed ∷ rest) parts in
            let law = c.input_goes_where_it_is_meant.ensures in
            let t = replay config front in
            rw (c.deliveries_fit.ensures t (shots front) dev routed
            (c.fronts_are_legal.ensures.agrees config front (entry.Input dev routed) rest all)) (record {
              keys = λ code is key flat none. rw is (law.keys t code flat none key);
              buttons = λ code is button flat none. rw is (law.buttons t code flat none button);
              held = law.held t dev;
              mode_keys = λ code is key. rw is (law.mode_keys t code key);
              xray = law.xray config front dev;
              kill = law.kill config front dev;
            });
        receiver = λ front rest sid code parts. c.input_goes_where_it_is_meant.ensures.receiver config front sid code
            (c.fronts_are_legal.ensures.legal config front rest (legal (front ++ rest) parts));
        releases = λ sid code before rest parts. c.releases_follow_presses.ensures config journal sid code before rest
            j.legal parts;
      };
      focus = record {
        calls = λ front rest sid call r parts.
            let law = c.focus_is_the_users.ensures in
            let leads = same front (entry.Call sid call r) in
            elim (law.calls (replay config front) sid call r) [
              | inl kept ↦ inl (rw (focus_after, leads) kept)
              | inr (is, accepted, had) ↦
                  let closed = law.closed (replay config front) sid r accepted had in
                  inr (is, accepted, had, rw (focus_after, leads, is) closed)
            ];
        clicks = λ front rest dev routed sid parts has.
            elim (c.focus_is_the_users.ensures.clicks (replay config front) dev routed sid
            (rw (focus_after, same front (entry.Input dev routed)) at has)) [
              | inl had ↦ inl had
              | inr (k, is, button, mode, owns, by) ↦
                  inr (record { code = k; pressed = is; button = button; mode = mode; owns = owns; by_clicks = by })
            ];
        at_shot = λ front rest number parts. rw (focus_after, same front (entry.Shot number)) refl;
        at_end = λ front rest parts. rw (focus_after, same front entry.Final) refl;
        at_first = refl;
      };
      shots_show = λ front rest number parts.
          shot_shows s journal outputs j are law fronts c.frame_pixels.ensures.count c.frame_pixels.ensures.each
          front rest number parts (λ together.
          let (bytes, there, (words, frame_is, is)) =
          c.each_shot_has_its_file.ensures.each config s.scripts s.input front rest number are.0
          (rw parts at (are.1.beside together)) in
          let kept = same_throughout config front in (
            words,
            rw is at (shot_at s journal outputs j are front (shot_name number, bytes) there),
            record {
              count = near.count config s.scripts s.input front words frame_is;
              each = λ k inside.
                  rw kept (rw kept at (near.each config s.scripts s.input front words k frame_is inside));
            },
          ));
      one_history = history_shows s journal outputs j are c.frame_pixels.ensures.count c.frame_pixels.ensures.each;
      final_shows = end_shows s journal outputs j are c.frame_pixels.ensures.count c.frame_pixels.ensures.each
          (c.configuration_stays.ensures.configuration config journal);
      texts = texts_tell s journal outputs j are c.machines_stand_alone.ensures
          (c.journals_fit.ensures s journal runnable j);
      count = files_counted s journal outputs j are law fronts
          (λ together. c.each_shot_has_its_file.ensures.count config s.scripts s.input journal are.0
          (are.1.beside together));
      only = λ alone other files k more. (
        c.one_setup_one_run.ensures.journal s other journal alone k j,
        c.one_setup_one_run.ensures.files s other journal files outputs alone k j more are,
      );
    }
