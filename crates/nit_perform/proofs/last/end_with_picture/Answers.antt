use Rattle.nit_perform.proofs.Lemmas.{known_whole, last_is, ◌∙◌}
use Rattle.nit_perform.proofs.last.end_with_picture.Goals as goal

pub returns-clause-ended : goal.returns-clause-ended
returns-clause-ended g c =
    let u = c.args.user.now in
    let r = c.args.room.now in
    let user = c.requires.done.user_done in
    record {
      config = c.end_room.ensures.config ∙ c.scene.ensures.config;
      legal = c.end_room.ensures.legal;
      whole = c.end_room.ensures.whole;
      known = known_whole r.parts.scripts u.input u.next u.seen c.end_room.ensures.user_before
          c.end_room.ensures.recorded c.next-known.ensures.known user.ended
          (rw (← user.belongs.input) at c.end_room.ensures.whole);
      history = record {
        all = r.raws;
        front = c.end_room.ensures.raws_before;
        entries = r.scene.entries;
        ended = c.end_room.ensures.recorded;
        history = c.end_room.ensures.history;
      };
      put = rw (last_is c.one_more_entry.ensures.replayed r.parts r.scene.config r.scene.entries
          {size = c.size-width.result} c.scene.ensures.config
          (rw (c.size-width.ensures.size, c.scene.ensures.scene, c.scene.ensures.config))
          c.end_room.ensures.recorded c.end_room.ensures.frame) at c.put_copied.ensures.put;
      same_store = c.put_copied.ensures.kept.same_store;
    }
