use Rattle.nit_perform.proofs.Lemmas.{ClipPassModel, HasRun, HasRunClips, IsClipListText, List}
use Rattle.nit_perform.proofs.Lemmas.{PassModel, StoreModel, ap, are_all_done, arith, back_long}
use Rattle.nit_perform.proofs.Lemmas.{beside_leaves, clips_done, clips_leave, clips_setup_in}
use Rattle.nit_perform.proofs.Lemmas.{ended_as, length, passes_done, rules, setup_in, subst}
use Rattle.nit_perform.proofs.clips.run_clips_named.Goals as goal

pub take_apart-requires : goal.take_apart-requires
take_apart-requires g c =
    let mine = c.run_beside_clips-mine.new.pairs in
    let actors = c.run_beside_clips-mine.ensures.actors in
    let back = c.requires.back in
    let long = back_long mine.items c.requires.ready actors.same actors.done in
    let passes = ap (λ (ps : List PassModel). length ps) back.passes in
    let clips = ap (λ (qs : List ClipPassModel). length qs) back.clips in
    record {
      room = omega (arith, mine.ok.0, c.args.actors.passes.ok.0, back.passes_room);
      clips_room = omega (arith, mine.ok.0, c.args.actors.clips.ok.0, back.clips_room);
    }

pub last_with_clips-scene-requires-clause-done : goal.last_with_clips-scene-requires-clause-done
last_with_clips-scene-requires-clause-done g c =
    let mine = c.run_beside_clips-mine in
    let room = c.into_room-room.ensures in
    are_all_done room.parts room.«open» (rw (c.take_apart.ensures.passes, c.requires.back.passes)
    (passes_done mine.new.pairs.items c.requires.ready mine.ensures.actors.same mine.ensures.actors.done))
    c.requires.ready.ready.user_belongs mine.ensures.user.shots.same mine.ensures.user.done

pub last_with_clips-scene-requires-clause-clips : goal.last_with_clips-scene-requires-clause-clips
last_with_clips-scene-requires-clause-clips g c =
    let mine = c.run_beside_clips-mine in
    rw (c.into_room-room.ensures.parts, c.take_apart.ensures.clips, c.requires.back.clips)
    (clips_done mine.new.pairs.items c.requires.ready mine.ensures.actors.same mine.ensures.actors.done)

pub returns : goal.returns
returns g c =
    let parts = g.N.Name.parts in
    let shown = g.S.Store.shown in
    let ran = c.leave_texts-ran.result in
    let journal = c.leave_texts-ran.ensures.journal in
    let is = c.into_room-room.ensures.parts in
    let ended = ended_as is c.last_with_clips-scene.ensures.ended in
    let texts = rw c.leave_desk-store.ensures.puts at c.leave_texts-ran.ensures.puts in
    let has : HasRun (shown c.args.store.now) (setup_in parts) (shown c.leave_texts-ran.new.store) ran =
    beside_leaves c.requires.ready.ready.fresh c.run_beside_clips-mine.ensures.user.shots.put ended texts journal
    c.leave_texts-ran.ensures.frames in
    let told : IsClipListText (clips_setup_in parts) ran.journal.items c.last_with_clips-scene.result.1 =
    rw (journal, ← is) c.last_with_clips-scene.ensures.list in
    let same = c.put_clips.ensures.same in
    subst (λ (last : StoreModel). HasRunClips (shown c.args.store.now) (clips_setup_in parts) last
    c.put_clips.result.journal.items c.put_clips.result.frames c.put_clips.result.fault)
    {x = shown c.put_clips.new.store} (search rules)
    (rw (same.journal, same.frames) (clips_leave parts c.last_with_clips-scene.result.1 has told
    c.put_clips.ensures.puts))
