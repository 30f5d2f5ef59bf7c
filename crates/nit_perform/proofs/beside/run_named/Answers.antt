use Rattle.nit_perform.proofs.Lemmas.{HasRun, StoreModel, all_done, are_all_done, beside_leaves}
use Rattle.nit_perform.proofs.Lemmas.{ended_as, rules, setup_in, subst}
use Rattle.nit_perform.proofs.beside.run_named.Goals as goal

pub last_picture-scene-requires-clause-done : goal.last_picture-scene-requires-clause-done
last_picture-scene-requires-clause-done g c =
    let mine = c.run_beside-mine in
    let room = c.into_room-room.ensures in
    are_all_done room.parts room.«open» (all_done mine.new.passes.items c.requires.ready mine.ensures.actors.same
    mine.ensures.actors.done) c.requires.ready.user_belongs mine.ensures.user.shots.same mine.ensures.user.done

pub returns : goal.returns
returns g c =
    let ran = c.leave_texts.result in
    let ended = ended_as c.into_room-room.ensures.parts c.last_picture-scene.ensures in
    let texts = rw c.leave_desk-store.ensures.puts at c.leave_texts.ensures.puts in
    subst (λ (last : StoreModel). HasRun (g.S.Store.shown c.args.store.now) (setup_in g.N.Name.parts) last ran)
    (search rules) (beside_leaves c.requires.ready.fresh c.run_beside-mine.ensures.user.shots.put ended texts
    c.leave_texts.ensures.journal c.leave_texts.ensures.frames)
