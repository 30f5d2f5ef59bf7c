use Rattle.nit_perform.proofs.Lemmas.{HasRun, StoreModel, alone_leaves, ended_as, false, refl}
use Rattle.nit_perform.proofs.Lemmas.{rules, setup_of, subst}
use Rattle.nit_perform.proofs.alone.play_alone.Goals as goal

pub returns : goal.returns
returns g c =
    let parts = c.args.opened.room.parts in
    let s = setup_of parts.config parts.scripts parts.input false false in
    let first = g.S.Store.shown c.args.store.now in
    let ran = c.leave_pictures.result in
    let ended = ended_as c.do_all.ensures.parts c.last_picture-scene.ensures in
    let left = rw (c.into_entries.ensures, c.into_journal.ensures.entries) at c.leave_pictures.ensures.ran in
    subst (λ (m : StoreModel). HasRun first s m ran) {x = g.S.Store.shown c.leave_pictures.new._store} (search rules)
    (rw c.leave_pictures.ensures.stays (alone_leaves c.one_client_goes_by_rounds.ensures
    c.idle_user_does_nothing.ensures c.each_line_once.ensures.user c.requires.ready.alone c.requires.ready.one_client
    ended refl c.leave_desk-store.ensures.puts left))
