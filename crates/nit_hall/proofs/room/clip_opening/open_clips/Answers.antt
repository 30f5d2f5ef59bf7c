use Rattle.nit_hall.proofs.Lemmas.{IsRoom, RoomModel, ap, counts_long, opened_clips, refl}
use Rattle.nit_hall.proofs.Lemmas.{room_with_clips, subst, sym, without_final, ◌∙◌}
use Rattle.nit_hall.proofs.room.clip_opening.open_clips.Goals as goal

pub invariant_of-room : goal.invariant_of-room
invariant_of-room c =
    let old = c.room.inside.book in
    let long = counts_long old.counts c.room.view_is c.room.invariant.0 c.requires.unserved.no_clips refl refl in
    let is = opened_clips _ c.args.opened.room old c.clip_passes.new.book c.in_ok-clip.clip c.args.scripts.now
    c.room.view_is refl refl long refl refl c.in_ok-clips.ensures.book
    (rw (c.in_ok-clip.ensures, c.line_count.ensures.count)) in (
      subst IsRoom (sym is) (room_with_clips c.no_clips.ensures c.args.opened.room c.args.scripts.now
          (subst IsRoom c.room.view_is c.room.invariant.0)),
      rw c.in_ok-clips.ensures.book c.room.invariant.1,
    )

pub returns-clause-room : goal.returns-clause-room
returns-clause-room c =
    let old = c.room.inside.book in
    let long = counts_long old.counts c.room.view_is c.room.invariant.0 c.requires.unserved.no_clips refl refl in
    opened_clips _ c.args.opened.room old c.clip_passes.new.book c.in_ok-clip.clip c.args.scripts.now
    c.room.view_is refl refl long refl refl c.in_ok-clips.ensures.book
    (rw (c.in_ok-clip.ensures, c.line_count.ensures.count))

pub returns-clause-clips : goal.returns-clause-clips
returns-clause-clips c =
    let old = c.room.inside.book in
    let long = counts_long old.counts c.room.view_is c.room.invariant.0 c.requires.unserved.no_clips refl refl in
    let e = c.in_ok-clips.ensures in
    let seen = c.room.invariant.1 ∙ ap (λ (r : RoomModel). without_final r.scene.entries) c.room.view_is
    ∙ ap without_final c.requires.unserved.entries in
    record { each = e.count; first = λ k q at. e.each k q at ∙ rw (e.book, long, seen) }
