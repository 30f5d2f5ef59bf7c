use Rattle.nit_perform.proofs.Lemmas.{opened_ready, ◌∙◌}
use Rattle.nit_perform.proofs.pairs.open_pairs.Goals as goal

pub open_clips-requires-clause-unserved : goal.open_clips-requires-clause-unserved
open_clips-requires-clause-unserved c =
    let o = c.in_ok-opened.ensures.room in
    record { entries = o.entries; no_clips = rw o.parts_are }

pub open_clips-requires-clause-each : goal.open_clips-requires-clause-each
open_clips-requires-clause-each c = rw c.in_ok-opened.ensures.room.parts_are c.requires.each

pub returns-clause-ready : goal.returns-clause-ready
returns-clause-ready c =
    let two = c.in_ok-opened-2.ensures in
    let made = c.make_pairs.ensures in
    rw (made.room, two.room, made.user, two.user) (opened_ready c.in_ok-opened.ensures c.requires.setting
    c.args.clips.now c.requires.runnable c.requires.each c.make_pairs.result.pairs.items (made.passes ∙ two.passes)
    (rw (two.room, ← made.clips) at two.clips))
