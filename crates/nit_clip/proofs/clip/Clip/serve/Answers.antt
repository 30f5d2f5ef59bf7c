use Rattle.nit_clip.proofs.Lemmas.{ClipEntry, kept_more, last_at}
use Rattle.std.proofs.Common.{◌≤◌}
use Rattle.nit_clip.proofs.clip.Clip.serve.Goals as goal

pub invariant_of-self : goal.invariant_of-self
invariant_of-self c =
    let a = c.args in
    let e : ClipEntry =
    record { at = a.at; sid = a.sid; focus = a.focus; call = a.call.now; reply = c.reply_to-reply.result } in
    let some : 1 ≤ c.self.inside.spare = rw (← c.self.view_is) at c.requires.room in
    let above : last_at 0 c.self.inside.entries.items ≤ a.at = rw (← c.self.view_is) at c.requires.place in
    let push = c.push_reserved.ensures in
    rw (push.items, push.len, push.capacity, c.clipboard_after-self-inside.ensures)
    (kept_more c.self.invariant e some c.reply_to-reply.ensures above)
