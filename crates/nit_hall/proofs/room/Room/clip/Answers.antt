use Rattle.nit_hall.proofs.Lemmas.{FoundClip, IsLegalClips, IsRoom, PassModel, RoomModel}
use Rattle.nit_hall.proofs.Lemmas.{back_raised, clip_answer, clip_counted, clip_entry, clipboard_of}
use Rattle.nit_hall.proofs.Lemmas.{counted_same, entries_in, follows_then, front_of_each}
use Rattle.nit_hall.proofs.Lemmas.{is_clip_phase, left_of, nat_tests, next_clip, number_is}
use Rattle.nit_hall.proofs.Lemmas.{open_whole, room_clip, room_left, slice_get_within, state_now}
use Rattle.nit_hall.proofs.Lemmas.{stretch_from, take-set-le, with_clip, with_room_stages}
use Rattle.std.proofs.Common.{ap, arith, length, length-append, refl, slice_index, subst, sym, ◌+◌}
use Rattle.std.proofs.Common.{◌∙◌, ◌≡◌, ◌≤◌}
use Rattle.nit_hall.proofs.room.Room.clip.Goals as goal
use Rattle.nit_hall.proofs.room.Room.clip.Goals.{After-entries, After-serve-reply}

-- the room that has admitted the client's pass
admitted : RoomModel → PassModel → RoomModel
admitted r p = with_room_stages r p.sid (stretch_from p p.next)

-- the room and both passes before the line, as the call finds them
found_at : (c : After-entries) → FoundClip (admitted c.args.self.now c.args.pass.now) c.args.pass.now c.args.clip.now
unfolding admitted
found_at c =
    let r = c.requires in
    record {
      belongs = r.clip.belongs;
      clip_belongs = r.clip.clip_belongs;
      together = r.clip.together;
      ready = r.ready;
      phase_end = r.clip.phase_end;
      next_is = r.clip.next;
      open_is = r.«open»;
      counted = c.admit.ensures.counted;
      clip_counted = clip_counted c.self.inside.book.counts (c.self.view_is ∙ c.admit.ensures.room) c.clip.view_is
          c.clip.invariant r.clip.clip_belongs refl c.count.ensures.before.counted;
      phase_is = c.phase-ended.ensures.ended;
      clip_phase_is = rw (← c.clip.view_is) c.clip.invariant.phase;
    }

pub serve-reply-requires-clause-room : goal.serve-reply-requires-clause-room
unfolding admitted
serve-reply-requires-clause-room c =
    let er = c.self.view_is ∙ c.admit.ensures.room in
    subst (λ (r : RoomModel). 1 ≤ r.clips.spare) (sym er)
    (room_left c.one_more_call.ensures (subst IsRoom er c.self.invariant.0)
    (found_at (goal.at.serve-reply-requires-clause-room c).After-entries))

room_at : (c : After-serve-reply) → IsRoom (admitted c.args.self.now c.args.pass.now)
unfolding admitted
room_at c = subst IsRoom (c.self.view_is ∙ c.admit.ensures.room) c.self.invariant.0

answered_at : (c : After-serve-reply) → c.serve-reply.result ≡ clip_answer (clipboard_of c.args.self.now.clips.entries)
    (state_now c.args.self.now.scene).input.focus c.args.clip.now.sid (next_clip c.args.clip.now)
answered_at c = grind (arith, nat_tests)

booked_at : (c : After-serve-reply) → entries_in c.self.inside.book.entries ≡ c.args.self.now.scene.entries
booked_at c = grind (arith, nat_tests, open_whole)

pub returns-clause-room : goal.returns-clause-room
unfolding admitted
returns-clause-room c =
    let er = c.self.view_is ∙ c.admit.ensures.room in
    let n = length c.self.inside.parts.scripts.now + 1 in
    let old = c.self.inside.book.counts in
    let share = c.clip.inside.share.number in
    let number = number_is er c.clip.view_is c.clip.invariant c.requires.clip.clip_belongs in
    let call = c.next_clip-call.ensures.call ∙ ap next_clip (sym c.clip.view_is) in
    let front = take-set-le n old share (slice_index old share + 1) (omega (arith, number)) in
    rw (c.count.ensures.book, c.serve-reply.ensures.recorded, front, back_raised n c.clip.inside.sid share old number)
    (rw (c.entries.ensures, c.journal.ensures.entries, c.focus.ensures, call)
    (λ i. with_clip (er i) (clip_entry (er i) (c.clip.view_is i) c.serve-reply.result)))

pub invariant_of-self : goal.invariant_of-self
unfolding admitted
invariant_of-self c =
    let d = (goal.at.invariant_of-self c).After-serve-reply in (
      subst IsRoom (sym (returns-clause-room c))
          (room_clip c.one_more_call.ensures (room_at d) (found_at (goal.at.invariant_of-self c).After-entries)
          c.serve-reply.result (answered_at d)),
      rw c.count.ensures.book c.self.invariant.1,
    )

pub invariant_of-clip : goal.invariant_of-clip
invariant_of-clip c =
    let is = c.clip.invariant in
    let script = c.clip.inside.script.now in
    let k = c.clip.inside.next in
    let next = rw (← c.clip.view_is) at c.requires.clip.next in
    let call = c.one_more_call.ensures.call script k (next_clip (left_of c.clip.view_is)) next in
    record {
      number = refl;
      counted = rw (c.count.ensures.share, call, length-append, is.counted);
      within = omega (arith, slice_get_within script k _ next);
      phase = is.phase ∙ sym (counted_same is_clip_phase script k _ next refl);
    }

pub returns-clause-pass : goal.returns-clause-pass
returns-clause-pass c = rw (c.admit.ensures.pass, open_whole _ c.requires.«open»)

pub returns-clause-clip : goal.returns-clause-clip
returns-clause-clip c = grind (arith, nat_tests, booked_at)

pub returns-clause-before : goal.returns-clause-before
returns-clause-before c = rw (open_whole _ c.requires.«open») at c.admit.ensures.before

pub returns-clause-clip_before : goal.returns-clause-clip_before
returns-clause-clip_before c =
    rw (← booked_at (goal.at.returns-clause-clip_before c).After-serve-reply, ← c.clip.view_is)
    (front_of_each (λ r. r.entry) _ _ c.count.ensures.before.front)

pub returns-clause-counted : goal.returns-clause-counted
unfolding admitted
returns-clause-counted c = (found_at (goal.at.returns-clause-counted c).After-entries).clip_counted

pub returns-clause-legal_clips : goal.returns-clause-legal_clips
unfolding admitted
returns-clause-legal_clips c =
    let d = (goal.at.returns-clause-legal_clips c).After-serve-reply in
    subst (λ (r : RoomModel). IsLegalClips c.args.self.now.parts.config c.args.self.now.scene.entries r.clips.entries)
    (sym (returns-clause-room c))
    (follows_then c.one_more_call.ensures (room_at d) (found_at (goal.at.returns-clause-legal_clips c).After-entries)
    c.serve-reply.result (answered_at d)).legal
