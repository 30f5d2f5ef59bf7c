-- A room and a clip pass after a clip call, and clip passes that are done.
use Rattle.nit_hall.proofs.Basics.{AreDoneClips, AreTogether, Belongs, CallLaws, ClipBelongs}
use Rattle.nit_hall.proofs.Basics.{ClipHasMet, ClipLine, ClipPassModel, ClipReply, Configuration}
use Rattle.nit_hall.proofs.Basics.{FollowsClips, IsAtClip, IsAtPhaseEnd, IsClipPass, IsDoneClip}
use Rattle.nit_hall.proofs.Basics.{IsInPhase, IsOpen, IsRoom, IsWholeClips, PassModel, RoomModel}
use Rattle.nit_hall.proofs.Basics.{ShareModel, calls_in, calls_of, calls_to_make, calls_up_to}
use Rattle.nit_hall.proofs.Basics.{cases_eq, clip_answer, clip_calls_in, clip_calls_of, clip_entry}
use Rattle.nit_hall.proofs.Basics.{clip_phases_before, clip_script_in, clipboard_of, clips_to_do}
use Rattle.nit_hall.proofs.Basics.{clips_to_make, done, get_or-map, get_or_from_slice_get}
use Rattle.nit_hall.proofs.Basics.{left_after, length-map, nat_tests, next_clip, next_phase}
use Rattle.nit_hall.proofs.Basics.{phases_before, raised, replay, script_in, served}
use Rattle.nit_hall.proofs.Basics.{slice_get_within, state_now, to_do, user_actions_to_do}
use Rattle.nit_hall.proofs.Basics.{with_clip, without_final}
use Rattle.std.proofs.Common.{List, Some, [], ap, arith, drop, get_or-drop, inl, inr, length}
use Rattle.std.proofs.Common.{length-append, length-set, map, refl, slice_get, slice_index, sym}
use Rattle.std.proofs.Common.{take, take_all, ℕ, ◌++◌, ◌+◌, ◌<◌, ◌∙◌, ◌∷◌, ◌≡◌, ◌≤◌}
use mathlib.Core.List.{IsPrefix}
use Rattle.nit_hall.proofs.LineLemmas.{front_short, item_there}
use Rattle.nit_hall.proofs.EntryLemmas.{open_whole}
use Rattle.nit_hall.proofs.ScriptsFollowed.{made_of, raised_at, raised_other, sum_raised}
use Rattle.nit_hall.proofs.ScriptsFollowed.{sums_within}
use Rattle.nit_hall.proofs.ServedCalls.{calls_made}
use Rattle.nit_hall.proofs.ClipLineLemmas.{all_up_to, calls_of_phases, clips_front, clips_short}
use Rattle.nit_hall.proofs.ClipLineLemmas.{made_by, other_clip, own_clip}

-- ---- before it

-- the room and both passes at a clip call
pub record FoundClip (r : RoomModel) (p : PassModel) (q : ClipPassModel) : Type 0 where
  pub belongs : Belongs r.parts p
  pub clip_belongs : ClipBelongs r.parts q
  pub together : AreTogether p q
  pub ready : p.phase ≡ r.phase
  pub phase_end : IsAtPhaseEnd p
  pub next_is : IsAtClip q
  pub open_is : IsOpen r.scene.entries
  pub counted : slice_index r.counts p.sid ≡ length (served (take p.next p.script))
  pub clip_counted : slice_index r.clip_counts q.sid ≡ length (clip_calls_in (take q.next q.script))
  pub phase_is : p.phase ≡ phases_before p.script p.next
  pub clip_phase_is : q.phase ≡ clip_phases_before q.script q.next

module _ (laws : CallLaws) {r : RoomModel} {p : PassModel} {q : ClipPassModel} (room : IsRoom r) (f : FoundClip r p q)
  where
    -- the clip script of the client
    script_is : clip_script_in r.parts.clips q.sid ≡ q.script
    script_is = get_or_from_slice_get r.parts.clips q.sid q.script [] f.clip_belongs.script

    inside : q.sid < length r.clip_counts
    inside = omega (arith, slice_get_within r.parts.clips q.sid q.script f.clip_belongs.script, room.clips_follow.each)

    -- the clip calls so far, and with the next one
    made : clip_calls_of q.sid r.clips.entries ≡ clip_calls_in (take q.next q.script)
    made = rw (room.clips_follow.calls q.sid, f.clip_counted, script_is) (clips_front q.script q.next)

    more : clip_calls_in (take (q.next + 1) q.script) ≡ clip_calls_in (take q.next q.script) ++ next_clip q ∷ []
    more = laws.call q.script q.next (next_clip q) f.next_is

    up : slice_index (raised r.clip_counts q.sid) q.sid ≡ length (clip_calls_in (take (q.next + 1) q.script))
    up = rw (raised_at r.clip_counts q.sid inside, f.clip_counted, more, length-append)

    -- the client's calls so far are those of all phases up to this one
    client_script : script_in r.parts.scripts q.sid ≡ p.script
    client_script = rw (← f.together.client) (get_or_from_slice_get r.parts.scripts p.sid p.script [] f.belongs.script)

    client_calls : calls_of q.sid r.scene.entries ≡ calls_in (take p.next p.script)
    client_calls = grind (arith, nat_tests, open_whole, calls_made)

    called : length (calls_up_to r.phase (to_do (map calls_to_make r.parts.scripts) q.sid))
        ≡ length (calls_of q.sid (take (length r.scene.entries) r.scene.entries))
    called =
        let phase_now : r.phase ≡ 0 + phases_before p.script p.next = omega (arith, f.ready, f.phase_is) in
        let all = take_all (length r.scene.entries) r.scene.entries (omega arith) in
        rw (phase_now, made_of r.parts.scripts q.sid, client_script, all, client_calls)
        (calls_of_phases p.script 0 p.next f.phase_end)

    next_in : next_phase (clips_to_do (left_after (map clips_to_make r.parts.clips) r.clips.entries) q.sid) ≡ r.phase
    next_in =
        let left = laws.left (map clips_to_make r.parts.clips) r.clips.entries q.sid in
        let phase = laws.phase q.script q.next (next_clip q) f.next_is in
        rw (left, made, made_by r.parts.clips q.sid, script_is, phase, ← f.clip_phase_is, ← f.together.phase) f.ready

    in_phase : (reply : ClipReply)
        → IsInPhase (map calls_to_make r.parts.scripts) (user_actions_to_do r.parts.input) r.scene.entries
        (next_phase (clips_to_do (left_after (map clips_to_make r.parts.clips) r.clips.entries) q.sid))
        (clip_entry r q reply)
    in_phase reply = rw next_in (record {
      behind = omega (arith, called);
      before = all_up_to _ r.phase (length r.scene.entries)
          (rw (open_whole r.scene.entries f.open_is) at room.follows.phases);
    })

    few_then : (t : ℕ) → slice_index (raised r.clip_counts q.sid) t ≤ length
        (clip_calls_in (clip_script_in r.parts.clips t))
    few_then t =
        let few = front_short _ (clip_calls_in q.script) _ (clips_front q.script (q.next + 1)) refl in
        grind (arith, few, up, script_is, raised_other r.clip_counts q.sid t, room.clips_follow.few t)

    -- there is room
    pub room_left : 1 ≤ r.clips.spare
    room_left =
        let lines = λ (s : List ClipLine). length s in
        let most = sums_within (raised r.clip_counts q.sid) (map lines r.parts.clips)
        (rw length-map (length-set r.clip_counts q.sid _ ∙ room.clips_follow.each))
        (λ t h. let script = clip_script_in r.parts.clips t in
        omega (arith, few_then t, clips_short script, get_or-map lines r.parts.clips t [])) in
        omega (arith, most, sum_raised r.clip_counts q.sid inside, room.clips_follow.room)

    -- ---- after it

    module _ (reply : ClipReply) (answered : reply
        ≡ clip_answer (clipboard_of r.clips.entries) (state_now r.scene).input.focus q.sid (next_clip q)) where
      pub follows_then : FollowsClips r.parts (raised r.clip_counts q.sid) r.scene.entries
          (with_clip r (clip_entry r q reply)).clips
      follows_then =
          let session = slice_get_within r.parts.scripts p.sid p.script f.belongs.script in
          record {
            legal = laws.legal r.parts.config r.scene.entries r.clips.entries (clip_entry r q reply)
                room.clips_follow.legal f.open_is refl (omega (arith, session, room.sessions, f.together.client))
                (ap (λ (c : Configuration). (replay c r.scene.entries).input.focus) room.config) answered;
            each = length-set r.clip_counts q.sid (slice_index r.clip_counts q.sid + 1) ∙ room.clips_follow.each;
            calls = λ t. elim (cases_eq t q.sid) [
              | inl e ↦
                  let own = own_clip q.sid r.clips.entries (clip_entry r q reply) refl in
                  rw (e, own, made, up, script_is, clips_front, more)
              | inr ne ↦
                  let other = other_clip t r.clips.entries (clip_entry r q reply) (λ e. ne (sym e)) in
                  rw (raised_other r.clip_counts q.sid t ne, other) (room.clips_follow.calls t)
            ];
            few = few_then;
            in_phases = laws.placed (map calls_to_make r.parts.scripts) (user_actions_to_do r.parts.input)
                r.scene.entries (map clips_to_make r.parts.clips) r.clips.entries (clip_entry r q reply)
                room.clips_follow.in_phases (in_phase reply);
            room = omega (arith, sum_raised r.clip_counts q.sid inside, room_left, room.clips_follow.room);
          }

      pub room_clip : IsRoom (with_clip r (clip_entry r q reply))
      room_clip = assumption (follows_then, room)

-- ---- what a clip call finds

-- the number of the clip pass's share
pub number_is : {r r₀ : RoomModel} {q q₀ : ClipPassModel} {share : ShareModel} → r ≡ r₀ → q ≡ q₀ → IsClipPass q share
    → ClipBelongs r₀.parts q₀ → share.number ≡ length r.parts.scripts + 1 + q.sid
number_is er eq is of = is.number ∙ rw (er, eq) of.number

-- its count is the room's count of its client's clip calls
pub clip_counted : {r r₀ : RoomModel} {q q₀ : ClipPassModel} {share : ShareModel} (counts : List ℕ) → r ≡ r₀ → q ≡ q₀
    → IsClipPass q share → ClipBelongs r₀.parts q₀ → r.clip_counts ≡ drop (length r.parts.scripts + 1) counts
    → slice_index counts share.number ≡ share.count
    → slice_index r₀.clip_counts q₀.sid ≡ length (clip_calls_in (take q₀.next q₀.script))
clip_counted counts er eq is of split counted = grind (arith, nat_tests, get_or-drop)

-- ---- at the end

-- what a room knows of the clip pass of this number when they have met
pub record IsKnownClip (r : RoomModel) (k : ℕ) (q : ClipPassModel) : Type 0 where
  pub front : IsPrefix q.seen (without_final r.scene.entries)
  pub counted : slice_index r.clip_counts k ≡ length (clip_calls_in (take q.next q.script))

-- what the law of all clip calls of a script says
abbrev pub AllClipCalls : Type 0
AllClipCalls = (lines : List ClipLine) → clip_calls_in lines ≡ done (clips_to_make lines)

pub clips_whole : AllClipCalls → (r : RoomModel) (qs : List ClipPassModel) → IsRoom r → AreDoneClips r.parts qs
    → ((k : ℕ) (q : ClipPassModel) → slice_get qs k ≡ Some q → IsKnownClip r k q)
    → IsWholeClips (map calls_to_make r.parts.scripts) (user_actions_to_do r.parts.input) r.scene.entries
    (map clips_to_make r.parts.clips) r.clips.entries
clips_whole all r qs room are met = record {
  calls = λ sid h.
      let (q, at) = item_there qs sid (omega (arith, length-map r.parts.clips clips_to_make, are.each, h)) in
      let is = are.done_all sid q at in
      let there = ap (slice_get r.parts.clips) (sym is.number) ∙ is.belongs.script in
      let script = get_or_from_slice_get r.parts.clips sid q.script [] there in
      let whole = take_all q.next q.script (omega (arith, is.ended)) in
      rw (room.clips_follow.calls sid, script, (met sid q at).counted, whole, made_by r.parts.clips sid, script)
      (take_all (length (clip_calls_in q.script)) (clip_calls_in q.script) (omega arith) ∙ all q.script);
  placed = room.clips_follow.in_phases;
}

-- a clip pass has met the room
pub clip_met : {r r' : RoomModel} {q q' : ClipPassModel} (k : ℕ) → IsDoneClip r.parts k q → ClipHasMet r q r' q'
    → IsKnownClip r k q
clip_met k is met = record { front = met.before; counted = rw (← is.number) met.counted }
