-- A room, and the ends of a client's words that agree.
use Rattle.nit_hall.proofs.Basics.{AreWatching, Belongs, BufferName, CanAgree, End, HasMet}
use Rattle.nit_hall.proofs.Basics.{HaveInks, IsPass, IsRoom, KnowsStretch, Line, Painting}
use Rattle.nit_hall.proofs.Basics.{PassModel, RoomModel, SceneModel, ShareModel, Sight}
use Rattle.nit_hall.proofs.Basics.{after_arrival, blank, buffers_of, calls_of, cases_eq}
use Rattle.nit_hall.proofs.Basics.{common_steps, donation_of, get_or_from_slice_get, gets, glass_in}
use Rattle.nit_hall.proofs.Basics.{is_phase, knowing, length-map, nat_tests, phases_before, raised}
use Rattle.nit_hall.proofs.Basics.{same_Some, script_in, served, slice_get-map, slice_get_within}
use Rattle.nit_hall.proofs.Basics.{stages_within, stretch, stretch_end, with_end_stages}
use Rattle.nit_hall.proofs.Basics.{with_room_stages, without_final, words_after}
use Rattle.std.proofs.Common.{IsSome, List, Some, [], arith, inl, inr, length, map, refl, slice_get}
use Rattle.std.proofs.Common.{slice_index, sym, take, ℕ, ◌<◌, ◌∙◌, ◌≡◌, ap, drop, get_or-set_other}
use Rattle.std.proofs.Common.{get_or-set_same, ◌+◌, ◌-◌, ◌∷◌, ◌≢◌}
use Rattle.nit_hall.proofs.NearLemmas.{other_end, own_end, same_buffers, same_ink, same_stands}
use Rattle.nit_hall.proofs.NearLemmas.{sight_at, sights_of}
use Rattle.nit_hall.proofs.LineLemmas.{counted_more, item_there, no_more_calls}
use Rattle.nit_script.specs.declared.line.Line.TheVariants as line
use Rattle.nit_hall.proofs.Phases.{Ends, NextLine, client_ends, client_set, phase_over}
use Rattle.nit_hall.proofs.Phases.{phases_front}
use Rattle.nit_hall.proofs.RoomSteps.{ended_by, room_then}
use Rattle.nit_hall.proofs.ScriptsFollowed.{IsNext, follows_phase, script_there}
use Rattle.nit_hall.proofs.ServedCalls.{calls_made, still_open}

-- the reader's end of a client, which is of its buffer
pub record HasEnd (ends : List End) (sid : ℕ) (buffer : BufferName) : Type 0 where
  pub lens : End
  pub there : slice_get ends sid ≡ Some lens
  pub of_buffer : lens.stand.buffer ≡ buffer

pub end_of_buffer : (ends : List End) (sid : ℕ) (buffer : BufferName)
    → slice_get (buffers_of ends) sid ≡ Some buffer → HasEnd ends sid buffer
end_of_buffer ends sid buffer at =
    grind (arith, nat_tests, length-map, item_there, slice_get_within, same_Some, slice_get-map)

-- a client's pass can agree with the room that it belongs to
pub can_agree : {r : RoomModel} {p : PassModel} {share : ShareModel} (spare : End) → IsRoom r → Belongs r.parts p
    → IsPass p share spare → r.parts.buffers ≡ buffers_of r.scene.glasses
    → CanAgree r.scene p.sid (record { sight = p.sight; stand = p.stand }) spare
can_agree {r = r} {p = p} spare room of is buffers =
    let here = end_of_buffer r.scene.glasses p.sid p.stand.buffer (rw (← buffers) of.buffer) in
    let inside = slice_get_within r.parts.scripts p.sid p.script of.script in
    let watch = room.watching p.sid inside in
    record {
      session = rw room.config (omega (arith, inside, room.sessions));
      lens = here.lens;
      there = here.there;
      buffer = here.of_buffer;
      knows = rw (← (sight_at r.scene.glasses p.sid here.lens here.there), watch.stages_are) refl;
      agreed = is.agreed;
      spare_fits = (is.spare_owner, rw (room.config, ← of.donation) (is.spare_size ∙ is.painted.size));
    }

-- and after a call, in which the two agreed on these stages
pub can_agree_again : {scene called : SceneModel End} {sid : ℕ} {canvas canvas' spare : End} (stages : List (List ℕ))
    → CanAgree scene sid canvas spare → called.config ≡ scene.config
    → map (λ (e : End). e.stand) called.glasses ≡ map (λ (e : End). e.stand) (with_end_stages sid stages scene.glasses)
    → glass_in (sights_of called.glasses) sid ≡ glass_in (sights_of (with_end_stages sid stages scene.glasses)) sid
    → canvas'.stand.buffer ≡ canvas.stand.buffer → IsSome canvas'.sight.stages → CanAgree called sid canvas' spare
can_agree_again {scene = scene} {called = called} {sid = sid} {canvas = canvas} {spare = spare} stages can config rests
    idle buffer agreed =
    let buffers : buffers_of called.glasses ≡ buffers_of scene.glasses =
    same_buffers _ _ (rests ∙ same_stands sid stages scene.glasses) in
    let here = end_of_buffer called.glasses sid canvas.stand.buffer
    (rw (buffers, slice_get-map, can.there, can.buffer)) in
    let many = slice_get_within scene.glasses sid can.lens can.there in
    record {
      session = rw config can.session;
      lens = here.lens;
      there = here.there;
      buffer = here.of_buffer ∙ sym buffer;
      knows = rw (← sight_at called.glasses sid here.lens here.there, idle, own_end sid stages scene.glasses many) refl;
      agreed = agreed;
      spare_fits = rw config can.spare_fits;
    }

-- the room when a pass was admitted: its end of the client's words knows the stretch from the next line on
pub room_admitted : {r : RoomModel} {sid : ℕ} {script : List Line} (next : ℕ) → IsRoom r
    → slice_get r.parts.scripts sid ≡ Some script → slice_index r.counts sid ≡ length (served (take next script))
    → phases_before script next ≡ r.phase → sid < length r.scene.glasses
    → IsRoom (with_room_stages r sid (stretch script (donation_of r.parts.config sid) next))
room_admitted {r = r} {sid = sid} {script = script} next room at counted ready many =
    let stages = stretch script (donation_of r.parts.config sid) next in
    let there : script_in r.parts.scripts sid ≡ script = get_or_from_slice_get r.parts.scripts sid script [] at in
    let ends = with_end_stages sid stages r.scene.glasses in
    let inks : HaveInks r.parts.config r.parts.scripts ends =
    λ t. same_ink sid stages r.scene.glasses t ∙ room.inks t in
    let knows : (phase_of : ℕ → ℕ) → phase_of sid ≡ r.phase
    → AreWatching r.parts.scripts r.parts.config (without_final r.scene.entries) phase_of r.scene.glasses
    → AreWatching r.parts.scripts r.parts.config (without_final r.scene.entries) phase_of ends =
    λ phase_of here before t inside. elim (cases_eq t sid) [
      | inl e ↦ rw e (record {
        since = next;
        until = stretch_end script next;
        stages_are = rw (there, own_end sid stages r.scene.glasses many);
        strokes = rw there (omega arith);
        made_before = rw (there, calls_made r sid next script room at counted);
        in_phase = rw (there, here) ready;
      })
      | inr ne ↦ rw (other_end sid stages r.scene.glasses t ne) (before t inside)
    ] in
    let inside = slice_get_within r.parts.scripts sid script at in
    let mine = client_set r.parts.scripts r.parts.input r.counts sid 0 room.follows.each inside in
    let own = mine.was ∙ rw (there, counted, phases_front script next) ready in
    let watching = knows (λ t. r.phase) refl room.watching in
    let waiting = knows (slice_index (ended_by r)) own room.waiting in
    assumption

-- ---- a phase that is over

-- where a line ends a phase, one stage is all that stands there before it and after it
one_stage : (script : List Line) (donation n m : ℕ) → m ≡ n
    → stages_within script donation n m ≡ words_after script donation n ∷ []
one_stage script donation n m same =
    let one : m + 1 - n ≡ 1 = omega (arith, same) in rw one

pub phase_stages : NextLine → (script : List Line) (donation k : ℕ) → slice_get script k ≡ Some line.Phase
    → stretch script donation k ≡ stages_within script donation (k + 1) (k + 1)
phase_stages next script donation k at =
    let cut : drop k script ≡ line.Phase ∷ drop (k + 1) script = grind (arith, common_steps, gets) in
    let ends : stretch_end script k ≡ k = rw cut (omega arith) in
    let same : words_after script donation (k + 1) ≡ words_after script donation k =
    ap (λ (p : Painting). p.words) (next (blank donation) script k line.Phase at) in
    rw (one_stage script donation k (stretch_end script k) ends, one_stage script donation (k + 1) (k + 1) refl, same)

-- a client that ends its phase is in the next one, where its end knows what stands there before any stroke
pub waiting_own : NextLine → {r : RoomModel} {sid next : ℕ} {script : List Line} {now : List ℕ} → IsRoom r
    → IsNext r.parts.scripts r.counts sid next script line.Phase
    → Ends (ended_by r) now sid (phases_before script next) (phases_before script (next + 1))
    → (glass_in (sights_of r.scene.glasses) sid).stages
    ≡ Some (stretch script (donation_of r.parts.config sid) next)
    → KnowsStretch (script_in r.parts.scripts sid) (donation_of r.parts.config sid)
    (length (calls_of sid (without_final r.scene.entries))) (slice_index now sid)
    (glass_in (sights_of r.scene.glasses) sid)
waiting_own law {r = r} {sid = sid} {next = next} {script = script} room at ends knows = record {
  since = next + 1;
  until = next + 1;
  stages_are = rw (script_there at, knows, phase_stages law script (donation_of r.parts.config sid) next at.line_is);
  strokes = omega arith;
  made_before = rw (
    script_there at,
    no_more_calls script next line.Phase at.line_is refl,
    calls_made r sid next script room at.script_is at.counted,
  );
  in_phase = rw (script_there at, ends.is) (sym (get_or-set_same _ sid _ 0 ends.inside));
}

-- the other clients are where they were
pub waiting_others : {r : RoomModel} {actor before after' : ℕ} {now : List ℕ} → IsRoom r
    → Ends (ended_by r) now actor before after' → (t : ℕ) → t < length r.parts.scripts → t ≢ actor
    → KnowsStretch (script_in r.parts.scripts t) (donation_of r.parts.config t)
    (length (calls_of t (without_final r.scene.entries))) (slice_index now t) (glass_in (sights_of r.scene.glasses) t)
waiting_others {actor = actor} {after' = after'} room ends t inside ne =
    rw (ends.is, get_or-set_other _ actor t after' 0 ne) (room.waiting t inside)

-- the room when a client has ended its phase
pub room_arrived : NextLine → {r : RoomModel} {sid next : ℕ} {script : List Line} → IsRoom r
    → IsNext r.parts.scripts r.counts sid next script line.Phase → phases_before script next ≡ r.phase
    → sid < length r.scene.glasses
    → let then = after_arrival (length r.parts.scripts) r.phase r.arrived in
    let agreed = with_room_stages r sid (stretch script (donation_of r.parts.config sid) next) in
    IsRoom (room_then agreed agreed.scene r.raws (raised r.counts sid) then.0 then.1)
room_arrived law {r = r} {sid = sid} {next = next} {script = script} room at ready many =
    let stages = stretch script (donation_of r.parts.config sid) next in
    let agreed = room_admitted next room at.script_is at.counted ready many in
    let ends = client_ends r.parts.input room.follows.each at in
    let knows = ap (λ (g : Sight). g.stages) (own_end sid stages r.scene.glasses many) in
    phase_over (raised r.counts sid) agreed (still_open room at) ends ready
    (counted_more is_phase script next line.Phase at.line_is refl)
    (λ later. follows_phase room.follows at later refl)
    (λ t inside. elim (cases_eq t sid) [
      | inl e ↦ rw e (waiting_own law agreed at ends knows)
      | inr ne ↦ waiting_others agreed ends t inside ne
    ])

-- ---- a pass that has met the room

-- the room and the pass when they have met: the pass belongs to the room, its lines are counted, and it is in the phase
-- that is served
pub record IsMet (r : RoomModel) (p : PassModel) : Type 0 where
  pub belongs : Belongs r.parts p
  pub counted : slice_index r.counts p.sid ≡ length (served (take p.next p.script))
  pub phase : p.phase ≡ r.phase

pub room_and_pass_met : {r₀ r r' : RoomModel} {p₀ p p' : PassModel} → r ≡ r' → p ≡ p' → HasMet r₀ p₀ r' p'
    → Belongs r₀.parts p₀ → p₀.phase ≡ r₀.phase → IsMet r p
room_and_pass_met {r₀ = r₀} {p₀ = p₀} er ep met of ready =
    let belongs : Belongs r₀.parts (knowing (without_final r₀.scene.entries) p₀) = assumption in
    rw (er ∙ met.room, ep ∙ met.pass) (record { belongs = belongs; counted = met.counted; phase = ready })
