-- A room after one more entry, and after the end of a phase.
use Rattle.nit_hall.proofs.Basics.{AllServed, AreNear, AreWatching, CanAdd, Configuration}
use Rattle.nit_hall.proofs.Basics.{End, Entry, EntryLaws, Follows, HaveInks, InputLine, IsAdded}
use Rattle.nit_hall.proofs.Basics.{IsLegal, IsLoaded, IsOpen, IsRoom, IsServedPhase, KnowsStretch}
use Rattle.nit_hall.proofs.Basics.{Line, Painted, RoomModel, SceneModel, Sight, Word, after}
use Rattle.nit_hall.proofs.Basics.{as_many, as_many_as_clients, buffers_of, calls_of}
use Rattle.nit_hall.proofs.Basics.{calls_of-append, donation_of, first_state, glass_in}
use Rattle.nit_hall.proofs.Basics.{phases_ended, pixel, script_in, source_at, state_now}
use Rattle.nit_hall.proofs.Basics.{without_final}
use Rattle.std.proofs.Common.{List, [], ap, append-nil, arith, inl, length, length-append, refl}
use Rattle.std.proofs.Common.{ℕ, ◌++◌, ◌<◌, ◌∙◌, ◌∷◌, ◌≡◌, ◌⊎◌, inr, slice_index, ◌+◌}
use mathlib.Core.List.{IsPrefix}
use Rattle.nit_hall.proofs.EntryLemmas.{GoesOn, clean_painted, open_whole}
use Rattle.nit_hall.proofs.NearLemmas.{IsInPhase, ShowsThen, TellsWords, WasLeft, held_near}
use Rattle.nit_hall.proofs.NearLemmas.{lens_shows, near_more, sights_of, word_session}
use Rattle.nit_hall.proofs.ClipLineLemmas.{clips_then}
use Rattle.nit_hall.proofs.ScriptsFollowed.{entries_within}

-- the room with this scene, these raw words after each entry and these counts, in this phase
abbrev pub room_then : RoomModel → SceneModel End → List (List ℕ) → List ℕ → ℕ → ℕ → RoomModel
room_then r scene raws counts phase arrived =
    record r {
      parts = record r.parts { config = scene.config; buffers = buffers_of scene.glasses };
      scene = scene;
      counts = counts;
      phase = phase;
      arrived = arrived;
      raws = raws;
    }

-- how many phases each actor of the room has ended
abbrev pub ended_by : RoomModel → List ℕ
ended_by r = phases_ended r.parts.scripts r.parts.input r.counts

-- This phase is served now where that one was, and so many have ended it. Where it is another one, the actors are in it.
pub record IsTurned (was phase arrived : ℕ) (ended : List ℕ) : Type 0 where
  pub served : IsServedPhase phase arrived ended
  pub step : (k : ℕ) → k < length ended → (phase ≡ was) ⊎ (slice_index ended k ≡ phase)

pub ended_long : (scripts : List (List Line)) (input : List InputLine) (counts : List ℕ)
    → length counts ≡ length scripts + 1 → length (phases_ended scripts input counts) ≡ length scripts + 1
ended_long [] input (c ∷ cs) long = refl
ended_long (s ∷ ss) input (c ∷ cs) long = omega (arith, ended_long ss input cs (omega arith))
ended_long ss input [] long = absurd (omega arith)

-- an open room has room for one entry more
pub can_add : {r : RoomModel} → IsRoom r → IsOpen r.scene.entries → CanAdd r.scene
can_add {r = r} room o = record {
  spare = omega (arith, entries_within room.follows, ap length (open_whole r.scene.entries o), room.room);
  «open» = o;
}

-- what a pass knew of the book is a front of an open journal
pub before_open : {r r₀ : RoomModel} (known : List Entry) → r ≡ r₀ → IsOpen r.scene.entries
    → IsPrefix known (without_final r₀.scene.entries) → IsPrefix known r₀.scene.entries
before_open {r = r} known er o before = rw (← er) (rw (← er, open_whole r.scene.entries o) at before)

-- the book has one entry more, and so has an open journal
pub booked_more : {old new : SceneModel End} {e : Entry} → IsOpen old.entries → IsOpen new.entries
    → IsAdded old new e → without_final old.entries ++ e ∷ [] ≡ without_final new.entries
booked_more {old = old} {new = new} was is added =
    rw (open_whole old.entries was, open_whole new.entries is, added.recorded)

pub state_later : EntryLaws → {old new : SceneModel End} {e : Entry} → IsAdded old new e
    → state_now new ≡ after (state_now old) e
state_later laws {old = old} {new = new} {e = e} added =
    rw (added.config, added.recorded) (laws.more (first_state old.config) old.entries e)

module _ (laws : EntryLaws) {r : RoomModel} {new : SceneModel End} {e : Entry} (room : IsRoom r)
    (o : IsOpen r.scene.entries) (added : IsAdded r.scene new e) where
  pub legal_then : IsLegal r.scene.config (r.scene.entries ++ e ∷ [])
  legal_then = rw (added.config, added.recorded) at added.legal

  pub inks_before : HaveInks r.scene.config r.parts.scripts r.scene.glasses
  inks_before = rw room.config room.inks

  -- what is loaded through a session's own reader's end was left by lines that it may have done
  pub lenses_show : (t : ℕ) → t < length r.parts.scripts → calls_of t (e ∷ []) ≡ [] → (i w : ℕ)
      → IsLoaded (glass_in (sights_of r.scene.glasses) t) i w
      → WasLeft r.scene.config r.parts.scripts r.phase t (r.scene.entries ++ e ∷ []) i w
  lenses_show t inside none i w loaded = lens_shows r.scene.config r.parts.scripts r.phase r.scene.entries e t _
      (rw (room.config, ← open_whole r.scene.entries o) (room.watching t inside)) none i w loaded

  -- the reader's end of a session that knows the stages that it knew is where it was, if the entry is no call of it
  pub watching_other : (phase t : ℕ) → IsOpen new.entries
      → (glass_in (sights_of new.glasses) t).stages ≡ (glass_in (sights_of r.scene.glasses) t).stages
      → calls_of t (e ∷ []) ≡ []
      → KnowsStretch (script_in r.parts.scripts t) (donation_of r.parts.config t)
      (length (calls_of t (without_final r.scene.entries))) phase (glass_in (sights_of r.scene.glasses) t)
      → KnowsStretch (script_in r.parts.scripts t) (donation_of r.scene.config t)
      (length (calls_of t (without_final new.entries))) phase (glass_in (sights_of new.glasses) t)
  watching_other phase t is same none w = record {
    since = w.since;
    until = w.until;
    stages_are = rw room.config (same ∙ w.stages_are);
    strokes = w.strokes;
    made_before = rw (← booked_more o is added, calls_of-append, none, append-nil) w.made_before;
    in_phase = w.in_phase;
  }

  -- a word that the entry marks comes from a client that there is
  client_there : (k t i : ℕ) → source_at (after (state_now r.scene) e) k ≡ Word t i → t < length r.parts.scripts
  client_there k t i is =
      let s = state_now r.scene in
      let inside = word_session (after s e) (pixel (after s e).config.width k) t i is in
      omega (
        arith,
        inside,
        as_many s e,
        as_many_as_clients r.scene.config r.scene.entries,
        room.sessions,
        ap (λ (c : Configuration). length c.clients) room.config,
      )

  -- each pixel that the entry marks is loaded by these glasses
  pub near_then : {glasses glasses' : ℕ → Sight} → IsInPhase r.parts.scripts r.parts.input r.phase r.scene.entries e
      → ShowsThen r.scene.config r.parts.scripts r.phase r.scene.entries e glasses
      → TellsWords r.scene.config r.parts.scripts r.scene.entries e glasses
      → Painted (state_now r.scene) e (state_now new) glasses glasses' r.scene.raw new.raw
      → AreNear r.scene.config r.parts.scripts r.parts.input (r.scene.entries ++ e ∷ []) new.raw
  near_then {glasses = glasses} served_ shows tells painted =
      near_more r.scene.config r.parts.scripts r.parts.input r.scene.entries e laws r.scene.raw new.raw legal_then
      (rw room.config room.near)
      (λ k inside is. held_near r.scene.config r.parts.scripts r.parts.input r.scene.entries e r.phase glasses k _ _ is
      served_ shows tells (client_there k) ((rw (state_later laws added) at painted).marked k inside is).0)
      (clean_painted r.scene new e (state_later laws added) painted)

  pub room_grown : (raws : List (List ℕ)) (counts : List ℕ) → GoesOn r.scene.config new raws
      → AreNear r.scene.config r.parts.scripts r.parts.input (r.scene.entries ++ e ∷ []) new.raw
      → HaveInks r.scene.config r.parts.scripts new.glasses
      → AreWatching r.parts.scripts r.scene.config (without_final new.entries) (λ t. r.phase) new.glasses
      → AreWatching r.parts.scripts r.scene.config (without_final new.entries) (slice_index (ended_by r)) new.glasses
      → Follows r.parts.scripts r.parts.input counts r.phase (without_final new.entries)
      → phases_ended r.parts.scripts r.parts.input counts ≡ ended_by r
      → IsOpen new.entries ⊎ AllServed r.parts.scripts r.parts.input counts
      → IsRoom (room_then r new raws counts r.phase r.arrived)
  room_grown raws counts went near inks watching waiting follows same_phases ended = record {
    config = refl;
    legal = added.legal;
    sessions = rw (added.config, room.config) room.sessions;
    clients = room.clients;
    follows = follows;
    phases = rw same_phases room.phases;
    inks = rw added.config inks;
    watching = rw added.config watching;
    waiting = rw (added.config, same_phases) waiting;
    near = rw (added.config, added.recorded) near;
    room = rw (added.recorded, length-append) (omega (arith, room.room, added.spare, (can_add room o).spare));
    ended = ended;
    clips_follow = clips_then laws.stay r new e room added.config added.recorded;
    history = rw added.config went.history;
    history_ends = rw added.config went.ends;
  }

-- One more actor has ended its phase. Where that brings another phase, all clients have ended theirs.
pub room_turned : {r : RoomModel} (counts : List ℕ) (phase arrived : ℕ) → IsRoom r → IsOpen r.scene.entries
    → Follows r.parts.scripts r.parts.input counts phase (without_final r.scene.entries)
    → IsTurned r.phase phase arrived (phases_ended r.parts.scripts r.parts.input counts)
    → length counts ≡ length r.parts.scripts + 1
    → AreWatching r.parts.scripts r.parts.config (without_final r.scene.entries)
    (slice_index (phases_ended r.parts.scripts r.parts.input counts)) r.scene.glasses
    → IsRoom (room_then r r.scene r.raws counts phase arrived)
room_turned {r = r} counts phase arrived room o follows turned long waiting =
    let ended_now = phases_ended r.parts.scripts r.parts.input counts in
    let watching : AreWatching r.parts.scripts r.parts.config (without_final r.scene.entries) (λ t. phase)
    r.scene.glasses =
    λ t inside. elim (turned.step t (omega (arith, inside, ended_long r.parts.scripts r.parts.input counts long))) [
      | inl same ↦ rw same (room.watching t inside)
      | inr here ↦ rw (← here) (waiting t inside)
    ] in
    let phases = turned.served in
    let ended : IsOpen r.scene.entries ⊎ AllServed r.parts.scripts r.parts.input counts = inl o in
    rw room.config assumption
