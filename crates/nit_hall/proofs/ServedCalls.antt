-- A room and a pass after a call.
use Rattle.nit_hall.proofs.Basics.{AreWatching, Belongs, Call, End, Entry, EntryLaws, HasLoaded}
use Rattle.nit_hall.proofs.Basics.{HaveInks, IsAdded, IsOpen, IsPaintedTo, IsPass, IsRoom, Line}
use Rattle.nit_hall.proofs.Basics.{OpeningParts, Painted, PassModel, Recorded, Reply, RoomModel}
use Rattle.nit_hall.proofs.Basics.{SceneModel, ShareModel, Sight, call_entry, calls_in, calls_of}
use Rattle.nit_hall.proofs.Basics.{calls_own, cases_eq, donation_of, entries_in}
use Rattle.nit_hall.proofs.Basics.{get_or_from_slice_get, glass_in, glasses_of_call, in_line}
use Rattle.nit_hall.proofs.Basics.{is_accepted, is_phase, is_served, knowing, length-map, lenses}
use Rattle.nit_hall.proofs.Basics.{line_stages, nat_tests, next_call, phases_before, raised, seen}
use Rattle.nit_hall.proofs.Basics.{serve, served, session, sight_after_line, slice_get_within}
use Rattle.nit_hall.proofs.Basics.{stands, state_now, stretch, stretch_end, stretch_from}
use Rattle.nit_hall.proofs.Basics.{with_end_stages, with_stages, with_words, without_final}
use Rattle.nit_hall.proofs.Basics.{words_after}
use Rattle.std.proofs.Common.{List, Some, [], ap, arith, eq-eqb, false, inl, inr, length, ne_eqb}
use Rattle.std.proofs.Common.{refl, slice_get, slice_index, sym, take, true, ℕ, ◌++◌, ◌+◌, ◌<◌, ◌∙◌}
use Rattle.std.proofs.Common.{◌∷◌, ◌≡◌, ◌≢◌}
use Rattle.nit_events.specs.declared.entry.Entry.TheVariants as entry
use Rattle.nit_script.specs.declared.line.Line.TheVariants as line
use Rattle.nit_hall.proofs.LineLemmas.{calls_front, calls_line, counted_same, line_counted}
use Rattle.nit_hall.proofs.LineLemmas.{served_counted, stretch_begun}
use Rattle.nit_hall.proofs.EntryLemmas.{clean_painted, goes_on, open_whole}
use Rattle.nit_hall.proofs.NearLemmas.{IsInPhase, ShowsThen, TellsWords, other_end, own_end}
use Rattle.nit_hall.proofs.NearLemmas.{same_ink, same_stands, stages_again, told_shows}
use Rattle.nit_hall.proofs.RoomSteps.{booked_more, inks_before, lenses_show, near_then, room_grown}
use Rattle.nit_hall.proofs.RoomSteps.{ended_by, room_then, state_later, watching_other}
use Rattle.nit_hall.proofs.ScriptsFollowed.{IsNext, client_is, follows_call, one_left}
use Rattle.nit_hall.proofs.ScriptsFollowed.{phase_of_next, script_there}
use Rattle.nit_hall.proofs.Phases.{client_ends, same_phase}

-- ---- before it

pub next_at : {parts : OpeningParts} {p : PassModel} (counts : List ℕ) (l : Line) → Belongs parts p
    → slice_get p.script p.next ≡ Some l → is_served l ≡ true
    → slice_index counts p.sid ≡ length (served (take p.next p.script))
    → IsNext parts.scripts counts p.sid p.next p.script l
next_at counts l of at is counted = grind (arith, nat_tests)

-- the room in which a client has a line left is open
pub still_open : {r : RoomModel} {sid next : ℕ} {script : List Line} {l : Line} → IsRoom r
    → IsNext r.parts.scripts r.counts sid next script l → IsOpen r.scene.entries
still_open {sid = sid} room at = elim room.ended [
  | inl o ↦ o
  | inr all ↦ absurd (omega (arith, one_left at, all.0 sid (client_is at)))
]

-- the calls that a client has made are those among its lines so far
pub calls_made : (r : RoomModel) (sid next : ℕ) (script : List Line) → IsRoom r
    → slice_get r.parts.scripts sid ≡ Some script → slice_index r.counts sid ≡ length (served (take next script))
    → calls_of sid (without_final r.scene.entries) ≡ calls_in (take next script)
calls_made r sid next script room at counted =
    grind (arith, nat_tests, slice_get_within, get_or_from_slice_get, calls_front)

-- and with the next call they are those with its line
pub calls_then : {r : RoomModel} {sid next : ℕ} {script : List Line} {c : Call} (rep : Reply) → IsRoom r
    → IsNext r.parts.scripts r.counts sid next script (line.Call c)
    → calls_of sid (without_final r.scene.entries ++ entry.Call sid c rep ∷ []) ≡ calls_in (take (next + 1) script)
calls_then {r = r} {sid = sid} {next = next} {script = script} {c = c} rep room at =
    rw (calls_own, calls_made r sid next script room at.script_is at.counted, calls_line script next _ at.line_is)

-- ---- the glasses of a call

pub own_there : (glasses : List Sight) (sid : ℕ) (own : Sight) → glasses_of_call glasses sid own sid ≡ own
own_there glasses sid own = rw (eq-eqb sid sid refl)

pub other_there : (glasses : List Sight) (sid : ℕ) (own : Sight) (t : ℕ) → t ≢ sid → glasses_of_call glasses sid own t
    ≡ glass_in glasses t
other_there glasses sid own t ne = rw (ne_eqb t sid ne)

-- what was loaded in the call is not told
abbrev pub WereSeen : List Sight → List Sight → ℕ → Sight → Sight → Type 0
WereSeen old new sid own own' = (t : ℕ) → (loads : List (ℕ × ℕ))
    × (glasses_of_call new sid own' t ≡ seen (glasses_of_call old sid own t) loads)

pub own_seen : (old new : List Sight) (sid : ℕ) (own own' : Sight) → WereSeen old new sid own own'
    → (loads : List (ℕ × ℕ)) × (own' ≡ seen own loads)
own_seen old new sid own own' were =
    let saw = were sid in (saw.0, rw (← own_there new sid own', saw.1, own_there old sid own))

-- ---- the room after it

-- what the scene promises of a call
pub record CallDid (old new : SceneModel End) (sid : ℕ) (c : Call) (r : Reply) (own own' : Sight) : Type 0 where
  pub added : IsAdded old new (entry.Call sid c r)
  pub open_is : IsOpen new.entries
  pub painted : Painted (state_now old) (entry.Call sid c r) (state_now new) (glasses_of_call (lenses old) sid own)
      (glasses_of_call (lenses new) sid own') old.raw new.raw
  pub idle : glass_in (lenses new) sid ≡ glass_in (lenses old) sid
  pub reply_is : r ≡ (serve (session (state_now old) sid) c).reply
  pub rests : stands new ≡ stands old
  pub refused : is_accepted r ≡ false → (state_now new ≡ state_now old) × (new.raw ≡ old.raw)
      × (new.glasses ≡ old.glasses) × (own' ≡ own)

-- the scene where the end of this client knows these stages
abbrev pub scene_with : SceneModel End → ℕ → List (List ℕ) → SceneModel End
scene_with scene sid stages = record scene { glasses = with_end_stages sid stages scene.glasses }

-- The client's end knows the stages of the line before the call, and those of the stretch after it afterwards.
module _ (laws : EntryLaws) {r : RoomModel} {called : SceneModel End} {sid next : ℕ} {script : List Line} {c : Call}
    {rep : Reply} {own own' : Sight} (stages : List (List ℕ)) (room : IsRoom r)
    (at : IsNext r.parts.scripts r.counts sid next script (line.Call c))
    (ready : r.phase ≡ phases_before script next)
    (did : CallDid (scene_with r.scene sid stages) called sid c rep own own')
    (told : own.words ≡ Some (words_after script (donation_of r.scene.config sid) (next + 1))) where
  abbrev pub later : SceneModel End
  later = scene_with called sid (stretch script (donation_of r.scene.config sid) (next + 1))

  was_open : IsOpen r.scene.entries
  was_open = still_open room at

  added : IsAdded r.scene later (entry.Call sid c rep)
  added = assumption did.added

  made : calls_of sid r.scene.entries ≡ calls_in (take next script)
  made = rw (open_whole r.scene.entries was_open) at (calls_made r sid next script room at.script_is at.counted)

  made_then : calls_of sid (r.scene.entries ++ entry.Call sid c rep ∷ []) ≡ calls_in (take (next + 1) script)
  made_then = rw (open_whole r.scene.entries was_open) at (calls_then rep room at)

  ended_then : phases_before script (next + 1) ≡ r.phase
  ended_then = counted_same is_phase script next (line.Call c) at.line_is refl ∙ sym ready

  in_phase : IsInPhase r.parts.scripts r.parts.input r.phase r.scene.entries (entry.Call sid c rep)
  in_phase still = rw (open_whole r.scene.entries was_open) at (phase_of_next rep room.follows at ready)

  no_other_call : (t : ℕ) → t ≢ sid → calls_of t (entry.Call sid c rep ∷ []) ≡ []
  no_other_call t ne = rw (ne_eqb sid t (λ e. ne (sym e)))

  other_glass : (t : ℕ) → t ≢ sid → glasses_of_call (lenses (scene_with r.scene sid stages)) sid own t
      ≡ glass_in (lenses r.scene) t
  other_glass t ne = grind (arith, nat_tests, other_there, other_end)

  shows : ShowsThen r.scene.config r.parts.scripts r.phase r.scene.entries (entry.Call sid c rep)
      (glasses_of_call (lenses (scene_with r.scene sid stages)) sid own)
  shows t inside i w loaded = elim (cases_eq t sid) [
    | inl e ↦ rw e (told_shows r.scene.config r.parts.scripts r.phase _ sid (next + 1) own (rw (script_there at) told)
        (record {
          calls = rw (script_there at, made_then) refl;
          phases = rw (script_there at) (λ still. ended_then);
        }) i w (rw (e, own_there (lenses (scene_with r.scene sid stages)) sid own) at loaded))
    | inr ne ↦ lenses_show laws room was_open added t inside (no_other_call t ne) i w
        (rw (other_glass t ne) at loaded)
  ]

  -- the caller's glass tells what the lines up to the call leave
  tells : TellsWords r.scene.config r.parts.scripts r.scene.entries (entry.Call sid c rep)
      (glasses_of_call (lenses (scene_with r.scene sid stages)) sid own)
  tells t call reply same =
      let who : t ≡ sid = cc in
      rw (who, own_there _ sid own, script_there at, made, line_counted script next c at.line_is) told

  later_inks : HaveInks r.scene.config r.parts.scripts later.glasses
  later_inks t =
      same_ink sid (stretch script (donation_of r.scene.config sid) (next + 1)) called.glasses t
      ∙ elim (cases_eq t sid) [
        | inl e ↦ rw (e, did.idle, same_ink) (inks_before laws room was_open added sid)
        | inr ne ↦ rw (← other_there (lenses called) sid own' t ne, did.painted.sights t, other_glass t ne)
            (inks_before laws room was_open added t)
      ]

  other_stages : (t : ℕ) → t ≢ sid
      → (glass_in (lenses later) t).stages ≡ (glass_in (lenses r.scene) t).stages
  other_stages t ne = grind (arith, nat_tests, other_end, other_there, other_glass)

  watching_then : sid < length called.glasses → (phase_of : ℕ → ℕ) → phase_of sid ≡ r.phase
      → AreWatching r.parts.scripts r.parts.config (without_final r.scene.entries) phase_of r.scene.glasses
      → AreWatching r.parts.scripts r.scene.config (without_final later.entries) phase_of later.glasses
  watching_then many phase_of here watching t inside = elim (cases_eq t sid) [
    | inl e ↦ rw e (record {
      since = next + 1;
      until = stretch_end script (next + 1);
      stages_are = rw (script_there at, own_end sid _ called.glasses many);
      strokes = rw (script_there at) (omega arith);
      made_before = rw (script_there at, ← made_then, open_whole called.entries did.open_is, did.added.recorded);
      in_phase = rw (script_there at, here) ended_then;
    })
    | inr ne ↦ watching_other laws room was_open added (phase_of t) t did.open_is (other_stages t ne)
        (no_other_call t ne) (watching t inside)
  ]

  pub room_call : sid < length called.glasses
      → IsRoom (room_then r later (r.raws ++ later.raw ∷ []) (raised r.counts sid) r.phase r.arrived)
  room_call many =
      let ends = client_ends r.parts.input room.follows.each at in
      room_grown laws room was_open added (r.raws ++ later.raw ∷ []) (raised r.counts sid)
      (goes_on room was_open did.open_is added
      (clean_painted r.scene later (entry.Call sid c rep) (state_later laws added) did.painted))
      (near_then laws room was_open added in_phase shows tells did.painted) later_inks
      (watching_then many (λ t. r.phase) refl room.watching)
      (watching_then many (slice_index (ended_by r)) (ends.was ∙ sym ready) room.waiting)
      (rw (← booked_more was_open did.open_is added) (follows_call rep room.follows at ready))
      (same_phase ends (counted_same is_phase script next (line.Call c) at.line_is refl))
      (inl did.open_is)

-- ---- the pass after it

pub pass_call : {p : PassModel} {share : ShareModel} {spare : End} {between sight : Sight} (c : Call) (met : ℕ)
    (name : _) (known : List Recorded) (stand : _) (stages : List (List ℕ)) (loads : List (ℕ × ℕ))
    → IsPass p share spare → slice_get p.script p.next ≡ Some (line.Call c)
    → IsPaintedTo p.script p.donation p.plan (p.next + 1) between
    → between ≡ with_stages stages (with_words (λ words. words_after p.script p.donation (p.next + 1)) p.sight)
    → sight ≡ seen between loads → met ≡ p.phase
    → calls_of p.sid (entries_in known) ≡ calls_in (take (p.next + 1) p.script)
    → IsPass (record p {
      next = p.next + 1;
      met = met;
      name = name;
      seen = entries_in known;
      sight = with_stages (stretch p.script p.donation (p.next + 1)) sight;
      stand = stand;
    }) (record { name = name; number = share.number; count = share.count + 1; seen = known }) spare
pass_call {p = p} c met name known stand stages loads is at painted set seen_is served_ knows =
    record {
      number = is.number;
      counted = rw (is.counted, served_counted p.script p.next (line.Call c) at refl);
      within = omega (arith, slice_get_within p.script p.next (line.Call c) at);
      phase = is.phase ∙ sym (counted_same is_phase p.script p.next (line.Call c) at refl);
      known = knows;
      owner = rw (seen_is, set) is.owner;
      painted = rw seen_is (assumption painted);
      inked = rw (seen_is, set) is.inked;
      told = rw (seen_is, set, is.told);
      not_ahead = omega (arith, served_);
      agreed = refl;
      stretch = λ same. stretch_begun p.script p.donation (p.next + 1);
      spare_owner = is.spare_owner;
      spare_size = rw (seen_is, set) is.spare_size;
    }

-- ---- what a call finds

-- the room and the pass at a call
pub record Found (r : RoomModel) (p : PassModel) (l : Line) : Type 0 where
  pub next_is : IsNext r.parts.scripts r.counts p.sid p.next p.script l
  pub donation_is : p.donation ≡ donation_of r.parts.config p.sid
  pub ready : p.phase ≡ r.phase

-- ---- what serving a call leaves, by what the scene's call did

-- what the room promises of it, with this scene and this sight of the pass after it
pub record ServedClauses (r : RoomModel) (p : PassModel) (scene' : SceneModel End) (sight' : Sight) (reply : Reply)
    : Type 0 where
  pub reply_is : reply ≡ (serve (session (state_now r.scene) p.sid) (next_call p)).reply
  pub painted : Painted (state_now r.scene) (call_entry p reply) (state_now scene')
      (glasses_of_call (lenses r.scene) p.sid (in_line p (sight_after_line p)))
      (glasses_of_call (lenses scene') p.sid (in_line p sight')) r.scene.raw scene'.raw
  pub idle : glass_in (lenses scene') p.sid
      ≡ with_stages (stretch_from p (p.next + 1)) (glass_in (lenses r.scene) p.sid)
  pub stand_still : stands scene' ≡ stands r.scene
  pub refused : is_accepted reply ≡ false → (state_now scene' ≡ state_now r.scene) × (scene'.raw ≡ r.scene.raw)
      × (scene'.glasses ≡ with_end_stages p.sid (stretch_from p (p.next + 1)) r.scene.glasses)
      × (sight' ≡ with_stages (stretch_from p (p.next + 1)) (sight_after_line p))
  pub loaded : HasLoaded (sight_after_line p) sight'
  pub agreed : sight'.stages ≡ Some (stretch_from p (p.next + 1))

-- the caller's own glass stands in the place of the reader's end that knows other stages
same_glasses : (scene : SceneModel End) (sid : ℕ) (stages : List (List ℕ)) (own : Sight)
    → glasses_of_call (lenses (scene_with scene sid stages)) sid own ≡ glasses_of_call (lenses scene) sid own
same_glasses scene sid stages own = λ i t. each t i
  where
    each : (t : ℕ) → glasses_of_call (lenses (scene_with scene sid stages)) sid own t
        ≡ glasses_of_call (lenses scene) sid own t
    each t = grind (arith, nat_tests, own_there, ne_eqb, other_end)

pub served_clauses : {r : RoomModel} {p : PassModel} {called scene' : SceneModel End} {rep : Reply}
    {own₀ own' sight' : Sight} (c : Call)
    → c ≡ next_call p → own₀ ≡ in_line p (sight_after_line p) → p.sid < length r.scene.glasses
    → CallDid (scene_with r.scene p.sid (line_stages p.script p.donation p.next)) called p.sid c rep own₀ own'
    → scene' ≡ scene_with called p.sid (stretch_from p (p.next + 1))
    → sight' ≡ with_stages (stretch_from p (p.next + 1)) own' → ServedClauses r p scene' sight' rep
served_clauses {r = r} {p = p} {called = called} {rep = rep} {own' = own'} c call own_is many had scene_is sight_is =
    let did = rw (call, own_is) at had in
    let line = line_stages p.script p.donation p.next in
    let behind = stretch_from p (p.next + 1) in
    let own = in_line p (sight_after_line p) in
    let saw = own_seen (lenses (scene_with r.scene p.sid line)) (lenses called) p.sid own own'
    (λ t. (did.painted.loads t, did.painted.sights t)) in
    let again : in_line p own' ≡ own' = ap (in_line p) saw.1 ∙ sym saw.1 in
    let rests = did.rests ∙ same_stands p.sid line r.scene.glasses in
    let there : p.sid < length called.glasses = omega (arith, many, simp length-map at (ap length rests)) in
    rw (scene_is, sight_is) (record {
      reply_is = did.reply_is;
      painted = rw (again, same_glasses called p.sid behind own', ← same_glasses r.scene p.sid line own) did.painted;
      idle = rw (own_end p.sid behind called.glasses there, did.idle, own_end p.sid line r.scene.glasses many);
      stand_still = same_stands p.sid behind called.glasses ∙ rests;
      refused = λ no. let x = did.refused no in (x.0, x.1, rw (x.2, stages_again), rw x.3);
      loaded = (saw.0, ap (with_stages behind) saw.1);
      agreed = refl;
    })

-- what a pass knows has no part in it
pub before_it_knew : {r : RoomModel} {p : PassModel} {scene' : SceneModel End} {sight' : Sight} {rep : Reply}
    (known : List Entry) → ServedClauses r (knowing known p) scene' sight' rep → ServedClauses r p scene' sight' rep
before_it_knew known s = assumption
