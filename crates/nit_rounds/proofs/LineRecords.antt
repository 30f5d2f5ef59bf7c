-- A line, done: what stays of the scene, and what is recorded.
use Rattle.nit_rounds.proofs.Basics.{AreQuiet, AreQuietBut, BufferArea, ByClient, ByUser, Call}
use Rattle.nit_rounds.proofs.Basics.{CanDoUserLine, CanDraw, ClientPart, Device, DoesClientLine}
use Rattle.nit_rounds.proofs.Basics.{DoesUserLine, Entry, FitsInto, HasDrawn, HasSession, HasStage}
use Rattle.nit_rounds.proofs.Basics.{IsAdded, IsBehind, IsButFor, IsGlass, IsMoved, IsOpen}
use Rattle.nit_rounds.proofs.Basics.{IsPaintedTo, IsUserRecorded, Line, List, None, Option, Painted}
use Rattle.nit_rounds.proofs.Basics.{Reply, Routed, SceneModel, Sight, Some, Stale, Step, WereSeen}
use Rattle.nit_rounds.proofs.Basics.{[], after, ap₂, arith, cases_eq, donation_of, entry_of, eq-eqb}
use Rattle.nit_rounds.proofs.Basics.{ext_get_or, false, fold-append, get_or, get_or-set_other}
use Rattle.nit_rounds.proofs.Basics.{get_or-set_same, get_or_from_slice_get, glass_after, glass_in}
use Rattle.nit_rounds.proofs.Basics.{glasses_of_call, inl, inr, is_in_area, is_number_in, is_set_by}
use Rattle.nit_rounds.proofs.Basics.{is_stale, length, length-map, mul-le-mul_right, nat_tests}
use Rattle.nit_rounds.proofs.Basics.{ne_eqb, no_sight, or_parts, plan_of_script, refl, same_Some}
use Rattle.nit_rounds.proofs.Basics.{seen, shots, slice_index, state_now, static, step_of_line, subst}
use Rattle.nit_rounds.proofs.Basics.{sym, table_size, with_words, word_inked, words_after}
use Rattle.std.proofs.Common.{IfSome, length-append, length-set, map, map-id, set, slice_get, ℕ}
use Rattle.std.proofs.Common.{◌%◌, ◌*◌, ◌++◌, ◌+◌, ◌-◌, ◌/◌, ◌<◌, ◌||◌, ◌∙◌, ◌∷◌, ◌≡◌, ◌≢◌, ◌≤◌}
use Rattle.nit_rounds.proofs.DrawingLemmas.{but_none, with_glass_of}
use Rattle.nit_events.specs.declared.entry.Entry.TheVariants as entry
use Rattle.nit_script.specs.declared.line.InputLine.TheVariants as input
use Rattle.nit_script.specs.declared.line.Line.TheVariants as line
use Rattle.nit_rect.specs.Limits.{most_units}

-- ---- an event of the scene

-- It leaves the glasses where none tells a log, and moves the scene to the state after it and to raw words that are
-- loaded again where it makes them dirty.

abbrev pub itself : List Sight → List Sight
itself glasses = map (λ g. g) glasses

not_seen : (g : Sight) (loads : List (ℕ × ℕ)) → g.log ≡ None → seen g loads ≡ g
not_seen g loads quiet = rw (quiet, ← quiet)

-- the glasses of a call are those of the scene, with the own one for its session
of_call : (glasses : List Sight) (sid : ℕ) (own : Sight) → sid < length glasses → (t : ℕ)
    → glasses_of_call (itself glasses) sid own t ≡ glass_in (set glasses sid own) t
of_call glasses sid own inside t = grind (arith, nat_tests, get_or-set_same, map-id, get_or-set_other)

every_of_call : (glasses : List Sight) (sid : ℕ) (own : Sight) → sid < length glasses
    → glasses_of_call (itself glasses) sid own ≡ glass_in (set glasses sid own)
every_of_call glasses sid own inside = λ i t. of_call glasses sid own inside t i

own_there : (glasses : List Sight) (sid : ℕ) (own : Sight) → glasses_of_call (itself glasses) sid own sid ≡ own
own_there glasses sid own = rw (eq-eqb sid sid refl) refl

pub same_own : (old new : List Sight) (sid : ℕ) (own own' : Sight) → own.log ≡ None
    → WereSeen (itself old) (itself new) sid own own' → own' ≡ own
same_own old new sid own own' quiet were =
    let saw = were sid in
    rw (← own_there new sid own', saw.1, own_there old sid own, not_seen own saw.0 quiet)

other_there : (glasses : List Sight) (sid : ℕ) (own : Sight) (t : ℕ) → t ≢ sid
    → glasses_of_call (itself glasses) sid own t ≡ glass_in glasses t
other_there glasses sid own t other = rw (map-id glasses, ne_eqb t sid other) refl

-- glasses of which nothing else changed are the same, where each tells the same
all_same : {R : Type 0} (f : Sight → R) (old new : List Sight) → map f new ≡ map f old
    → ((t : ℕ) → glass_in new t ≡ glass_in old t) → new ≡ old
all_same f old new rests each =
    ext_get_or no_sight new old (rw (← length-map new f, rests, length-map old f)) (λ t inside. each t)

pub same_glasses : {R : Type 0} (f : Sight → R) (old new : List Sight) (sid : ℕ) (own own' : Sight)
    → AreQuietBut sid old → WereSeen (itself old) (itself new) sid own own'
    → glass_in (itself new) sid ≡ glass_in (itself old) sid → map f new ≡ map f old → new ≡ old
same_glasses f old new sid own own' quiet were idle rests = all_same f old new rests (λ t. elim (cases_eq t sid) [
  | inl e ↦ rw (e, ← map-id new, idle, map-id old, ← e)
  | inr other ↦
      let same = not_seen (glass_in old t) (were t).0 (quiet t other) in
      rw (← other_there new sid own' t other, (were t).1, other_there old sid own t other, same)
])

-- an event that is no call leaves the glasses, where none tells a log
pub same_seen : {R : Type 0} (f : Sight → R) (old new : List Sight) → AreQuiet old
    → ((t : ℕ) → (loads : List (ℕ × ℕ)) × (glass_in (itself new) t ≡ seen (glass_in (itself old) t) loads))
    → map f new ≡ map f old → new ≡ old
same_seen f old new quiet were rests = all_same f old new rests
    (λ t. rw (← map-id new, (were t).1, map-id old, not_seen (glass_in old t) (were t).0 (quiet t)))

-- ---- the scene

state_later : (old new : SceneModel Sight) (e : Entry) → new.config ≡ old.config → new.entries ≡ old.entries ++ e ∷ []
    → state_now new ≡ after (state_now old) e
state_later old new e config recorded = grind (arith, nat_tests, fold-append)

-- the glasses through which an entry is loaded are those that the scene has then
painted_moved : {old new : SceneModel Sight} {e : Entry} {loaded : Option Entry} {glasses : ℕ → Sight}
    → IsAdded old new e → Some e ≡ loaded → (later : List Sight) → glasses ≡ glass_in later
    → Painted (state_now old) e (state_now new) glasses (glass_in later) old.raw new.raw
    → IsMoved loaded old (record new { glasses = later })
painted_moved {old = old} {new = new} {e = e} added entry later same painted =
    let state = state_later old new e added.config added.recorded in
    let now = rw same at (rw state at painted) in
    rw (← entry) (record {
      state = state;
      words = λ k on_screen. (λ is. (now.marked k on_screen is).0, λ is. now.others k (λ _. is));
    })

-- one entry more takes a place of the room
one_taken : (old new : List Entry) (e : Entry) (spare spare' : ℕ) → new ≡ old ++ e ∷ [] → spare' ≡ spare - 1
    → 1 ≤ spare → length new + spare' ≡ length old + spare
one_taken old new e spare spare' recorded taken room = grind (arith, nat_tests, length-append)

-- what a device did is done and loaded
pub input_done : {old new : SceneModel Sight} {dev : Device} {r : Routed} → IsAdded old new (entry.Input dev r)
    → CanDoUserLine (input.Device dev) old → IsOpen new.entries → new.glasses ≡ old.glasses
    → Some (entry.Input dev r) ≡ entry_of (state_now old) (ByUser (input.Device dev))
    → Painted (state_now old) (entry.Input dev r) (state_now new) (glass_in (itself old.glasses))
    (glass_in (itself new.glasses)) old.raw new.raw
    → DoesUserLine (input.Device dev) old new
input_done {old = old} {new = new} {dev = dev} {r = r} added can unended glasses same painted =
    let spare = one_taken old.entries new.entries _ _ _ added.recorded added.spare (can.spare refl) in
    let moved = painted_moved added same new.glasses (rw (map-id old.glasses, ← glasses)) (rw (map-id new.glasses) at
    painted) in
    let recorded : IsUserRecorded (input.Device dev) old.entries new.entries = (r, added.recorded) in
    assumption (added.config, spare, recorded, moved)

-- a shot changes neither the state nor a raw word
shot_moved : (old new : SceneModel Sight) (number spare : ℕ)
    → new ≡ record old { entries = old.entries ++ entry.Shot number ∷ []; spare = spare } → IsMoved None old new
shot_moved old new number spare is =
    record { state = state_later old new (entry.Shot number) (rw is) (rw is); words = rw is }

-- ---- a line of a script, done on the own glass of its session

-- what the laws of scripts, plans and buffers say
abbrev pub AreLong : Type 0
AreLong = (script : List Line) (donation k : ℕ) → donation ≤ most_units → length (words_after script donation k)
    ≡ table_size donation

abbrev pub StayElsewhere : Type 0
StayElsewhere = (script : List Line) (donation k n : ℕ) (l : Line) → slice_get script k ≡ Some l
    → let step = step_of_line (static script donation k) (static script donation (k + 1)) l in is_set_by l step (n % step.w)
    (n / step.w) ≡ false
    → slice_index (words_after script donation (k + 1)) n ≡ slice_index (words_after script donation k) n

abbrev HaveSteps : Type 0
HaveSteps = (script : List Line) (donation k : ℕ) (l : Line) → slice_get script k ≡ Some l
    → slice_get (plan_of_script script donation).steps k
    ≡ Some (step_of_line (static script donation k) (static script donation (k + 1)) l)

abbrev Within : (List Line → ℕ → ℕ → ℕ) → (ℕ → ℕ) → Type 0
Within f most = (script : List Line) (donation k : ℕ) → donation ≤ most_units → f script donation k ≤ most donation

module _ {s : SceneModel Sight} {part : ClientPart} {k : ℕ} {stale : Option Stale} {own : Sight} (long : AreLong)
    (can : CanDraw s part k stale own) where
  abbrev script : List Line
  script = part.script.now

  abbrev donation : ℕ
  donation = donation_of s.config part.sid

  -- what the line's step is
  abbrev IsStep : Step → Line → Type 0
  IsStep step l = step ≡ step_of_line (static script donation k) (static script donation (k + 1)) l

  pub painted_to : IsPaintedTo script donation part.plan.now k own
  painted_to = rw can.own (assumption (can, word_inked script donation, long script donation k can.donation.1))

  -- the own glass knows no stages
  pub no_stages : (words : List ℕ) → HasStage own words
  no_stages words = rw can.own tt

  pub after_stroke : (g' : Sight) → g' ≡ with_words (λ words. words_after script donation (k + 1)) own
      → g' ≡ glass_after part.sid script donation (k + 1)
  after_stroke g' is = grind (arith, nat_tests)

  -- the step that the plan has for the line
  pub step_there : HaveSteps → (steps : List Step) (d : Step) (l : Line) → steps ≡ part.plan.now.steps
      → slice_get script k ≡ Some l → IsStep (get_or steps k d) l
  step_there have steps d l are here = grind (arith, nat_tests, get_or_from_slice_get)

  -- the area is within the glass
  pub fits : Within (λ x d n. (static x d n).bw * (static x d n).bh) table_size
      → Within (λ x d n. (static x d n).bw) (λ d. 4096) → Within (λ x d n. (static x d n).bh) (λ d. 4096)
      → (l : Line) (step : Step) (area : BufferArea) (own' : Sight) → IsStep step l → area.x + area.w ≤ step.w
      → area.y + area.h ≤ step.h → own' ≡ glass_after part.sid script donation (k + 1)
      → FitsInto own'.size (record { sid = part.sid; w = step.w; area = area })
  fits within wide tall l step area own' is across down now =
      let most = can.donation.1 in
      let w : step.w ≡ (static script donation (k + 1)).bw = rw is in
      let h : step.h ≡ (static script donation (k + 1)).bh = rw is in
      let size : own'.size ≡ table_size donation = rw (now, long script donation (k + 1) most) in
      let rows : (area.y + area.h) * step.w ≤ step.h * step.w = mul-le-mul_right step.w down in
      let all : step.w * step.h ≤ table_size donation =
      rw (← ap₂ (λ (a b : ℕ). a * b) w h) at (within script donation (k + 1) most) in record {
        wide = omega (arith, w, wide script donation (k + 1) most);
        tall = omega (arith, h, down, tall script donation (k + 1) most);
        columns = across;
        room = omega (arith, rows, all, size);
      }

  -- ---- what is stale then

  -- a glass that is behind tells words, so it is the own one but for those that are stale
  pub as_but : IsButFor (is_stale stale) (glass_in s.glasses part.sid) own
  as_but = whether_stale stale can.behind
    where
      whether_stale : (some : Option Stale) → IsBehind some part.sid (glass_in s.glasses part.sid) own
          → IsButFor (is_stale some) (glass_in s.glasses part.sid) own
      whether_stale None behind = but_none _ own (words_after script donation k) behind (rw can.own)
      whether_stale (Some a) behind = behind.but

  -- what is stale fits into a glass of the same size
  pub still_fits : (size : ℕ) → own.size ≡ size → IfSome stale (FitsInto size)
  still_fits size same = whether_stale stale can.behind
    where
      whether_stale : (some : Option Stale) → IsBehind some part.sid (glass_in s.glasses part.sid) own
          → IfSome some (FitsInto size)
      whether_stale None behind = tt
      whether_stale (Some a) behind = subst (λ (n : ℕ). FitsInto n a) same behind.fits

  abbrev words_at : ℕ → List ℕ
  words_at n = words_after script donation n

  as_long : length (words_at (k + 1)) ≡ length (words_at k)
  as_long = long script donation (k + 1) can.donation.1 ∙ sym (long script donation k can.donation.1)

  -- a line that sets no word
  pub nothing_drawn : StayElsewhere → (l : Line) → slice_get script k ≡ Some l
      → ((step : Step) (i j : ℕ) → is_set_by l step i j ≡ false)
      → own ≡ glass_after part.sid script donation (k + 1)
  nothing_drawn stay l here none =
      can.own ∙ rw (ext_get_or 0 (words_at k) (words_at (k + 1)) (sym as_long) (λ n inside.
      sym (stay script donation k n l here (none _ _ _))))

  -- what a line sets is stale too
  pub drawn_but : StayElsewhere → (l : Line) (step : Step) (area : BufferArea) (own' : Sight)
      → slice_get script k ≡ Some l → IsStep step l
      → ((i j : ℕ) → is_in_area area i j ≡ is_set_by l step i j)
      → own' ≡ glass_after part.sid script donation (k + 1)
      → IsButFor (λ n. is_stale stale n || is_number_in step.w area n) (glass_in s.glasses part.sid) own'
  drawn_but stay l step area own' here is set now =
      record {
        old = as_but.old;
        now = words_at (k + 1);
        is = cc (as_but.is, can.own, as_long, now);
        told = rw now;
        long = rw (as_long, before, as_but.long);
        same = λ n not.
            let neither = or_parts (is_stale stale n) (is_number_in step.w area n) not in
            let outside : is_set_by l step (n % step.w) (n / step.w) ≡ false =
            sym (set (n % step.w) (n / step.w)) ∙ neither.1 in
            rw (stay script donation k n l here (rw is at outside), before, as_but.same n neither.0);
      }
    where
      before : words_at k ≡ as_but.now
      before = same_Some _ _ (cc (can.own, as_but.told))

-- the session's client may call the scene by this own glass: no glass tells a log, but for that of
-- the session on the scene, and the open journal has room for the call
pub record CanCall (s : SceneModel Sight) (sid : ℕ) (glass : Sight) : Type 0 where
  pub there : HasSession s sid
  pub own : IsGlass s.config sid glass
  pub quiet_own : glass.log ≡ None
  pub quiet : AreQuietBut sid s.glasses
  pub spare : 1 ≤ s.spare
  pub unended : IsOpen s.entries

-- what was drawn in the own glass, and copied to the scene's, leaves room for a call by it
pub can_call : {old mid : SceneModel Sight} {part : ClientPart} {k : ℕ} {stale stale' : Option Stale}
    {was own : Sight} → AreLong → (there : Sight) → CanDraw old part k stale was → HasDrawn old mid part k stale' own
    → mid ≡ with_glass_of old part.sid there → AreQuietBut part.sid old.glasses → 1 ≤ old.spare → IsOpen old.entries
    → CanCall mid part.sid own
can_call {old = old} {part = part} {k = k} long there can drawn is quiet room unended =
    rw is (record {
      there = record {
        session = can.there.session;
        glasses = rw (← length-set old.glasses part.sid there) at can.there.glasses;
      };
      own = (
        rw drawn.own,
        rw drawn.own (long part.script.now (donation_of old.config part.sid) (k + 1) can.donation.1),
      );
      quiet_own = rw drawn.own;
      quiet = λ t other. rw (get_or-set_other old.glasses part.sid t there no_sight other) (quiet t other);
      spare = room;
      unended = unended;
    })

-- ---- what is loaded

-- a call was served by an own glass, and is loaded
pub call_served : {old new : SceneModel Sight} {sid : ℕ} {call : Call} {r : Reply} {own own' : Sight}
    → IsAdded old new (entry.Call sid call r) → CanCall old sid own → IsOpen new.entries → new.glasses ≡ old.glasses
    → own' ≡ own → Some (entry.Call sid call r) ≡ entry_of (state_now old) (ByClient sid (line.Call call))
    → Painted (state_now old) (entry.Call sid call r) (state_now new) (glasses_of_call (itself old.glasses) sid own)
    (glasses_of_call (itself new.glasses) sid own') old.raw new.raw → DoesClientLine sid (line.Call call) old new own'
call_served {old = old} {new = new} {sid = sid} {r = r} {own = own} {own' = own'} added can unended glasses owns same
    painted =
    let all : List Sight = set new.glasses sid own' in
    let inside = can.there.glasses in
    let before : glasses_of_call (itself old.glasses) sid own ≡ glass_in all =
    rw (every_of_call old.glasses sid own inside, ← glasses, ← owns) in
    let later = every_of_call new.glasses sid own' (rw (← glasses) at inside) in
    let spare = one_taken old.entries new.entries _ _ _ added.recorded added.spare can.spare in
    let moved = painted_moved added same all before (rw later at painted) in
    record { config = added.config; unended = unended; spare = spare; recorded = (r, added.recorded); moved = moved }

-- a call after what was drawn in the glass
pub call_done : (sid : ℕ) (call : Call) (old mid new : SceneModel Sight) (there own' : Sight)
    → mid ≡ with_glass_of old sid there → DoesClientLine sid (line.Call call) mid new own'
    → DoesClientLine sid (line.Call call) old new own'
call_done sid call old mid new there own' is does = grind (arith, nat_tests)

-- what the line at a place of a script does, any line found there does
pub as_found : (script : List Line) (k sid : ℕ) (l : Line) (s s' : SceneModel Sight) (own' : Sight)
    → slice_get script k ≡ Some l → DoesClientLine sid l s s' own'
    → (x : Line) → slice_get script k ≡ Some x → DoesClientLine sid x s s' own'
as_found script k sid l s s' own' here does x there = grind (arith, nat_tests, same_Some)

-- ---- a user's line

pub shot_done : (old new : SceneModel Sight)
    → new ≡ record old { entries = old.entries ++ entry.Shot (shots old.entries + 1) ∷ []; spare = old.spare - 1 }
    → IsOpen new.entries → 1 ≤ old.spare → DoesUserLine input.Shot old new
shot_done old new is unended room =
    let spare = one_taken old.entries _ (entry.Shot (shots old.entries + 1)) old.spare _ refl refl room in
    rw is (assumption (rw is at unended, spare, rw is at (shot_moved old new _ _ is)))

-- a call leaves the glasses, so each but that of the session is what it was
pub glasses_still : (sid : ℕ) (old mid new : SceneModel Sight) → new.glasses ≡ mid.glasses
    → mid ≡ with_glass_of old sid (glass_in mid.glasses sid)
    → new.glasses ≡ set old.glasses sid (glass_in new.glasses sid)
glasses_still sid old mid new same is = cc (same, is, same)
