-- Passes that are done, and the last picture.
use Rattle.nit_hall.proofs.Basics.{AllServed, AreDone, AreListedGlasses, Bare, Black, Configuration, End}
use Rattle.nit_hall.proofs.Basics.{Entry, EntryLaws, HasMet, IsAdded, IsDonePass, IsKnownPass}
use Rattle.nit_hall.proofs.Basics.{IsOpen, IsRoom, IsWordOfSource, Line, Painted, Painting}
use Rattle.nit_hall.proofs.Basics.{PassModel, PassRest, PixelSource, RoomModel, SceneModel, Sight}
use Rattle.nit_hall.proofs.Basics.{State, Word, blank, calls_of-append, common_steps}
use Rattle.nit_hall.proofs.Basics.{donation_of, frame, get_or-map-range_with_len}
use Rattle.nit_hall.proofs.Basics.{get_or_from_slice_get, get_or_past, gets, glass_in, knowing}
use Rattle.nit_hall.proofs.Basics.{left_word, length-map, map-map, map_over_more, nat_tests, no_ink}
use Rattle.nit_hall.proofs.Basics.{no_sight, painted_from, pixel_count, rest_of, same_frame}
use Rattle.nit_hall.proofs.Basics.{scenery_of, script_in, slice_get-map, slice_get_within}
use Rattle.nit_hall.proofs.Basics.{source_at, state_now, without_final, words_after, words_left}
use Rattle.nit_hall.proofs.Basics.{words_left_in, zero_at}
use Rattle.std.proofs.Common.{List, Some, [], ap, append-nil, arith, drop, get_or, inr, length}
use Rattle.std.proofs.Common.{map, refl, set, slice_get, slice_index, sym, take, take_all, zero-add}
use Rattle.std.proofs.Common.{ℕ, ◌++◌, ◌+◌, ◌<◌, ◌∙◌, ◌∷◌, ◌≡◌, ◌≤◌}
use Rattle.nit_events.specs.declared.entry.Entry.TheVariants as entry
use Rattle.nit_hall.proofs.NearLemmas.{AreInks, ShowsThen, all_inks, told_shows}
use Rattle.nit_hall.proofs.NearLemmas.{told_word}
use Rattle.nit_hall.proofs.LineLemmas.{item_there}
use Rattle.nit_hall.proofs.EntryLemmas.{not_open, open_whole, without-append}
use Rattle.nit_hall.proofs.RoomSteps.{inks_before, near_then, room_grown, room_then}
use Rattle.nit_hall.proofs.ServedCalls.{calls_made}

-- ---- a list that is changed in place

long_same : {X : Type 0} (f : X → X) (xs ys : List X) (i : ℕ) → ys ≡ map f (take i xs) ++ drop i xs
    → length ys ≡ length xs
long_same f xs ys i is = grind (arith, common_steps)

-- what holds of each element that the change has come to holds of all when it has come to the end
pub holds_all : {X : Type 0} (P : ℕ → X → Type 0) (f : X → X) (xs ys : List X) (i : ℕ)
    → ys ≡ map f (take i xs) ++ drop i xs → length ys ≤ i
    → ((k : ℕ) (x : X) → k < i → slice_get xs k ≡ Some x → P k x) → (k : ℕ) (x : X) → slice_get xs k ≡ Some x → P k x
holds_all P f xs ys i is over below k x at = grind (arith, nat_tests, long_same, slice_get_within)

pub still_there : {X : Type 0} (f : X → X) (xs ys : List X) (i : ℕ) (x : X) → i < length ys
    → ys ≡ map f (take i xs) ++ drop i xs → x ≡ get_or ys i x → (i < length xs) × (slice_get xs i ≡ Some x)
still_there f xs ys i x inside is at =
    let long = long_same f xs ys i is in
    let same : get_or ys i x ≡ get_or xs i x = grind (arith, common_steps) in
    (omega (arith, long, inside), grind (arith, common_steps, gets))

-- ---- a pass is met

pub met_now : {r r' : RoomModel} {p p' : PassModel} (k : ℕ) → IsDonePass r.parts k p → HasMet r p r' p'
    → IsKnownPass r k p
met_now {r = r} k is met =
    record {
      front = met.before;
      counted = rw (← is.number) met.counted;
      glass = (met.owner ∙ is.number, rw (is.belongs.donation, is.number) at met.painted.size);
      inked = met.inked;
      told = met.told;
    }

-- what holds of each element below a place, and of the one there, holds below the next place
pub holds_below : {X : Type 0} (P : ℕ → X → Type 0) (i : ℕ) (xs : List X) (x : X)
    → ((k : ℕ) (y : X) → k < i → slice_get xs k ≡ Some y → P k y) → slice_get xs i ≡ Some x → P i x
    → (k : ℕ) (y : X) → k < i + 1 → slice_get xs k ≡ Some y → P k y
holds_below P i xs x below at here k y h e = grind arith

-- ---- all are

-- the passes are done, and the room knows them
pub record AreKnown (r : RoomModel) (ps : List PassModel) : Type 0 where
  pub done_all : AreDone r.parts ps
  pub met : (k : ℕ) (p : PassModel) → slice_get ps k ≡ Some p → IsKnownPass r k p

-- the pass of a client, and the glass of that number
record IsThereDone (r : RoomModel) (ps : List PassModel) (t : ℕ) : Type 0 where
  p : PassModel
  is : IsDonePass r.parts t p
  known : IsKnownPass r t p
  script : script_in r.parts.scripts t ≡ p.script
  donation : p.donation ≡ donation_of r.parts.config t
  sight : glass_in (map (λ (q : PassModel). q.sight) ps) t ≡ p.sight

pass_there : {r : RoomModel} {ps : List PassModel} (t : ℕ) → AreKnown r ps → t < length r.parts.scripts
    → IsThereDone r ps t
pass_there {r = r} {ps = ps} t are h =
    let (p, at) = item_there ps t (omega (arith, are.done_all.each, h)) in
    let is = are.done_all.done_all t p at in
    record {
      p = p;
      is = is;
      known = are.met t p at;
      script = get_or_from_slice_get r.parts.scripts t p.script [] (rw is.number at is.belongs.script);
      donation = rw is.number at is.belongs.donation;
      sight = get_or_from_slice_get (map (λ (x : PassModel). x.sight) ps) t p.sight no_sight (rw (slice_get-map, at));
    }

pub all_served : {r : RoomModel} {ps : List PassModel} → AreKnown r ps
    → slice_index r.counts (length r.parts.scripts) ≡ length r.parts.input
    → AllServed r.parts.scripts r.parts.input r.counts
all_served are user = (
  (λ t h.
      let there = pass_there t are h in
      let whole = take_all there.p.next there.p.script (omega (arith, there.is.ended)) in
      rw (there.known.counted, whole, there.script)),
  user,
)

-- ---- the last picture

-- what the law of lines says of a whole script
abbrev pub WholeScript : Type 0
WholeScript = (p : Painting) (script : List Line) (k : ℕ) → length script ≤ k
    → painted_from p (take k script) ≡ painted_from p script

-- the glass of a pass that is done tells what its whole script leaves
pub tells_left : WholeScript → {r : RoomModel} {ps : List PassModel} → AreKnown r ps
    → (t : ℕ) → t < length r.parts.scripts → (glass_in (map (λ (p : PassModel). p.sight) ps) t).words
    ≡ Some (words_left (script_in r.parts.scripts t) (donation_of r.parts.config t))
tells_left all {r = r} are t h =
    let there = pass_there t are h in
    let p = there.p in
    let whole : words_after p.script p.donation p.next ≡ words_left p.script p.donation =
    ap (λ (x : Painting). x.words) (all (blank p.donation) p.script p.next (omega (arith, there.is.ended))) in
    rw (there.sight, there.script, ← there.donation, ← whole) there.known.told

held_left : (config : Configuration) (scripts : List (List Line)) (glasses : List Sight) (source : PixelSource) (w : ℕ)
    → length glasses ≡ length scripts
    → ((t : ℕ) → t < length scripts
    → (glass_in glasses t).words ≡ Some (words_left (script_in scripts t) (donation_of config t)))
    → IsWordOfSource (glass_in glasses) source w → w ≡ left_word config scripts source
held_left config scripts glasses Bare w each tell held = held
held_left config scripts glasses Black w each tell held = held
held_left config scripts glasses (Word t i) w each tell held =
    grind (arith, nat_tests, told_word, get_or_past, zero_at, no_ink)

-- the last picture shows what the scripts leave
pub last_frame : (config : Configuration) (scripts : List (List Line)) {s s' : State} (glasses : List Sight)
    {glasses' : ℕ → Sight} {raw raw' : List ℕ} → s' ≡ s → length glasses ≡ length scripts
    → ((t : ℕ) → t < length scripts
    → (glass_in glasses t).words ≡ Some (words_left (script_in scripts t) (donation_of config t)))
    → Painted s entry.Final s' (glass_in glasses) glasses' raw raw'
    → frame (scenery_of s) raw' ≡ frame (scenery_of s) (words_left_in config scripts s)
last_frame config scripts {s = s} glasses {raw' = raw'} same each tell painted =
    same_frame (scenery_of s) raw' (words_left_in config scripts s)
    (λ k on_screen. held_left config scripts glasses (source_at s k) (slice_index raw' k) each tell
    ((rw same at painted).marked k on_screen refl).0
    ∙ sym (get_or-map-range_with_len (λ (n : ℕ). left_word config scripts (source_at s n)) 0 (pixel_count s) k k 0
    on_screen (zero-add k)))

-- ---- one pass after the other

pub step_far : {X : Type 0} (f : X → X) (xs ys : List X) (i : ℕ) (p q : X) → i < length xs
    → ys ≡ map f (take i xs) ++ drop i xs → p ≡ get_or ys i p → q ≡ f (get_or ys i p)
    → set ys i q ≡ map f (take (i + 1) xs) ++ drop (i + 1) xs
step_far f xs ys i p q inside so_far at eq = grind (arith, nat_tests, map_over_more)

-- ---- the room after the last picture

inks_of : {r : RoomModel} {ps : List PassModel} → AreKnown r ps
    → AreInks r.parts.config r.parts.scripts (glass_in (map (λ (q : PassModel). q.sight) ps))
inks_of {r = r} {ps = ps} are = all_inks r.parts.config r.parts.scripts (map (λ (q : PassModel). q.sight) ps)
    (length-map ps (λ (q : PassModel). q.sight) ∙ are.done_all.each)
    (λ t h. let there = pass_there t are h in rw (there.sight, there.script, ← there.donation) there.known.inked)

-- what the scene promises of the last picture
pub record IsEnded (old new : SceneModel End) (glasses : List Sight) (glasses' : ℕ → Sight) : Type 0 where
  pub added : IsAdded old new entry.Final
  pub same : new.glasses ≡ old.glasses
  pub painted : Painted (state_now old) entry.Final (state_now new) (glass_in glasses) glasses' old.raw new.raw

-- the last picture does not stand in the book
pub booked_still : (old new : SceneModel End) → new.entries ≡ old.entries ++ entry.Final ∷ []
    → without_final old.entries ≡ without_final new.entries
booked_still old new recorded = rw (recorded, without-append, append-nil)

-- what the passes show in the last picture was left by all their lines
ends_show : EntryLaws → {r : RoomModel} {new : SceneModel End} {ps : List PassModel} → IsRoom r
    → IsOpen r.scene.entries → AreKnown r ps → IsAdded r.scene new entry.Final
    → ShowsThen r.scene.config r.parts.scripts r.phase r.scene.entries entry.Final
    (glass_in (map (λ (q : PassModel). q.sight) ps))
ends_show laws {r = r} {ps = ps} room o are added t inside i w loaded =
    let there = pass_there t are inside in
    let p = there.p in
    let made = rw (open_whole r.scene.entries o)
    at (calls_made r t p.next p.script room (rw there.is.number at there.is.belongs.script) there.known.counted) in
    let paid = there.donation ∙ ap (λ (c : Configuration). donation_of c t) (sym room.config) in
    told_shows r.scene.config r.parts.scripts r.phase (r.scene.entries ++ entry.Final ∷ []) t p.next _
    (rw (there.sight, there.script, ← paid) there.known.told)
    (record {
      calls = rw (there.script, calls_of-append, append-nil, made);
      phases = λ still. absurd (not_open r.scene.entries still);
    }) i w loaded

pub room_ended : EntryLaws → {r : RoomModel} {new : SceneModel End} {ps : List PassModel} {glasses' : ℕ → Sight}
    → IsRoom r → IsOpen r.scene.entries → AreKnown r ps → AllServed r.parts.scripts r.parts.input r.counts
    → IsEnded r.scene new (map (λ (q : PassModel). q.sight) ps) glasses'
    → IsRoom (room_then r new r.raws r.counts r.phase r.arrived)
room_ended laws {r = r} {new = new} room o are all ended =
    let same = booked_still r.scene new ended.added.recorded in
    room_grown laws room o ended.added r.raws r.counts
    (record {
      history = rw (← same, room.config) room.history;
      ends = λ still. absurd (not_open r.scene.entries (rw ended.added.recorded at still));
    })
    (near_then laws room o ended.added (λ still. absurd (not_open r.scene.entries still))
    (ends_show laws room o are ended.added) (λ t call rep same. absurd cc) ended.painted)
    (rw ended.same (inks_before laws room o ended.added)) (rw (ended.same, room.config, ← same) room.watching)
    (rw (ended.same, room.config, ← same) room.waiting) (rw (← same) room.follows) refl (inr all)

-- the sights are those of before they met
pub same_sights : (known : List Entry) (ps₀ : List PassModel) {ps : List PassModel} → ps ≡ map (knowing known) ps₀
    → map (λ (p : PassModel). p.sight) ps ≡ map (λ (p : PassModel). p.sight) ps₀
same_sights known ps₀ is = rw is (map-map (λ (p : PassModel). p.sight) (knowing known) ps₀)

pub glasses_settled : {r : RoomModel} {ps₀ : List PassModel} (ps : List PassModel) → AreKnown r ps₀
    → map (λ (p : PassModel). p.sight) ps ≡ map (λ (p : PassModel). p.sight) ps₀
    → length r.parts.scripts ≡ length r.parts.config.clients
    → AreListedGlasses (λ (p : PassModel). p.sight) r.parts.config ps
glasses_settled {r = r} {ps₀ = ps₀} ps are same sessions = record {
  each = grind (arith, nat_tests, length-map);
  tables = λ t h.
      let there = pass_there t are (omega (arith, h, sessions)) in rw (same, there.sight) there.known.glass;
}

-- the left side of an equation
abbrev pub left_of : {X : Type 0} {x y : X} → x ≡ y → X
left_of {x = x} e = x

-- ---- what is kept of the passes

abbrev pub pass_rest : PassModel → PassRest
pass_rest p = record { pass = rest_of p }

pub rests_again : (ps qs : List PassModel) → map pass_rest ps ≡ map pass_rest qs → map rest_of ps ≡ map rest_of qs
rests_again ps qs e = rw (map-map, map-map) at (ap (map (λ (r : PassRest). r.pass)) e)
