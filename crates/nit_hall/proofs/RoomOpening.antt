-- A room, its passes and canvases before the first line.
use Rattle.nit_hall.proofs.Basics.{AreAgreed, AreBegun, AreBlank, AreListedGlasses, AreNear, AreSplitOff}
use Rattle.nit_hall.proofs.Basics.{AreWatching, BookModel, ClipLine, ClipModel, ClipPassModel}
use Rattle.nit_hall.proofs.Basics.{Configuration, End, Entry, Follows, FollowsClips, HaveInks}
use Rattle.nit_hall.proofs.Basics.{InputLine, IsFirstPass, IsLegalClips, IsNonDecreasingBy-short}
use Rattle.nit_hall.proofs.Basics.{IsRoom, Line, Member, OpeningParts, PassModel, RoomModel, Sight}
use Rattle.nit_hall.proofs.Basics.{bare_everywhere, bare_word, buffers_of, cases_eq, clip_script_in}
use Rattle.nit_hall.proofs.Basics.{common_steps, donation_of, entries_in, first_pass}
use Rattle.nit_hall.proofs.Basics.{get_or-replicate, get_or_default, get_or_from_slice_get, gets}
use Rattle.nit_hall.proofs.Basics.{glass_in, length-map, length-replicate, lines_of_clips}
use Rattle.nit_hall.proofs.Basics.{map-append, map-set_same, nat_tests, new_sight, raws_in}
use Rattle.nit_hall.proofs.Basics.{same_Some, script_in, slice_get_within, stretch, stretch_end}
use Rattle.nit_hall.proofs.Basics.{sum_by-replicate, watching_sight, with_clip_scripts}
use Rattle.std.proofs.Common.{List, Some, [], ap, arith, drop, drop_at, get_or, inl, inr, length}
use Rattle.std.proofs.Common.{length-append, length-set, map, refl, replicate, set, slice_get}
use Rattle.std.proofs.Common.{slice_index, sym, take, take_all, take_at, ℕ, ⊎_elim, ◌*◌, ◌++◌, ◌+◌}
use Rattle.std.proofs.Common.{◌<◌, ◌∙◌, ◌∷◌, ◌≡◌, ◌≢◌, ◌≤◌, ◌⊎◌}
use Rattle.nit_hall.proofs.NearLemmas.{all_inks, end_with, set_there, sight_at}
use Rattle.nit_hall.proofs.PassCounts.{parts_long}
use Rattle.nit_hall.proofs.LineLemmas.{item_there, take_line}

-- all counts are 0
pub zero_count : (n k : ℕ) → slice_index (replicate n 0) k ≡ 0
zero_count n k = grind (arith, common_steps)

pub near_begun : (config : Configuration) (scripts : List (List Line)) (input : List InputLine)
    → AreNear config scripts input [] (replicate (config.width * config.height) bare_word)
near_begun config scripts input k inside = grind (arith, nat_tests, bare_everywhere, get_or-replicate)

pub follows_begun : (scripts : List (List Line)) (input : List InputLine)
    → Follows scripts input (replicate (length scripts + 1) 0) 0 []
follows_begun scripts input = grind (arith, nat_tests, zero_count, length-replicate, IsNonDecreasingBy-short)

-- what the law of the list without clip calls says
abbrev pub NoClips : Type 0
NoClips = (config : Configuration) (journal : List Entry) → IsLegalClips config journal []

-- no clip call was served
pub clips_begun : NoClips → (parts : OpeningParts) (entries : List Entry)
    → FollowsClips parts (replicate (length parts.clips) 0) entries
    (record { entries = []; spare = lines_of_clips parts.clips })
clips_begun none parts entries = grind (arith, nat_tests, zero_count, length-replicate, sum_by-replicate)

-- ---- passes one after the other

pub get_push : {A : Type 0} (xs : List A) (k : ℕ) (x y : A) → slice_get (xs ++ y ∷ []) k ≡ Some x
    → (slice_get xs k ≡ Some x) ⊎ ((k ≡ length xs) × (y ≡ x))
get_push xs k x y e = grind (arith, common_steps, gets)

pub get_seam : {A : Type 0} (xs ys : List A) (y : A) (k : ℕ) → k ≡ length xs → slice_get ((xs ++ y ∷ []) ++ ys) k
    ≡ Some y
get_seam xs ys y k e = grind (arith, common_steps, gets)

-- what holds of each element, and of the one after them, holds of each then
pub each_more : {A : Type 0} (P : ℕ → A → Type 0) (xs ys : List A) (k : ℕ) (x : A) → ys ≡ xs ++ x ∷ [] → length xs ≡ k
    → P k x → ((j : ℕ) (y : A) → slice_get xs j ≡ Some y → P j y) → (j : ℕ) (y : A) → slice_get ys j ≡ Some y → P j y
each_more P xs ys k x pushed long here all j y e = grind (arith, nat_tests, get_push)

-- the donation of the client of this number, in the configuration's clients
pub donation_at : (config : Configuration) (clients : List Member) (k : ℕ) (m : Member) → clients ≡ config.clients
    → k < length clients → (get_or clients k m).donation ≡ donation_of config k
donation_at config clients k m is inside = grind (arith, nat_tests, get_or_default)

-- ---- the readers' ends

module _ {config : Configuration} {scripts : List (List Line)} {canvases lenses : List End}
    (b : AreBlank config scripts canvases) (are : AreSplitOff config scripts canvases lenses) where
  lens_at : (t : ℕ) → t < length config.clients → glass_in (map (λ (e : End). e.sight) lenses) t
      ≡ watching_sight (stretch (script_in scripts t) (donation_of config t) 0)
      (new_sight t (script_in scripts t) (donation_of config t))
  lens_at t h =
      let (canvas, at) = item_there canvases t (omega (arith, b.canvas_each, h)) in
      let (lens, here) = item_there lenses t (omega (arith, b.canvas_each, are.each, h)) in
      rw (sight_at lenses t lens here, are.sights t canvas lens at here, b.blank t canvas at)

  pub lens_glasses : AreListedGlasses (λ (e : End). e.sight) config lenses
  lens_glasses = record { each = are.each ∙ b.canvas_each; tables = λ t h. rw (lens_at t h) (refl, refl) }

  pub lens_inks : length scripts ≡ length config.clients → HaveInks config scripts lenses
  lens_inks sessions = all_inks config scripts (map (λ (e : End). e.sight) lenses)
      (length-map lenses (λ (e : End). e.sight) ∙ are.each ∙ b.canvas_each ∙ sym sessions)
      (λ t h. rw (lens_at t (omega (arith, sessions, h))))

  -- the readers' ends know the first stretch
  pub lenses_watch : length scripts ≡ length config.clients → AreWatching scripts config [] (λ t. 0) lenses
  lenses_watch sessions t inside = record {
    since = 0;
    until = stretch_end (script_in scripts t) 0;
    stages_are = ap (λ (g : Sight). g.stages) (lens_at t (omega (arith, sessions, inside)));
    strokes = omega arith;
    made_before = refl;
    in_phase = refl;
  }

-- a canvas that was blank and agrees on the first stretch
pub begun_canvases : (config : Configuration) (scripts : List (List Line)) (before after' : List End)
    → AreBlank config scripts before → AreAgreed config scripts before after' → AreBegun config scripts after'
begun_canvases config scripts before after' b are = record {
  canvas_each = are.each ∙ b.canvas_each;
  begun = λ k c at.
      let (was, there) = item_there before k (omega (arith, are.each, slice_get_within after' k c at)) in
      rw (are.agreed k was c there at, b.blank k was there);
}

-- ---- clip passes

-- the clip pass of this number, with a new share of this book
abbrev pub new_clip_pass : BookModel → List (List ClipLine) → ℕ → ClipPassModel
new_clip_pass book scripts k =
    record {
      sid = k;
      next = 0;
      phase = 0;
      number = length book.counts + k;
      name = book.name;
      script =
          clip_script_in scripts k;
      seen = entries_in book.entries;
    }

pub room_with_clips : NoClips → (r : RoomModel) (scripts : List (List ClipLine)) → IsRoom r
    → IsRoom (with_clip_scripts r scripts)
room_with_clips none r scripts room = assumption (clips_begun none (record r.parts { clips = scripts }) r.scene.entries)

-- a room without clip scripts has no counts but those of its clients and of its user
pub counts_long : {r r₀ : RoomModel} (counts : List ℕ) → r ≡ r₀ → IsRoom r → r₀.parts.clips ≡ []
    → r.counts ≡ take (length r.parts.scripts + 1) counts → r.clip_counts ≡ drop (length r.parts.scripts + 1) counts
    → length counts ≡ length r.parts.scripts + 1
counts_long counts er room none front back = grind (arith, nat_tests, parts_long)

-- the room with clip scripts, part by part
pub opened_clips : (r r₀ : RoomModel) (book book' : BookModel) (list : ClipModel) (scripts : List (List ClipLine))
    → r ≡ r₀ → r.scene.config ≡ r.parts.config → book.name ≡ r.parts.name
    → length book.counts ≡ length r.parts.scripts + 1 → r.counts ≡ take (length r.parts.scripts + 1) book.counts
    → raws_in book.entries ≡ r.raws → book' ≡ record book { counts = book.counts ++ replicate (length scripts) 0 }
    → list ≡ record { entries = []; spare = lines_of_clips scripts }
    → ◌≡◌ {A = RoomModel} (record r {
      parts = record r.parts { name = book'.name; config = r.scene.config; clips = scripts };
      counts = take (length r.parts.scripts + 1) book'.counts;
      clips = list;
      clip_counts = drop (length r.parts.scripts + 1) book'.counts;
      raws = raws_in book'.entries;
    }) (with_clip_scripts r₀ scripts)
opened_clips r r₀ book book' list scripts er config name long are raws_are is list_is =
    let n = length r.parts.scripts + 1 in
    let behind : List ℕ = replicate (length scripts) 0 in
    let front : take n (book.counts ++ behind) ≡ r.counts =
    rw (take_at book.counts behind n long, are, take_all n book.counts (omega (arith, long))) in
    rw (is, ← er, ← config, name, front, list_is, drop_at book.counts behind n long, raws_are)

-- ---- canvases that agree, one after the other

-- the first stretch of the client of this number
abbrev First : Configuration → List (List Line) → ℕ → List (List ℕ)
First config scripts k = stretch (script_in scripts k) (donation_of config k) 0

-- the first k canvases agree with their readers' ends, and the others are as they were
pub record AgreeSoFar (config : Configuration) (scripts : List (List Line)) (k : ℕ) (before now lenses : List End)
    : Type 0 where
  pub counted : length lenses ≡ k
  pub long : length now ≡ length before
  pub same : buffers_of now ≡ buffers_of before
  pub agreed : (j : ℕ) (c c' : End) → j < k → slice_get before j ≡ Some c → slice_get now j ≡ Some c'
      → c' ≡ end_with (First config scripts j) c
  pub left : (j : ℕ) (c : End) → k ≤ j → slice_get now j ≡ Some c → slice_get before j ≡ Some c
  pub sights : (j : ℕ) (c e : End) → slice_get before j ≡ Some c → slice_get lenses j ≡ Some e
      → e.sight ≡ watching_sight (First config scripts j) c.sight
  pub buffers : buffers_of lenses ≡ buffers_of (take k before)

pub none_agree : (config : Configuration) (scripts : List (List Line)) (before : List End)
    → AgreeSoFar config scripts 0 before before []
none_agree config scripts before = grind (arith, nat_tests)

set_beside : (ends : List End) (k : ℕ) (x : End) (j : ℕ) → j ≢ k → slice_get (set ends k x) j ≡ slice_get ends j
set_beside ends k x j ne = grind (arith, common_steps, gets)

pub one_agrees : (config : Configuration) (scripts : List (List Line)) (k : ℕ) (before now lenses : List End)
    (c c' e : End) → AgreeSoFar config scripts k before now lenses → slice_get now k ≡ Some c
    → c' ≡ end_with (First config scripts k) c → e.sight ≡ watching_sight (First config scripts k) c.sight
    → e.stand.buffer ≡ c.stand.buffer
    → AgreeSoFar config scripts (k + 1) before (set now k c') (lenses ++ e ∷ [])
one_agrees config scripts k before now lenses c c' e so at is sight buffer =
    let was : slice_get before k ≡ Some c = so.left k c (omega arith) at in
    record {
      counted = omega (arith, so.counted, length-append lenses (e ∷ []));
      long = length-set now k c' ∙ so.long;
      same = map-set_same (λ (x : End). x.stand.buffer) now k c' c (rw (is, get_or_from_slice_get now k c c at))
          ∙ so.same;
      agreed = λ j x x' below at_before at_now. elim (cases_eq j k) [
        | inl same ↦
            let here : c ≡ x = same_Some c x (rw (← was, ← same) at_before) in
            let there : c' ≡ x' = same_Some c' x' (rw (same, set_there now k c c' at) at at_now) in
            rw (← there, is, here, same)
        | inr ne ↦ so.agreed j x x' (omega (arith, below, ne)) at_before (rw (set_beside now k c' j ne) at at_now)
      ];
      left = λ j x above at_now.
          let ne : j ≢ k = λ same. absurd (omega (arith, above, same)) in
          so.left j x (omega (arith, above)) (rw (set_beside now k c' j ne) at at_now);
      sights = λ j x y at_before at_lens. ⊎_elim
          (so.sights j x y at_before)
          (λ (t : (j ≡ length lenses) × (e ≡ y)).
          let same : j ≡ k = t.0 ∙ so.counted in
          let here : c ≡ x = same_Some c x (rw (← was, ← same) at_before) in
          rw (← t.1, sight, here, same))
          (get_push lenses j y e at_lens);
      buffers = rw (map-append, so.buffers, buffer, take_line before k c was, map-append);
    }

-- when all have agreed
pub all_agree : (config : Configuration) (scripts : List (List Line)) (k : ℕ) (before now lenses : List End)
    → length before ≤ k → AgreeSoFar config scripts k before now lenses → AreAgreed config scripts before now
all_agree config scripts k before now lenses all so = grind (arith, nat_tests, slice_get_within)

-- the pass of a canvas that has agreed is the one of the canvas before that
pub first_before : (parts : OpeningParts) (before after' : List End) (k : ℕ) (p : PassModel)
    → AreAgreed parts.config parts.scripts before after' → IsFirstPass parts after' k p → IsFirstPass parts before k p
first_before parts before after' k p are first =
    let (canvas, at) = item_there before k (omega (arith, are.each, slice_get_within after' k first.0 first.1)) in
    (canvas, at, rw first.2 (ap (first_pass parts k) (are.agreed k canvas first.0 at first.1)))
