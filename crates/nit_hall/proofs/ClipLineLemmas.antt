-- Clip scripts and clip lists, line by line and beside a journal, and calls up to the end of a phase.
use Rattle.nit_hall.proofs.Basics.{AllByRecursion, AreInPhases, Call, ClipCall, ClipEntry, ClipLine}
use Rattle.nit_hall.proofs.Basics.{ClipModel, Configuration, End, Entry, FollowsClips, IsLegalClips}
use Rattle.nit_hall.proofs.Basics.{IsNonDecreasing, IsRoom, IsThere, Line, OpeningParts, RoomModel}
use Rattle.nit_hall.proofs.Basics.{SceneModel, UserAction, before_final, buffers_of, calls_from}
use Rattle.nit_hall.proofs.Basics.{calls_in, calls_up_to, clip_calls_in, clip_calls_of}
use Rattle.nit_hall.proofs.Basics.{clip_script_in, clips_to_do, clips_to_make, common_steps}
use Rattle.nit_hall.proofs.Basics.{get_or-map, is_phase, nat_tests, phases_before}
use Rattle.nit_hall.proofs.Basics.{recursion_from_All, sum_by-cons}
use Rattle.std.proofs.Common.{List, Some, [], ap, arith, eq-eqb, inl, inr, length, map, ne_eqb}
use Rattle.std.proofs.Common.{refl, slice_get, suc, take, zero, ℕ, ◌++◌, ◌+◌, ◌<◌, ◌∙◌, ◌∷◌, ◌≡◌}
use Rattle.std.proofs.Common.{◌≢◌, ◌≤◌, ◌⊎◌}
use Rattle.nit_script.specs.declared.line.Line.TheVariants as line
use Rattle.nit_clip.specs.declared.line.ClipLine.TheVariants as clips
use Rattle.nit_hall.proofs.LineLemmas.{count_cons, each_below}

-- ---- clip scripts

-- the clip calls among the first lines are the first clip calls
pub clips_front : (lines : List ClipLine) (k : ℕ) → take (length (clip_calls_in (take k lines))) (clip_calls_in lines)
    ≡ clip_calls_in (take k lines)
clips_front lines zero = refl
clips_front [] (suc k) = refl
clips_front (clips.Call c ∷ lines) (suc k) = rw (clips_front lines k)
clips_front (clips.Phase ∷ lines) (suc k) = clips_front lines k

pub clips_short : (lines : List ClipLine) → length (clip_calls_in lines) ≤ length lines
clips_short [] = omega arith
clips_short (clips.Call c ∷ lines) = omega (arith, clips_short lines)
clips_short (clips.Phase ∷ lines) = omega (arith, clips_short lines)

pub made_by : (scripts : List (List ClipLine)) (t : ℕ) → clips_to_do (map clips_to_make scripts) t
    ≡ clips_to_make (clip_script_in scripts t)
made_by scripts t = get_or-map clips_to_make scripts t []

-- ---- clip lists

pub own_clip : (s : ℕ) (es : List ClipEntry) (e : ClipEntry) → e.sid ≡ s
    → clip_calls_of s (es ++ e ∷ []) ≡ clip_calls_of s es ++ e.call ∷ []
own_clip s [] e own = rw (eq-eqb e.sid s own)
own_clip s (x ∷ es) e own = grind (arith, own_clip s es e own)

pub other_clip : (s : ℕ) (es : List ClipEntry) (e : ClipEntry) → e.sid ≢ s
    → clip_calls_of s (es ++ e ∷ []) ≡ clip_calls_of s es
other_clip s [] e other = rw (ne_eqb e.sid s other)
other_clip s (x ∷ es) e other = rw (other_clip s es e other)

-- ---- the calls up to the end of a phase

later : (p q : ℕ) (script : List Line) → p < q → calls_up_to p (calls_from q script) ≡ []
later p q [] h = refl
later p q (line.Call c ∷ script) h = grind (arith, nat_tests, later p q script h)
later p q (line.Stroke s ∷ script) h = later p q script h
later p q (line.Phase ∷ script) h = later p (suc q) script (omega arith)

behind : (script : List Line) (k : ℕ) → (slice_get script k ≡ Some line.Phase) ⊎ (suc k ≡ suc (length script))
    → (slice_get script k ≡ Some line.Phase) ⊎ (k ≡ length script)
behind script k (inl e) = inl e
behind script k (inr e) = inr (omega (arith, e))

-- where the lines so far end at the end of a phase, their calls are those of all phases so far
pub calls_of_phases : (script : List Line) (p k : ℕ) → (slice_get script k ≡ Some line.Phase) ⊎ (k ≡ length script)
    → length (calls_up_to (p + phases_before script k) (calls_from p script)) ≡ length (calls_in (take k script))
calls_of_phases [] p zero at = refl
calls_of_phases [] p (suc k) at = refl
calls_of_phases (line.Phase ∷ script) p zero at = ap length (later (p + 0) (suc p) script (omega arith))
calls_of_phases (other ∷ script) p zero at = grind arith
calls_of_phases (line.Call c ∷ script) p (suc k) at =
    grind (arith, nat_tests, sum_by-cons, calls_of_phases script p k (behind script k at))
calls_of_phases (line.Stroke s ∷ script) p (suc k) at =
    grind (arith, sum_by-cons, calls_of_phases script p k (behind script k at))
calls_of_phases (line.Phase ∷ script) p (suc k) at =
    let n : p + phases_before (line.Phase ∷ script) (suc k) ≡ suc p + phases_before script k =
    omega (arith, count_cons is_phase line.Phase (take k script)) in
    rw n (calls_of_phases script (suc p) k (behind script k at))

-- ---- phases so far

-- of numbers that never fall each is at most the last
pub all_up_to : (xs : List ℕ) (p k : ℕ) → IsNonDecreasing (xs ++ p ∷ []) → AllByRecursion (λ x. x ≤ p) (take k xs)
all_up_to xs p k old =
    recursion_from_All (λ x. x ≤ p) (take k xs) (λ i d h. grind (arith, common_steps, each_below xs p old i d))

-- ---- a clip list beside a journal that grows

-- what the laws of clip lists say of one more entry
pub record ListLaws : Type 0 where
  pub legal : (config : Configuration) (journal : List Entry) (e : Entry) (clips : List ClipEntry)
      → IsLegalClips config journal clips → IsLegalClips config (journal ++ e ∷ []) clips
  pub placed : (clients : List (List (ℕ × Call))) (user : List (ℕ × UserAction)) (journal : List Entry) (e : Entry)
      (scripts : List (List (ℕ × ClipCall))) (clips : List ClipEntry)
      → AllByRecursion (λ c. c.at ≤ before_final journal) clips → AreInPhases clients user journal scripts clips
      → AreInPhases clients user (journal ++ e ∷ []) scripts clips

all_within : (config : Configuration) (journal : List Entry) (clips : List ClipEntry)
    → AllByRecursion (IsThere config journal) clips
    → AllByRecursion (λ (c : ClipEntry). c.at ≤ before_final journal) clips
all_within config journal [] there = tt
all_within config journal (c ∷ clips) there = (there.0.within, all_within config journal clips there.1)

-- one more entry leaves a clip list that follows its clip scripts
abbrev pub ClipsStay : Type 0
ClipsStay = (parts : OpeningParts) (counts : List ℕ) (entries : List Entry) (e : Entry) (clips : ClipModel)
    → FollowsClips parts counts entries clips → FollowsClips parts counts (entries ++ e ∷ []) clips

pub follow_on : ListLaws → ClipsStay
follow_on laws parts counts entries e clips f = grind (arith, nat_tests, all_within)

-- the parts of a room with the configuration and the buffers of this scene
abbrev pub parts_with : RoomModel → SceneModel End → OpeningParts
parts_with r scene = record r.parts { config = scene.config; buffers = buffers_of scene.glasses }

pub clips_then : ClipsStay → (r : RoomModel) (new : SceneModel End) (e : Entry) → IsRoom r → new.config ≡ r.scene.config
    → new.entries ≡ r.scene.entries ++ e ∷ [] → FollowsClips (parts_with r new) r.clip_counts new.entries r.clips
clips_then stay r new e room config recorded =
    rw recorded (stay (parts_with r new) r.clip_counts r.scene.entries e r.clips
    (rw (config ∙ room.config) (assumption room.clips_follow)))
