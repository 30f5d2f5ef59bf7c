-- A turn of the actors of one thread, one after the other, and the phase of an actor that did a line.
use Rattle.nit_actor.proofs.Basics.{Bool, ClipPassModel, IsOneOn, List, None, Option, PairIsOneOn}
use Rattle.nit_actor.proofs.Basics.{PassModel, Some, arith, cond, false, inl, inr, length}
use Rattle.nit_actor.proofs.Basics.{pair_phase_left, phase_left, set, slice_index_or, ◌∙◌}
use Rattle.nit_actor.proofs.Roles.{fits_pair, pair_role_again}
use Rattle.nit_actor.specs.Terms.{IsNotBefore, TakesTurn}
use Rattle.std.proofs.Common.{IfSome, true, ℕ, ◌+◌, ◌<◌, ◌≡◌, ◌≤◌}
use Rattle.std.proofs.lemmas.Bool.{cases_eq}
use Rattle.std.proofs.lemmas.List.{get_or-set_other, get_or-set_same, get_or_default, length-set}

-- ---- one actor after the other

-- the first i of these have taken the turn, and the others are as they were
pub record IsUnderWay {X : Type 0} (left : X → Option ℕ) (steps : X → X → Type 0) (phase i : ℕ) (xs ys : List X)
    : Type 0 where
  pub count : length ys ≡ length xs
  pub taken : (k : ℕ) (d : X) → k < length xs → k < i
      → TakesTurn left steps phase (slice_index_or xs k d) (slice_index_or ys k d)
  pub rest : (k : ℕ) (d : X) → k < length xs → i ≤ k → slice_index_or ys k d ≡ slice_index_or xs k d

module _ {X : Type 0} (left : X → Option ℕ) (steps : X → X → Type 0) (phase : ℕ) where
  pub one_taken : (i : ℕ) (xs ys : List X) (y e : X) → i < length ys → IsUnderWay left steps phase i xs ys
      → TakesTurn left steps phase (slice_index_or ys i e) y → IsUnderWay left steps phase (i + 1) xs (set ys i y)
  one_taken i xs ys y e here way takes =
      let at : (d : X) → TakesTurn left steps phase (slice_index_or xs i d) (slice_index_or (set ys i y) i d) = λ d.
      rw (
        get_or-set_same ys i y d here,
        ← way.rest i d (omega (arith, here, way.count)) (omega arith),
        get_or_default ys i d e here,
      ) takes in
      record {
        count = length-set ys i y ∙ way.count;
        taken = λ k d inside before. elim (cases_eq k i) [
          | inl is ↦ rw is (at d)
          | inr other ↦ rw (get_or-set_other ys i k y d other) (way.taken k d inside (omega (arith, before, other)))
        ];
        rest = λ k d inside after'. rw (get_or-set_other ys i k y d (λ is. absurd (omega (arith, after', is))))
            (way.rest k d inside (omega (arith, after')));
      }

-- ---- the phase that is left

later_left : (b c : Bool) (n m : ℕ) → n ≤ m
    → IfSome (cond {A = Option ℕ} b None (Some n)) (λ k. IfSome (cond {A = Option ℕ} c None (Some m)) (λ l. k ≤ l))
later_left true c n m later = tt
later_left false true n m later = tt
later_left false false n m later = later

-- a client that did a line is in no phase before the one that it was in
pub no_earlier : (p p' : PassModel) → IsOneOn p p' → IfSome (phase_left p) (λ n. IsNotBefore phase_left n p')
no_earlier p p' on = later_left _ _ p.phase p'.phase on.later

pub pair_no_earlier : (p p' : PassModel) (q q' : ClipPassModel) → PairIsOneOn p q p' q'
    → IfSome (pair_phase_left p q) (λ n. IfSome (pair_phase_left p' q') (λ m. n ≤ m))
pair_no_earlier p p' q q' on = later_left _ _ p.phase p'.phase on.pass.later

-- what a step of a pair keeps
pub ruleset pair_stays = (fits_pair, pair_role_again, pair_no_earlier)
