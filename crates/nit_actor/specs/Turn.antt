-- A turn of the actors of one thread: those of the least phase that has a line left go on.
use Rattle.std.specs.Prelude.{◌≡◌, ◌+◌, ◌<◌, ℕ, List, Option, Some, length, slice_index_or}
use Rattle.nit_actor.specs.Below.{UserPassModel}
use Rattle.nit_actor.specs.PhasesLeft.{NoneIsBefore, user_phase_left}

-- In a turn of this phase the one becomes the other: where it is in the phase, and not done, by one
-- step; otherwise it stays as it is.
pub record TakesTurn {X : Type 0} (left : X → Option ℕ) (steps : X → X → Type 0) (phase : ℕ)
    (x x' : X) : Type 0 where
  pub in_phase : left x ≡ Some phase → steps x x'
  pub others : (left x ≡ Some phase → ⊥) → x' ≡ x

-- each of these takes the turn so, at its place
pub record EachTakesTurn {X : Type 0} (left : X → Option ℕ) (steps : X → X → Type 0) (phase : ℕ)
    (before after' : List X) : Type 0 where
  pub count : length after' ≡ length before
  pub each : (k : ℕ) (d : X) → k < length before
      → TakesTurn left steps phase (slice_index_or before k d) (slice_index_or after' k d)

-- the user did its next line
abbrev pub UserSteps : UserPassModel → UserPassModel → Type 0
UserSteps u u' = u'.next ≡ u.next + 1

-- A turn of this phase: each actor takes it, and then the user, when no actor is in a phase before
-- this one.
pub record IsTurn {X : Type 0} (left : X → Option ℕ) (steps : X → X → Type 0) (phase : ℕ)
    (before after' : List X) (u u' : UserPassModel) : Type 0 where
  pub actors : EachTakesTurn left steps phase before after'
  pub none_before : NoneIsBefore left phase after'
  pub user : TakesTurn user_phase_left UserSteps phase u u'
