-- The phases of the actors that are not done, the least of them, and what an actor does next.
use Rattle.std.specs.Prelude.{◌≡◌, ◌==◌, ◌&&◌, ◌≤◌, ◌+◌, ◌++◌, ◌∷◌, [], ℕ, List, Option, Some, None}
use Rattle.std.specs.Prelude.{All, Contains, IfSome, filter_map, if◌then◌else◌, length, min}
use Rattle.nit_actor.specs.Below.{ClipPassModel, Pair, PassModel, UserPassModel}

-- the phase that a client is in, where it is not done: a line of its script is left
abbrev pub phase_left : PassModel → Option ℕ
phase_left p = if p.next == length p.script then None else Some p.phase

-- the phase that a client with a clip script is in, where it is not done: a line of one of the two
-- scripts is left
abbrev pub pair_phase_left : PassModel → ClipPassModel → Option ℕ
pair_phase_left p q =
    if (p.next == length p.script) && (q.next == length q.script) then None else Some p.phase

-- a client with a clip script did what is next: a line of its script; where no line of that is
-- left, all that is left of the clip script
abbrev pub PairSteps : Pair → Pair → Type 0
PairSteps before after' =
    ((before.pass.next ≡ length before.pass.script → ⊥) → after'.pass.next ≡ before.pass.next + 1)
    × (before.pass.next ≡ length before.pass.script
    → (after'.pass.next ≡ length after'.pass.script)
    × (after'.clip.next ≡ length after'.clip.script))

-- the phase that the user is in, where it is not done
abbrev pub user_phase_left : UserPassModel → Option ℕ
user_phase_left u = if u.next == length u.input then None else Some u.phase

-- the phases of those clients that are not done, in order, and last the user's where it is not
-- done; each client's phase is told by `left`
abbrev pub phases_left : {X : Type 0} → (X → Option ℕ) → List X → UserPassModel → List ℕ
phases_left left clients u = filter_map left clients ++ filter_map user_phase_left (u ∷ [])

-- the least of some numbers: one of them, and none of them is less; there is none only where there
-- are no numbers
abbrev pub IsLeastOf : Option ℕ → List ℕ → Type 0
IsLeastOf None numbers = numbers ≡ []
IsLeastOf (Some n) numbers = Contains numbers n × All (λ m. n ≤ m) numbers

-- this one is done, or in no phase before this phase
abbrev pub IsNotBefore : {X : Type 0} → (X → Option ℕ) → ℕ → X → Type 0
IsNotBefore left phase x = IfSome (left x) (λ n. phase ≤ n)

-- no one of these who is not done is in a phase before this one
abbrev pub NoneIsBefore : {X : Type 0} → (X → Option ℕ) → ℕ → List X → Type 0
NoneIsBefore left phase actors = All (λ x. IsNotBefore left phase x) actors

-- the lesser of two numbers, of which each may be missing
abbrev pub lesser : Option ℕ → Option ℕ → Option ℕ
lesser None other = other
lesser (Some n) None = Some n
lesser (Some n) (Some m) = Some (min n m)
