-- Passes whose threads are to be started.
use Rattle.std.specs.Prelude.{◌≡◌, ◌≤◌, ◌+◌, ℕ, All, List, [], length, map, vec_capacity, vec_len}
use Rattle.nit_actor.specs.Below.{Crew, Unstarted}
use Rattle.nit_actor.specs.declared.crew.Started.{Started}
use Rattle.nit_actor.specs.declared.crew.Started.TheVariants.{There, Here}

-- There is a flag for each of so many passes, and room for all of them where those wait whose
-- threads could not be started. None waits there.
pub record HasPlaceFor {P : Type 0} (count : ℕ) (u : Unstarted P) : Type 0 where
  pub waiting : u.waiting.items ≡ []
  pub flags : count ≤ length u.raised.now
  pub room : count ≤ vec_capacity u.waiting

-- what comes back from the thread, or is still here, has the role of the pass that was to go
abbrev pub IsStarted : {P W F : Type 0} → (P → F) → P → Started P W → Type 0
IsStarted role p (There child) = role child.promise.was.value ≡ role p
IsStarted role p (Here q) = role q ≡ role p

-- There is a flag for each pass of a crew that is to be started, and room for all of them beside
-- those that wait.
pub record HasPlaceToStart {P : Type 0} (c : Crew P) : Type 0 where
  pub flags : vec_len c.passes ≤ length c.unstarted.raised.now
  pub room : vec_len c.passes + vec_len c.unstarted.waiting ≤ vec_capacity c.unstarted.waiting

-- A crew can run beside what is the calling thread's own: each pass of it, also of those that wait,
-- fits by its role; there is place for those that cannot be started; and what is the caller's own
-- is ready.
pub record CrewCanRun {P F U : Type 0} (fits : F → Type 0) (role : P → F) (ready : U → Type 0)
    (c : Crew P) (own : U) : Type 0 where
  pub fit : All (λ p. fits (role p)) c.passes.items
  pub waiting_fit : All (λ p. fits (role p)) c.unstarted.waiting.items
  pub place : HasPlaceToStart c
  pub own_ready : ready own

-- the passes have their roles again, each at its place, and what is the caller's own has kept what
-- it keeps
pub record CrewHasRun {P F U : Type 0} (role : P → F) (kept : U → U → Type 0) (before : List P)
    (own : U) (after' : List P) (own' : U) : Type 0 where
  pub same : map role after' ≡ map role before
  pub own_kept : kept own own'

-- each pass of a crew has its role again at its place, and there is as much room as there was
pub record IsSameCrew {P F : Type 0} (role : P → F) (c c' : Crew P) : Type 0 where
  pub passes : map role c'.passes.items ≡ map role c.passes.items
  pub waiting : map role c'.unstarted.waiting.items ≡ map role c.unstarted.waiting.items
  pub passes_room : vec_capacity c'.passes ≡ vec_capacity c.passes
  pub waiting_room : vec_capacity c'.unstarted.waiting ≡ vec_capacity c.unstarted.waiting
