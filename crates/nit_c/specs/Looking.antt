-- A look at the screen, and at the last step.
use Rattle.std.specs.Prelude.{◌≡◌, ◌≢◌, ◌*◌, ◌≤◌, ◌<◌, ◌-◌, ◌^◌, ◌++◌, ◌⊎◌, ℕ, pos, List, length}
use Rattle.std.specs.Prelude.{drop, Option, Some, None, IfSome}
use Rattle.nit_c.specs.Below.{AgreeIn, CoversChange, HostModel, IsAsSeen, IsTouched, LiesOn}
use Rattle.nit_c.specs.Below.{NitRect, Rectangle, ShowsLabels, forgotten, frame_shown, looked}
use Rattle.nit_c.specs.Below.{rectangle, scenery_of}
use Rattle.nit_host.specs.Host.{last_text}
use Rattle.nit_c.specs.declared.handle.NitServer.{NitServer}
use Rattle.nit_c.specs.Steps.{Steps}

-- an answer that is its kind alone
abbrev pub only_rect : ℕ → NitRect
only_rect kind = record { kind = kind; x = 0; y = 0; w = 0; h = 0 }

-- a rectangle of the screen, or none, as C reads it
abbrev pub IsRect : Option Rectangle → NitRect → Type 0
IsRect None answer = answer ≡ only_rect 1
IsRect (Some r) answer =
    (answer.kind ≡ 1) × (r ≡ rectangle (pos answer.x) (pos answer.y) answer.w answer.h)

-- the least rectangle of the screen that covers each pixel at which the words were others before
pub record IsChange (width height : ℕ) (now before : List ℕ) (r : Rectangle) : Type 0 where
  pub screen : LiesOn width height r
  pub inside : CoversChange width now before r
  pub least : IsTouched width now before r

-- where the words were others before, their rectangle, and none where they were the same
abbrev pub IsLookPart : ℕ → ℕ → List ℕ → List ℕ → Option Rectangle → Type 0
IsLookPart width height now before (Some r) = IsChange width height now before r
IsLookPart width height now before None = before ≡ now

-- The answer is the least rectangle that has all places at which the words became others, or says
-- that there is none; in it they are those of the frame that the screen shows. Where they were as
-- the last look left them, or no look was yet, they are the frame everywhere.
pub record ShowsFrame (h : HostModel) (before now : List ℕ) (answer : NitRect) : Type 0 where
  pub changed : Option Rectangle
  pub look : IsLookPart h.state.config.width h.state.config.height now before changed
  pub told : IsRect changed answer
  pub inside : IfSome changed (AgreeIn h.state.config.width now (frame_shown h))
  pub shown : IsAsSeen h before → now ≡ frame_shown h
  pub labels : IsAsSeen h before → ShowsLabels (scenery_of h.state) now

-- A look at a host, as it is seen: where there are as many words as the screen has pixels the host
-- has been looked at, and else it is a refusal.
pub record IsLookAt (seen h g : HostModel) (before now : List ℕ) (answer : NitRect) : Type 0 where
  pub copied : length before ≡ h.state.config.width * h.state.config.height
      → ShowsFrame seen before now answer × (g ≡ looked h)
  pub refused : length before ≢ h.state.config.width * h.state.config.height
      → (now ≡ before) × (answer ≡ only_rect 39) × (g ≡ h)

-- a look at the host as it is
abbrev pub IsLooked : HostModel → HostModel → List ℕ → List ℕ → NitRect → Type 0
IsLooked h g before now answer = IsLookAt h h g before now answer

-- a look by words that may be any: at the host as if it had forgotten what it showed
abbrev pub IsLookedAnew : HostModel → HostModel → List ℕ → List ℕ → NitRect → Type 0
IsLookedAnew h g before now answer = IsLookAt (forgotten h) h g before now answer

-- a look by a handle, and one by words that may be any
abbrev pub IsLookedBy : NitServer → NitServer → List ℕ → List ℕ → NitRect → Type 0
IsLookedBy old new before now answer =
    Steps old new ((now ≡ before) × (answer ≡ only_rect 0))
    (λ h g. IsLooked h g before now answer)

abbrev pub IsLookedAnewBy : NitServer → NitServer → List ℕ → List ℕ → NitRect → Type 0
IsLookedAnewBy old new before now answer =
    Steps old new ((now ≡ before) × (answer ≡ only_rect 0))
    (λ h g. IsLookedAnew h g before now answer)

-- ---- the last step

-- the answer where memory ran out
abbrev pub no_room : ℕ
no_room = 2 ^ 64 - 1

-- the answer is how long the text is, and the bytes begin with it where it fits there
pub record IsLine (text before now : List ℕ) (answer : ℕ) : Type 0 where
  pub count : answer ≡ length text
  pub put : length text ≤ length before → now ≡ text ++ drop (length text) before
  pub idle : length before < length text → now ≡ before

-- the text is put so, unless memory ran out, which puts nothing
abbrev pub IsLineOrNone : List ℕ → List ℕ → List ℕ → ℕ → Type 0
IsLineOrNone text before now answer =
    ((now ≡ before) × (answer ≡ no_room)) ⊎ IsLine text before now answer

-- the line of the last step, by a handle
abbrev pub IsEntry : NitServer → NitServer → List ℕ → List ℕ → ℕ → Type 0
IsEntry old new before now answer =
    Steps old new ((now ≡ before) × (answer ≡ 0))
    (λ h g. (g ≡ h) × IsLineOrNone (last_text h.last) before now answer)
