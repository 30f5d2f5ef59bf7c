-- What stands on the screen, and what is held, as C reads it.
use Rattle.std.specs.Prelude.{◌≡◌, ℕ, pos, nat_lt, List, [], length, slice_get, Option, Some, None}
use Rattle.std.specs.Prelude.{if◌then◌else◌}
use Rattle.nit_c.specs.Below.{HostModel, NitViewState, View, member, owner_on, owner_shown}
use Rattle.nit_c.specs.Looking.{IsLine}
use Rattle.nit_c.specs.Numbers.{number_or_none}
use Rattle.nit_c.specs.declared.handle.NitServer.{NitServer}
use Rattle.nit_c.specs.Steps.{Steps}

-- ---- views

-- an answer that is its kind alone
abbrev pub no_view : ℕ → NitViewState
no_view kind = record {
  kind = kind;
  seat = 0;
  view = 0;
  x = pos 0;
  y = pos 0;
  w = 0;
  h = 0;
  offset_x = pos 0;
  offset_y = pos 0;
}

-- a view
abbrev pub c_view : View → NitViewState
c_view v = record {
  kind = 1;
  seat = v.sid;
  view = v.handle;
  x = v.rect.x;
  y = v.rect.y;
  w = v.rect.w;
  h = v.rect.h;
  offset_x = v.ox;
  offset_y = v.oy;
}

-- a view, or that there is none
abbrev pub c_view_of : Option View → NitViewState
c_view_of None = no_view 5
c_view_of (Some v) = c_view v

-- a view of the server is read, by a handle
abbrev pub IsViewRead : (HostModel → Option View) → NitServer → NitServer → NitViewState → Type 0
IsViewRead view old new answer =
    Steps old new (answer ≡ no_view 0) (λ h g. (g ≡ h) × (answer ≡ c_view_of (view h)))

-- the view at a place from the front, the one that owns a pixel, and the one that owned it as the
-- last look had it
abbrev pub IsViewAt : NitServer → NitServer → ℕ → NitViewState → Type 0
IsViewAt old new place answer = IsViewRead (λ h. slice_get h.state.stack place) old new answer

abbrev pub IsOwnerOf : NitServer → NitServer → ℕ → ℕ → NitViewState → Type 0
IsOwnerOf old new x y answer = IsViewRead (λ h. owner_on h.state x y) old new answer

abbrev pub IsShownAt : NitServer → NitServer → ℕ → ℕ → NitViewState → Type 0
IsShownAt old new x y answer = IsViewRead (λ h. owner_shown h x y) old new answer

-- ---- texts

-- the title of a view, and no text where there is none
abbrev pub title_of : Option View → List ℕ
title_of None = []
title_of (Some v) = v.title

-- the title of the view at a place from the front
abbrev pub view_title : HostModel → ℕ → List ℕ
view_title h place = title_of (slice_get h.state.stack place)

-- the label of a seat, and no text where there is no such seat
abbrev pub label_at : HostModel → ℕ → List ℕ
label_at h seat =
    if nat_lt seat (length h.state.sessions) then (member h.state.config seat).label else []

-- a text of the server is put, by a handle
abbrev pub IsTextRead : (HostModel → List ℕ) → NitServer → NitServer → List ℕ → List ℕ → ℕ → Type 0
IsTextRead text old new before now answer =
    Steps old new ((now ≡ before) × (answer ≡ 0))
    (λ h g. (g ≡ h) × IsLine (text h) before now answer)

-- a title, and a label
abbrev pub IsTitleOf : NitServer → NitServer → ℕ → List ℕ → List ℕ → ℕ → Type 0
IsTitleOf old new place before now answer =
    IsTextRead (λ h. view_title h place) old new before now answer

abbrev pub IsLabelOf : NitServer → NitServer → ℕ → List ℕ → List ℕ → ℕ → Type 0
IsLabelOf old new seat before now answer =
    IsTextRead (λ h. label_at h seat) old new before now answer

-- ---- codes

-- the code at a place among those that are held, by a handle
abbrev pub IsHeldBy : NitServer → NitServer → ℕ → ℕ → Type 0
IsHeldBy old new place answer =
    Steps old new (answer ≡ number_or_none None)
    (λ h g. (g ≡ h) × (answer ≡ number_or_none (slice_get h.state.input.held place)))
