-- What is uncovered when the views of a session are taken away, from the rear one to the front one.
use Rattle.std.specs.Prelude.{◌≡◌, ℕ, ◌≤◌, Bool, true, false, not, ◌&&◌, drop, length}
use Rattle.nit_repaint.specs.Below.{Point, StackModel, is_of_session, list_any, without}
use Rattle.nit_repaint.specs.PixelOwners.{owner_passes}

-- the stack without any view of the session
abbrev pub without_session : ℕ → StackModel → StackModel
without_session sid s = record s { views = without (is_of_session sid) s.views }

-- a view of the session owned the pixel before, and none does now
abbrev pub uncovered : ℕ → StackModel → StackModel → Point → Bool
uncovered sid before now p =
    owner_passes (is_of_session sid) before p && not (owner_passes (is_of_session sid) now p)

-- From place i on no view of the session is left. All other views stand as they stood, and what a
-- view of the session still owns one owned before.
pub record IsRemovedFrom (sid i : ℕ) (before now : StackModel) : Type 0 where
  pub rest : now ≡ record before { views = now.views }
  pub left : without (is_of_session sid) now.views ≡ without (is_of_session sid) before.views
  pub behind : list_any (is_of_session sid) (drop i now.views) ≡ false
  pub within : i ≤ length now.views
  pub fewer : length now.views ≤ length before.views
  pub owned : (p : Point) → owner_passes (is_of_session sid) now p ≡ true
      → owner_passes (is_of_session sid) before p ≡ true
