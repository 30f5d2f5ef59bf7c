-- The sights of all sessions, by the session's number.
use Rattle.std.specs.Prelude.{ℕ, ◌==◌, List, [], None, slice_index_or, if◌then◌else◌}
use Rattle.nit_word.specs.Below.{enumerate_from}
use Rattle.nit_word.specs.Inks.{Colours}
use Rattle.nit_word.specs.Sight.{Sight}

-- the sight where there is no glass
abbrev pub no_sight : Sight
no_sight = record { owner = 0; size = 0; ink = Colours []; stages = None; words = None; log = None }

-- the sights of glasses in the order of their sessions
abbrev pub glass_in : List Sight → ℕ → Sight
glass_in sights t = slice_index_or sights t no_sight

-- the sights of all sessions, with this one for one of them
abbrev pub with_glass : (ℕ → Sight) → ℕ → Sight → ℕ → Sight
with_glass sights sid own t = if t == sid then own else sights t

-- what is loaded of each session where a row of one session's places is, from the place `from` on
abbrev pub loads_in_row : ℕ → ℕ → List ℕ → ℕ → List (ℕ × ℕ)
loads_in_row sid from row t = if t == sid then enumerate_from from row else []

-- What stays of a list of glasses that is lent, besides the sights: the reference, and what stays
-- of each glass.
pub record LentRest (R : Type 0) : Type 0 where
  pub name : ℕ
  pub each : List R

-- What stays of a session's own words beside those of all others, besides the sights: the two
-- references, the session, the sight that the others have of it, and what stays of both.
pub record BesideRest (O C : Type 0) : Type 0 where
  pub others_name : ℕ
  pub own_name : ℕ
  pub sid : ℕ
  pub idle : Sight
  pub others : O
  pub own : C
