-- Patches: the part of the screen that a view covers, with the number of the view.
use Rattle.std.specs.Prelude.{Bool, List, None, Option, Some, find, slice_get, slice_index, take, ℕ}
use Rattle.std.specs.Prelude.{◌&&◌, ◌<◌, ◌≡◌, ◌≤◌}
use Rattle.nit_screen.specs.Below.{StackModel, covers, is_between, no_slot, number_of, point}
use Rattle.nit_screen.specs.MapRow.{AreSkips, IsRowOfMap, is_filled}
use Rattle.nit_screen.specs.declared.screen.patches.Patch.{Patch}

-- a patch covers the pixel in this column and row
abbrev pub has : Patch → ℕ → ℕ → Bool
has s x y = is_between s.top s.bottom y && is_between s.left s.right x

-- the number of a patch; that of pixels without an owner where there is none
abbrev pub number_or_none : Option Patch → ℕ
number_or_none None = no_slot
number_or_none (Some s) = s.number

-- the first patch that covers the pixel in this column and row
abbrev pub first_at : List Patch → ℕ → ℕ → Option Patch
first_at patches x y = find (λ s. has s x y) patches

-- the number of a pixel: that of the first patch that covers it
abbrev pub number_in : List Patch → ℕ → ℕ → ℕ
number_in patches x y = number_or_none (first_at patches x y)

-- a patch ends on a screen that is so wide, and has the number of a view
pub record IsPatch (width : ℕ) (s : Patch) : Type 0 where
  pub left : s.left ≤ width
  pub right : s.right ≤ width
  pub number : s.number < no_slot

-- each of these is a patch of such a screen
abbrev pub ArePatches : ℕ → List Patch → Type 0
ArePatches width patches = (i : ℕ) (s : Patch) → slice_get patches i ≡ Some s → IsPatch width s

-- a row has the numbers that the first i patches give in each of the rows from y to before `end`
pub record IsBegun (patches : List Patch) (width y end i : ℕ) (row next : List ℕ) : Type 0 where
  pub count : IsRowOfMap width row next
  pub words : (x z : ℕ) → x < width → y ≤ z → z < end
      → slice_index row x ≡ number_in (take i patches) x z
  pub skips : AreSkips (is_filled row) next

-- the patches give the pixels of the screen the numbers of the first n views of a stack
abbrev pub AreOfViews : StackModel → ℕ → List Patch → Type 0
AreOfViews s n patches =
    (x y : ℕ) → x < s.width → y < s.height
    → number_in patches x y
    ≡ number_of (find (λ a. covers a.view.rect (point x y)) (take n s.views))
