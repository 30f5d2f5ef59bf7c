-- Which pixels of the screen are to be drawn again. A stack of views is a list, front first.
use Rattle.std.specs.Prelude.{ℕ, Bool, false, not, ◌&&◌, ◌||◌, List, take, Option, Some, None}
use Rattle.std.specs.Prelude.{if◌then◌else◌}
use Rattle.nit_damage.specs.Below.{Point, Rectangle, SlotView, StackModel, ViewRef, covers, in_bar}
use Rattle.nit_damage.specs.Below.{is_slot, list_any, option_map_or, place_of, seat_owner}
use Rattle.nit_damage.specs.Below.{slot_view_in}

-- 1 where it holds, and 0 elsewhere
abbrev pub once : Bool → ℕ
once b = if b then 1 else 0

-- the view covers the pixel
abbrev pub slot_view_covers : Point → SlotView → Bool
slot_view_covers p s = covers s.view.rect p

-- some of these views covers the pixel
abbrev pub covered : List SlotView → Point → Bool
covered views p = list_any (slot_view_covers p) views

-- the view in this slot covers the pixel
abbrev pub covered_by : ℕ → List SlotView → Point → Bool
covered_by k views p = option_map_or (slot_view_covers p) (slot_view_in k views) false

-- the views in front of this one; all views, where none is given
abbrev pub in_front_of : Option ViewRef → List SlotView → List SlotView
in_front_of (Some v) views = take (place_of v.0 views) views
in_front_of None views = views

-- the pixel lies in the rectangle, and this view owns it
abbrev pub is_owned : ViewRef → StackModel → Rectangle → Point → Bool
is_owned v s r p =
    covers r p && option_map_or (is_slot v.0) (seat_owner s.bar s.views p) false

-- the pixel is below the bar, lies in the rectangle, and none of the first so many views covers it
abbrev pub is_behind : ℕ → StackModel → Rectangle → Point → Bool
is_behind place s r p = not (in_bar s.bar p) && covers r p && not (covered (take place s.views) p)

-- the pixel is below the bar, lies in the rectangle, and no view in front of this one covers it
abbrev pub is_of_gone : Option ViewRef → StackModel → Rectangle → Point → Bool
is_of_gone at s r p = not (in_bar s.bar p) && covers r p && not (covered (in_front_of at s.views) p)

-- the pixel is below the bar, the view's rectangle or its old one covers it, and no view in front
-- of it does
abbrev pub is_of_moved : ViewRef → StackModel → Rectangle → Point → Bool
is_of_moved v s old p =
    not (in_bar s.bar p) && (covered_by v.0 s.views p || covers old p)
    && not (covered (in_front_of (Some v) s.views) p)
