-- The owner of a pixel, as a row is painted by it.
use Rattle.std.specs.Prelude.{◌≡◌, ℕ, ◌<◌, length, true, false, IsTrue, Option, Some, option_map}
use Rattle.nit_overlay.specs.Below.{LetteredLook, Owner, Point, View, ViewRef, owner, point}
use Rattle.nit_overlay.specs.Below.{seat_owner, slot_view_in, view_ref, views_of}
use Rattle.nit_overlay.specs.Frame.{label_place_of}
use Rattle.nit_overlay.specs.Marks.{in_label}
use Rattle.nit_overlay.specs.Look.{draws_labels, pixel_at, scenery}

-- its session has a label, and where labels are drawn it has the place of its label
pub record IsOwner (l : LetteredLook) (o : Owner) : Type 0 where
  pub session : o.view.sid < length l.look.labels.now
  pub place : IsTrue (draws_labels l.look.mode)
      → o.place ≡ option_map pixel_at (label_place_of (scenery l) o.view)

-- the pixel has this owner, or none
abbrev pub HasOwner : LetteredLook → Point → Option Owner → Type 0
HasOwner l p o =
    owner l.look.stack.now.bar (views_of l.look.stack.now.views) p ≡ option_map (λ a. a.view) o

-- the view in this slot owns the pixel, or none does
abbrev pub HasSlot : LetteredLook → Point → Option ViewRef → Type 0
HasSlot l p slot =
    slot ≡ option_map view_ref (seat_owner l.look.stack.now.bar l.look.stack.now.views p)

-- the view stands in this slot
abbrev pub StandsIn : LetteredLook → ViewRef → View → Type 0
StandsIn l v view =
    slot_view_in v.0 l.look.stack.now.views ≡ Some (record { slot = v.0; view = view })

-- where labels are drawn, no pixel of the row y in front of the column `to` lies in the label of
-- the view in this slot
abbrev pub IsClear : LetteredLook → ViewRef → ℕ → ℕ → Type 0
IsClear l v y to =
    draws_labels l.look.mode ≡ true → (view : View) → StandsIn l v view
    → (x : ℕ) → x < to → in_label (scenery l) view (point x y) ≡ false
