-- What a look shows, and when it is one.
use Rattle.std.specs.Prelude.{◌≡◌, ℕ, ◌<◌, Bool, true, false, length, slice_get, All, Some}
use Rattle.std.specs.Prelude.{option_map, IfSome, IsTrue}
use Rattle.nit_overlay.specs.Below.{Flat, IsLettering, LetteredLook, Look, Mode, Point, SlotView}
use Rattle.nit_overlay.specs.Below.{plain, point, views_of}
use Rattle.nit_overlay.specs.Frame.{Scenery, label_place_of}

-- what frames are made by: the screen, the bar and the views of the stack, what else the look has,
-- and its lettering
abbrev pub scenery : LetteredLook → Scenery
scenery l =
    record {
      width = l.look.stack.now.width;
      height = l.look.stack.now.height;
      bar = l.look.stack.now.bar;
      stack = views_of l.look.stack.now.views;
      labels = l.look.labels.now;
      mode = l.look.mode;
      focus = l.look.focus;
      lettering = l.lettering;
    }

-- a look whose texts are drawn plain: in small glyphs, each dot one pixel
abbrev pub plain_look : Look → LetteredLook
plain_look look = record { look = look; lettering = plain }

-- labels are drawn in all modes but Flat
abbrev pub draws_labels : Mode → Bool
draws_labels Flat = false
draws_labels other = true

-- a column and a row as a pixel
abbrev pub pixel_at : ℕ × ℕ → Point
pixel_at q = point q.0 q.1

-- at the slot of a view stands the place of its label, or that it has none
abbrev pub IsPlaced : LetteredLook → SlotView → Type 0
IsPlaced l s =
    slice_get l.look.places.now s.slot
    ≡ Some (option_map pixel_at (label_place_of (scenery l) s.view))

-- There is a label for each session, and the focus is on a session. Where labels are drawn, each
-- view's label stands where it is to in this lettering, which is one.
pub record IsLook (l : LetteredLook) : Type 0 where
  pub labels : length l.look.labels.now ≡ length l.look.stack.now.sizes
  pub focus : IfSome l.look.focus (λ session. session < length l.look.stack.now.sizes)
  pub places : IsTrue (draws_labels l.look.mode) → All (IsPlaced l) l.look.stack.now.views
  pub lettering : IsLettering l.lettering
