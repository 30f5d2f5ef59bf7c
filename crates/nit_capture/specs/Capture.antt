-- A capture as contracts see it.
use Rattle.nit_capture.specs.Below.{HasPixels, LiesIn, List, Rectangle, ℕ}
use Rattle.nit_capture.specs.Tiles.{IsPictureSize, IsPicture, black}
use Rattle.nit_capture.specs.Film.{record_of}
use Rattle.nit_capture.specs.Crop.{screen, crop, crop_bytes}

-- the screen's width and height, the rectangle, and the part of the screen inside it in the last
-- picture
pub record CaptureModel : Type 0 where
  pub width : ℕ
  pub height : ℕ
  pub rect : Rectangle
  pub before : List ℕ

-- What holds of every capture: the screen is at most 1024 by 768, the rectangle lies on it and has
-- pixels, and what is known of the last picture is a picture of the rectangle's size.
pub record IsCapture (c : CaptureModel) : Type 0 where
  pub size : IsPictureSize c.width c.height
  pub inside : LiesIn c.rect (screen c.width c.height)
  pub pixels : HasPixels c.rect
  pub picture : IsPicture c.rect.w c.rect.h c.before

-- a capture of these numbers and this last picture
abbrev pub capture_of : ℕ → ℕ → Rectangle → List ℕ → CaptureModel
capture_of width height r before =
    record { width = width; height = height; rect = r; before = before }

-- a capture that has no picture yet
abbrev pub first_capture : ℕ → ℕ → Rectangle → CaptureModel
first_capture width height r = capture_of width height r (black r.w r.h)

-- what a capture takes of a frame of its screen, and of the bytes of a picture of it
abbrev pub cropped : CaptureModel → List ℕ → List ℕ
cropped c frame = crop c.width c.rect frame

abbrev pub cropped_bytes : CaptureModel → List ℕ → List ℕ
cropped_bytes c bytes = crop_bytes c.width c.height c.rect bytes

-- the record of what was taken, after the last picture
abbrev pub next_record : CaptureModel → List ℕ → List ℕ
next_record c now = record_of c.rect.w c.rect.h c.before now

-- the capture whose last picture this is
abbrev pub with_last : CaptureModel → List ℕ → CaptureModel
with_last c now = record c { before = now }
