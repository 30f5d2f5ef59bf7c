-- What painting pixels needs, and what it leaves.
use Rattle.std.specs.Prelude.{◌≡◌, ◌≤◌, ◌*◌, ℕ, Bool, List, length, All}
use Rattle.nit_repaint.specs.Below.{HoldBuffers, IsLook, IsWord, LetteredLook, Painter, PixelSource}
use Rattle.nit_repaint.specs.Below.{Repainted, Sight, StackModel}

-- there is a raw word for each pixel of the screen, and each session has the words of its buffer
pub record CanPaint (s : StackModel) (p : Painter) (sights : ℕ → Sight) : Type 0 where
  pub pixels : length p.raw.items ≡ s.width * s.height
  pub held : HoldBuffers s sights

-- A painter can load what the stack shows by these words: there is room to cut out every view, a
-- raw word for each pixel, and each session has the words of its buffer.
pub record CanRepaint (s : StackModel) (p : Painter) (sights : ℕ → Sight) : Type 0 where
  pub room : length s.views ≤ p.cutter.room
  pub pixels : length p.raw.items ≡ s.width * s.height
  pub held : HoldBuffers s sights

-- no raw word came or went, and the cutter has as much room
pub record KeepsPainter (before now : Painter) : Type 0 where
  pub count : length now.raw.items ≡ length before.raw.items
  pub room : now.cutter.room ≡ before.cutter.room

-- exactly the marked pixels were loaded again by their sources, each once
pub record IsRepaint (source : ℕ → PixelSource) (is_marked : ℕ → Bool) (sights sights' : ℕ → Sight)
    (before now : Painter) : Type 0 where
  pub painted : Repainted source is_marked (length before.raw.items) sights sights'
      before.raw.items now.raw.items
  pub kept : KeepsPainter before now

-- ---- in a frame

-- there is a raw word for each pixel of the look's screen, each below 2^24, and a word of the frame
pub record IsFrameToShow (l : LetteredLook) (raw out : List ℕ) : Type 0 where
  pub look : IsLook l
  pub pixels : length raw ≡ l.look.stack.now.width * l.look.stack.now.height
  pub frame : length out ≡ length raw
  pub words : All IsWord raw

-- all stays but the cutter, which has as much room
pub record IsOnlyCut (before now : Painter) : Type 0 where
  pub room : now.cutter.room ≡ before.cutter.room
  pub raw : now.raw ≡ before.raw
