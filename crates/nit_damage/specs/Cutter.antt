-- What a cutter keeps, and which pixels are still to come by it.
use Rattle.std.specs.Prelude.{◌≡◌, ℕ, ◌+◌, ◌-◌, ◌*◌, ◌^◌, ◌≤◌, ◌<◌, ◌==◌, Bool, true, false, pos}
use Rattle.std.specs.Prelude.{List, [], ◌∷◌, length, map, drop, take, sum_by, slice_index_or}
use Rattle.std.specs.Prelude.{Option, Some, None, IfSome, IsTrue, if◌then◌else◌}
use Rattle.nit_damage.specs.Below.{HasPixels, IsOnScreen, Job, LiesIn, Piece, Point, Rectangle}
use Rattle.nit_damage.specs.Below.{StackModel, covers, has_slot, option_map, rectangle, seat_owner}
use Rattle.nit_damage.specs.Below.{times, view_ref}
use Rattle.nit_damage.specs.Damage.{once, covered}

-- The rectangles that are still to be cut; the first place in the stack whose view has pieces;
-- whether the bar is still to come; and for how many views there is room.
pub record CutterModel : Type 0 where
  pub jobs : List Job
  pub from : ℕ
  pub bar : Bool
  pub room : ℕ

-- a rectangle whose next view is at this place
abbrev pub job_at : ℕ → Rectangle → Job
job_at at r = record { rect = r; at = at }

-- the rectangle, where it has pixels
abbrev pub with_pixels : Rectangle → List Rectangle
with_pixels r = if r.w * r.h == 0 then [] else r ∷ []

-- the cutter has this rectangle alone, where it has pixels; no view is cut out of it yet
abbrev pub begun_cutter : ℕ → Rectangle → ℕ → CutterModel
begun_cutter from r room =
    record { jobs = map (job_at 0) (with_pixels r); from = from; bar = false; room = room }

-- the pixels of the bar
abbrev pub bar_part : StackModel → Rectangle
bar_part s = rectangle (pos 0) (pos 0) s.width s.bar

-- the pixels of the screen below the bar
abbrev pub part_below_bar : StackModel → Rectangle
part_below_bar s = rectangle (pos 0) (pos s.bar) s.width (s.height - s.bar)

-- How often the pixel is to come by a rectangle: where a view that is still to be cut out and has
-- no pieces covers it, it does not come.
abbrev pub job_to_come : ℕ → StackModel → Point → Job → ℕ
job_to_come from s p j = if covered (drop j.at (take from s.views)) p then 0 else times j.rect p

abbrev pub jobs_to_come : ℕ → StackModel → List Job → Point → ℕ
jobs_to_come from s jobs p = sum_by (job_to_come from s p) jobs

-- how often the pixel is still to come
abbrev pub to_come : CutterModel → StackModel → Point → ℕ
to_come c s p = (if c.bar then times (bar_part s) p else 0) + jobs_to_come c.from s c.jobs p

-- how often a piece has the pixel
abbrev pub piece_times : Option Piece → Point → ℕ
piece_times None p = 0
piece_times (Some piece) p = times piece.rect p

-- The rectangle at place k has pixels and lies on the screen below the bar, and no view in front of
-- its next one covers a pixel of it. It is low enough in its list that what is left of it finds
-- room.
pub record IsJob (s : StackModel) (k : ℕ) (j : Job) : Type 0 where
  pub pixels : HasPixels j.rect
  pub place : j.at ≤ length s.views
  pub low : k ≤ 3 * j.at + 4
  pub below_bar : LiesIn j.rect (part_below_bar s)
  pub free : (p : Point) → IsTrue (covers j.rect p) → covered (take j.at s.views) p ≡ false

abbrev pub FitsJobs : StackModel → List Job → Type 0
FitsJobs s jobs = (k : ℕ) (d : Job) → k < length jobs → IsJob s k (slice_index_or jobs k d)

-- The cutter has room for the views of the stack, each of its rectangles is cut as far as it says,
-- the bar is to come only where it has rows, and no pixel is to come twice.
pub record FitsStack (c : CutterModel) (s : StackModel) : Type 0 where
  pub room : length s.views ≤ c.room
  pub jobs : FitsJobs s c.jobs
  pub bar : c.bar ≡ true → 0 < s.bar
  pub once : (p : Point) → to_come c s p ≤ 1

-- the piece has pixels, each of them lies on the screen and has the piece's owner, and the owner is
-- in the stack
pub record IsPieceOf (s : StackModel) (piece : Piece) : Type 0 where
  pub pixels : HasPixels piece.rect
  pub on_screen : (p : Point) → IsTrue (covers piece.rect p) → IsOnScreen s.width s.height p
  pub owner : (p : Point) → IsTrue (covers piece.rect p)
      → piece.owner ≡ option_map view_ref (seat_owner s.bar s.views p)
  pub stands : IfSome piece.owner (λ v. has_slot v.0 s.views ≡ true)

-- at least as many as the pieces that a rectangle, or some of them, still gives
abbrev pub weight_of : ℕ → Job → ℕ
weight_of views j = 5 ^ (views + 1 - j.at)

abbrev pub weight : ℕ → List Job → ℕ
weight views jobs = sum_by (weight_of views) jobs

-- at least as many as the pieces that are still to come
abbrev pub pieces_left : CutterModel → StackModel → ℕ
pieces_left c s = once c.bar + weight (length s.views) c.jobs
