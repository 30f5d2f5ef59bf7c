-- One cut.
use Rattle.std.specs.Prelude.{All, ◌≡◌, ℕ, ◌+◌, ◌≤◌, ◌<◌, ◌&&◌, List, ◌++◌, length, map, sum_by}
use Rattle.std.specs.Prelude.{Option, IfSome, MatchOption, pos, ◌-◌}
use Rattle.nit_damage.specs.Below.{CoversBoth, Edges, HasPixels, IsApart, Job, Piece, Point}
use Rattle.nit_damage.specs.Below.{Rectangle, StackModel, covers, rectangle, times}
use Rattle.nit_damage.specs.Damage.{once}
use Rattle.nit_damage.specs.Cutter.{FitsJobs, IsJob, IsPieceOf, job_at, job_to_come, jobs_to_come}
use Rattle.nit_damage.specs.Cutter.{piece_times, weight, weight_of}

-- How often rectangles have the pixel, together.
abbrev pub times_all : List Rectangle → Point → ℕ
times_all rs p = sum_by (λ r. times r p) rs

-- the rectangle of these edges
abbrev pub rectangle_of : Edges → Rectangle
rectangle_of e = rectangle (pos e.left) (pos e.top) (e.right - e.left) (e.bottom - e.top)

-- A rectangle is cut by another: at most four are put in as its rest, none of them without pixels.
-- They have each of its pixels once that the other does not cover. The part that both cover is told
-- where it has pixels.
pub record IsCut (at : ℕ) (rect by : Rectangle) (old new : List Job)
    (both : Option Rectangle) : Type 0 where
  pub rest : List Rectangle
  pub few : length rest ≤ 4
  pub some : All HasPixels rest
  pub jobs : new ≡ old ++ map (job_at at) rest
  pub pixels : (p : Point) → times rect p ≡ times_all rest p + once (covers rect p && covers by p)
  pub part : MatchOption both (IsApart rect by) (λ r. HasPixels r × CoversBoth rect by r)

-- A rectangle was taken out of the list, and its next view cut out of it: what is left fits the
-- stack, each pixel that was to come is still to come or comes by the piece, and less is left to be
-- cut.
pub record IsCutStep (from : ℕ) (s : StackModel) (j : Job) (old new : List Job)
    (result : Option Piece) : Type 0 where
  pub fits : FitsJobs s new
  pub count : (p : Point)
      → jobs_to_come from s old p + job_to_come from s p j
      ≡ jobs_to_come from s new p + piece_times result p
  pub piece : IfSome result (IsPieceOf s)
  pub fewer : weight (length s.views) new
      < weight (length s.views) old + weight_of (length s.views) j

-- The second rectangle with its next view may take the place of the first: it fits where the first
-- did, comes as often, and what it may still give is no more. So it is where views are passed over
-- that have no pixel in common with the rectangle.
pub record IsSkip (s : StackModel) (j j' : Job) : Type 0 where
  pub fits : (k : ℕ) → IsJob s k j → IsJob s k j'
  pub count : (from : ℕ) (p : Point) → job_to_come from s p j ≡ job_to_come from s p j'
  pub no_more : weight_of (length s.views) j' ≤ weight_of (length s.views) j
