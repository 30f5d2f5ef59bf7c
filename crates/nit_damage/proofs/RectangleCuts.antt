-- One cut of a rectangle by another.
use Rattle.nit_damage.proofs.Basics.{All-append, CoversBoth, FitsJobs, HasPixels, IsApart, IsCut}
use Rattle.nit_damage.proofs.Basics.{IsDivided, IsJob, Job, LiesIn, None, Point, Rectangle}
use Rattle.nit_damage.proofs.Basics.{SlotView, Some, StackModel, Strips, ViewRef, and_parts, ap}
use Rattle.nit_damage.proofs.Basics.{arith, covered, covers, covers_none, get_or-le-sum_by}
use Rattle.nit_damage.proofs.Basics.{get_or-map, ints, job_at, job_to_come, jobs_to_come, length}
use Rattle.nit_damage.proofs.Basics.{length-map, map-append, no_pixels, once, option_map, slice_get}
use Rattle.nit_damage.proofs.Basics.{slice_get_within, slot_at, sum_by-append, sym, times}
use Rattle.nit_damage.proofs.Basics.{times_all, view_ref, weight, weight_of, with_pixels, within}
use Rattle.nit_damage.proofs.Basics.{◌∙◌}
use Rattle.std.proofs.Common.{List, Option, append_assoc, cond, drop, false, length-append, map}
use Rattle.std.proofs.Common.{take, true, ℕ, ◌&&◌, ◌*◌, ◌++◌, ◌+◌, ◌<◌, ◌≡◌, ◌≤◌}
use Rattle.nit_damage.proofs.Jobs.{all_have_pixels, at_most_one, cut_in_front, fits_append, lighter}
use Rattle.nit_damage.proofs.Jobs.{rest_to_come, rest_weighs, same_times}
use Rattle.nit_damage.proofs.Views.{covered_less, covered_more, covered_none}

-- what both cover lies in the first
pub both_lie : (a b both : Rectangle) → CoversBoth a b both → LiesIn both a
both_lie a b both is p here = (and_parts (covers a p) (covers b p) (sym (is p) ∙ here)).0

-- a rectangle with pixels in another: that one has some too
pub wider : (a b : Rectangle) → HasPixels a → LiesIn a b → HasPixels b
wider a b some lie = let edges = within a b some lie in (omega (arith, ints, some.0), omega (arith, ints, some.1))

is_apart : (a b both : Rectangle) → CoversBoth a b both → both.w * both.h ≡ 0 → IsApart a b
is_apart a b both is none p = sym (is p) ∙ covers_none both p (no_pixels both none)

-- a cut where there is nothing to cut out
pub uncut : (at : ℕ) (rect by both : Rectangle) (old new : List Job) → CoversBoth rect by both → both.w * both.h ≡ 0
    → new ≡ old ++ map (job_at at) (with_pixels rect) → IsCut at rect by old new None
uncut at rect by both old new is none pushed = record {
  rest = with_pixels rect;
  few = omega (arith, at_most_one rect);
  some = all_have_pixels rect;
  jobs = pushed;
  pixels = λ p. omega (arith, same_times rect p, ap once (is_apart rect by both is none p));
  part = is_apart rect by both is none;
}

-- a cut that leaves four strips
pub cut_in_four : (at : ℕ) (rect by both : Rectangle) (s : Strips) (old new : List Job) → CoversBoth rect by both
    → HasPixels both → IsDivided rect both s
    → new ≡ (((old ++ map (job_at at) (with_pixels s.bottom)) ++ map (job_at at) (with_pixels s.right))
    ++ map (job_at at) (with_pixels s.left)) ++ map (job_at at) (with_pixels s.top)
    → IsCut at rect by old new (Some both)
cut_in_four at rect by both s old new is some divided pushed = record {
  rest = ((with_pixels s.bottom ++ with_pixels s.right) ++ with_pixels s.left) ++ with_pixels s.top;
  few = simp length-append
      (omega (arith, at_most_one s.bottom, at_most_one s.right, at_most_one s.left, at_most_one s.top));
  some = All-append HasPixels _ _ (All-append HasPixels _ _
      (All-append HasPixels _ _ (all_have_pixels s.bottom) (all_have_pixels s.right)) (all_have_pixels s.left))
      (all_have_pixels s.top);
  jobs = pushed ∙ simp (map-append, append_assoc);
  pixels = λ p. simp (sum_by-append, same_times) (omega (arith, divided p, ap once (is p)));
  part = (some, is);
}

-- a list with the rest of a cut fits the stack, where each rectangle of the rest does
pub rest_fits : (s : StackModel) (at : ℕ) (rect by : Rectangle) (old new : List Job) (both : Option Rectangle)
    → IsCut at rect by old new both → FitsJobs s old
    → ((k : ℕ) (r : Rectangle) → k ≤ 3 → HasPixels r
    → ((p : Point) → covers r p ≡ true → (covers rect p ≡ true) × (covers by p ≡ false))
    → IsJob s (length old + k) (job_at at r))
    → FitsJobs s new
rest_fits s at rect by old new both cut fits fit =
    rw cut.jobs (fits_append s old (map (job_at at) cut.rest) fits (λ k d below.
    let few = cut.few in
    let within : k < length cut.rest = omega (arith, length-map cut.rest (job_at at)) in
    rw (get_or-map (job_at at) cut.rest k rect d within)
    (fit k _ (omega arith) (cut.some k rect within) (λ p here. grind (
      arith,
      cut.pixels p,
      here,
      get_or-le-sum_by (λ (r : Rectangle). times r p) cut.rest k rect within,
    )))))

-- the cut of a rectangle that fits the stack, by the next view
pub record IsNextCut (s : StackModel) (j : Job) (x : SlotView) (old new : List Job) (both : Option Rectangle) : Type 0
  where
    pub fits : FitsJobs s old
    pub job : IsJob s (length old) j
    pub seat : slice_get s.views j.at ≡ Some x
    pub cut : IsCut (j.at + 1) j.rect x.view.rect old new both

module _ {s : StackModel} {j : Job} {x : SlotView} {old new : List Job} {both : Option Rectangle}
    (is : IsNextCut s j x old new both) where
  before : j.at < length s.views
  before = slice_get_within s.views j.at x is.seat

  pub cut_fits : FitsJobs s new
  cut_fits = rest_fits s _ _ _ old _ _ is.cut is.fits (λ k r few some lies.
      let low = is.job.low in
      let within = before in
      record {
        pixels = some;
        place = omega arith;
        low = omega arith;
        below_bar = λ p here. is.job.below_bar p (lies p here).0;
        free = λ p here. rw (covered_more p s.views j.at x is.seat, is.job.free p (lies p here).0) (lies p here).1;
      })

  pub cut_fewer : weight (length s.views) new < weight (length s.views) old + weight_of (length s.views) j
  cut_fewer =
      let n = length s.views in
      let rest = rest_weighs n (j.at + 1) is.cut.rest in
      let less = lighter n j.at (length is.cut.rest) before is.cut.few in
      rw (is.cut.jobs, sum_by-append (weight_of n) old (map (job_at (j.at + 1)) is.cut.rest)) (omega arith)

  cut_sum : (from : ℕ) (p : Point) → jobs_to_come from s new p
      ≡ jobs_to_come from s old p + cond (covered (drop (j.at + 1) (take from s.views)) p) 0 (times_all is.cut.rest p)
  cut_sum from p = rw (is.cut.jobs, sum_by-append (job_to_come from s p) old (map (job_at (j.at + 1)) is.cut.rest))
      (rw (rest_to_come from (j.at + 1) s p is.cut.rest))

  -- a view in front of those that have pieces
  pub front_count : (from : ℕ) → j.at < from
      → (p : Point) → jobs_to_come from s old p + job_to_come from s p j ≡ jobs_to_come from s new p
  front_count from front p =
      let less = covered_less p s.views from j.at x is.seat front in
      rw (cut_sum from p, cut_in_front _ _ (covers j.rect p) (covers x.view.rect p) _ less (is.cut.pixels p))

  -- a view that has pieces
  pub piece_count : (from : ℕ) → from ≤ j.at → (p : Point) → jobs_to_come from s old p + job_to_come from s p j
      ≡ jobs_to_come from s new p + once (covers j.rect p && covers x.view.rect p)
  piece_count from behind p =
      rw (cut_sum from p, covered_none p s.views from j.at behind)
      (rw (covered_none p s.views from (j.at + 1) (omega arith)) (omega (arith, is.cut.pixels p)))

-- the next view of a rectangle, by its place and its rectangle
pub next_view : {s : StackModel} {j : Job} {v : ViewRef} {by : Rectangle} {old new : List Job} {both : Option Rectangle}
    → FitsJobs s old → IsJob s (length old) j
    → slice_get (map view_ref s.views) j.at ≡ Some v
    → option_map (λ (a : SlotView). a.view.rect) (slice_get s.views j.at) ≡ Some by
    → IsCut (j.at + 1) j.rect by old new both
    → (x : SlotView) × (view_ref x ≡ v) × IsNextCut s j x old new both
next_view {s = s} {j = j} {v = v} {by = by} fits job at rect cut =
    let found = slot_at s.views j.at v at in
    let same : found.0.view.rect ≡ by = let here = rw found.1 at rect in cc in (
      found.0,
      ap (λ (n : ℕ). record { 0 = n }) found.2,
      record { fits = fits; job = job; seat = found.1; cut = rw same cut },
    )
