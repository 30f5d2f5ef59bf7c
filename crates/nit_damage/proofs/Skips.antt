-- Views that have no pixel in common with a rectangle, passed over.
use Rattle.nit_damage.proofs.Basics.{IsApart, IsCutStep, IsSkip, Job, Piece, Rectangle, SlotView}
use Rattle.nit_damage.proofs.Basics.{Some, StackModel, ViewRef, arith, cases_lt, job_at, length}
use Rattle.nit_damage.proofs.Basics.{option_map, slice_get, slice_get_within, slot_at, view_ref}
use Rattle.nit_damage.proofs.Basics.{◌∙◌}
use Rattle.std.proofs.Common.{List, Option, inl, inr, map, ℕ, ◌+◌, ◌≡◌}
use Rattle.nit_damage.proofs.Jobs.{lighter}
use Rattle.nit_damage.proofs.Views.{covered_less, covered_more, covered_none}

pub skip_both : {s : StackModel} {i j k : Job} → IsSkip s i j → IsSkip s j k → IsSkip s i k
skip_both one more = record {
  fits = λ n is. more.fits n (one.fits n is);
  count = λ from p. one.count from p ∙ more.count from p;
  no_more = omega (arith, one.no_more, more.no_more);
}

-- one view, by its place and its rectangle
pub skip_next : (s : StackModel) (j : Job) (v : ViewRef) (by : Rectangle)
    → slice_get (map view_ref s.views) j.at ≡ Some v
    → option_map (λ (a : SlotView). a.view.rect) (slice_get s.views j.at) ≡ Some by
    → IsApart j.rect by → IsSkip s j (job_at (j.at + 1) j.rect)
skip_next s j v by at rect apart =
    let found = slot_at s.views j.at v at in
    let x = found.0 in
    let before = slice_get_within s.views j.at x found.1 in
    let same : x.view.rect ≡ by = let here = rw found.1 at rect in cc in
    let nothing : IsApart j.rect x.view.rect = rw same apart in
    record {
      fits = λ k is. let low = is.low in record {
        pixels = is.pixels;
        place = omega arith;
        low = omega arith;
        below_bar = is.below_bar;
        free = λ p here. grind (arith, covered_more p s.views j.at x found.1, is.free p here, nothing p, here);
      };
      count = λ from p. elim (cases_lt j.at from) [
        | inl front ↦ rw (covered_less p s.views from j.at x found.1 front) (grind (arith, nothing p))
        | inr behind ↦ rw (covered_none p s.views from j.at behind)
            (rw (covered_none p s.views from (j.at + 1) (omega arith)))
      ];
      no_more = omega (arith, lighter (length s.views) j.at 1 before (omega arith));
    }

-- what is cut of the rectangle behind these views is cut of it
pub skipped : {from : ℕ} {s : StackModel} {j j' : Job} {old new : List Job} {result : Option Piece}
    → IsSkip s j j' → IsCutStep from s j' old new result → IsCutStep from s j old new result
skipped {from = from} skip step = record {
  fits = step.fits;
  count = λ p. rw (skip.count from p) (step.count p);
  piece = step.piece;
  fewer = omega (arith, step.fewer, skip.no_more);
}
