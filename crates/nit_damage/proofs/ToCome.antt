-- What is to come after a begin.
use Rattle.nit_damage.proofs.Basics.{CoversBoth, CutterModel, FitsJobs, FitsStack, HasPixels, IsCut}
use Rattle.nit_damage.proofs.Basics.{IsJob, IsOnScreen, Job, LiesIn, NoPair, None, Point, Rectangle}
use Rattle.nit_damage.proofs.Basics.{SlotView, Some, StackModel, ViewRef, and_parts, arith}
use Rattle.nit_damage.proofs.Basics.{bar_part, begun_cutter, cond_both, covered, covers}
use Rattle.nit_damage.proofs.Basics.{covers_none, is_behind, is_of_moved, is_owned, job_at}
use Rattle.nit_damage.proofs.Basics.{job_to_come, jobs_to_come, length, length-map, nat_tests, once}
use Rattle.nit_damage.proofs.Basics.{option_map, part_below_bar, pixels_of, place_of, refl}
use Rattle.nit_damage.proofs.Basics.{same_slot, slot_view_in, sum_by-append, times, to_come}
use Rattle.nit_damage.proofs.Basics.{with_pixels}
use Rattle.std.proofs.Common.{Bool, List, Option, [], cond, false, inr, map, nat_lt, not, take, ℕ}
use Rattle.std.proofs.Common.{◌&&◌, ◌*◌, ◌+◌, ◌==◌, ◌||◌, ◌∷◌, ◌≡◌, ◌≤◌}
use Rattle.nit_damage.proofs.Jobs.{at_most_one, rest_to_come, same_times}
use Rattle.nit_damage.proofs.RectangleCuts.{rest_fits}
use Rattle.nit_damage.proofs.Screen.{bar_in_bar, bar_is, bar_off, below_is, below_not_in_bar}
use Rattle.nit_damage.proofs.Screen.{below_off}
use Rattle.nit_damage.proofs.Views.{owned_behind}

at_most_once : (b : Bool) → once b ≤ 1
at_most_once b = grind arith

-- one rectangle, of which nothing is cut out yet
first_job : (s : StackModel) (k : ℕ) (r : Rectangle) → k ≤ 4 → HasPixels r → LiesIn r (part_below_bar s)
    → IsJob s k (job_at 0 r)
first_job s k r low some lies = record {
  pixels = some;
  place = omega arith;
  low = omega arith;
  below_bar = lies;
  free = λ p here. refl;
}

first_fits : (s : StackModel) (r : Rectangle) → LiesIn r (part_below_bar s)
    → FitsJobs s (map (job_at 0) (with_pixels r))
first_fits s r lies =
    cond_both (r.w * r.h == 0) [] (r ∷ []) (λ rs. FitsJobs s (map (job_at 0) rs)) (λ e k d below. absurd (omega arith))
    (λ e k d below.
    let first : k ≡ 0 = omega arith in
    rw first (first_job s 0 r (omega arith) (pixels_of r (λ none. grind (arith, nat_tests))) lies))

-- what is to come where a rectangle is cut by the views in front of a place
first_to_come : (s : StackModel) (from : ℕ) (r : Rectangle) (p : Point)
    → jobs_to_come from s (map (job_at 0) (with_pixels r)) p ≡ cond (covered (take from s.views) p) 0 (times r p)
first_to_come s from r p = rw (← same_times r p) (rest_to_come from 0 s p (with_pixels r))

pub begun_comes : (s : StackModel) (from : ℕ) (r : Rectangle) (room : ℕ) (p : Point)
    → to_come (begun_cutter from r room) s p ≡ cond (covered (take from s.views) p) 0 (times r p)
begun_comes s from r room p = rw (first_to_come s from r p) (omega arith)

pub lies_below : (s : StackModel) (r part : Rectangle) → CoversBoth r (part_below_bar s) part
    → LiesIn part (part_below_bar s)
lies_below s r part both p here = (and_parts (covers r p) (covers (part_below_bar s) p) (rw (both p) at here)).1

pub begun_fits : (s : StackModel) (from : ℕ) (r : Rectangle) (room : ℕ) → length s.views ≤ room
    → LiesIn r (part_below_bar s) → FitsStack (begun_cutter from r room) s
begun_fits s from r room enough lies = record {
  room = enough;
  jobs = first_fits s r lies;
  bar = λ no_bar. cc;
  once = λ p. grind (arith, begun_comes s from r room p);
}

module _ (s : StackModel) (from : ℕ) (r part : Rectangle) (room : ℕ) (fits : s.bar ≤ s.height)
    (both : CoversBoth r (part_below_bar s) part) (p : Point) where
  -- a rectangle on the screen, below the bar
  pub gone_comes : IsOnScreen s.width s.height p
      → to_come (begun_cutter from part room) s p ≡ once (is_behind from s r p)
  gone_comes on = rw (begun_comes s from part room p, both p, below_is s p fits on) (grind arith)

  pub begun_off : (IsOnScreen s.width s.height p → ⊥) → to_come (begun_cutter from part room) s p ≡ 0
  begun_off off = rw (begun_comes s from part room p, both p, below_off s p fits off) (grind arith)

-- a view in its slot, by its rectangle
seat_of : (o : Option SlotView) (r : Rectangle) → option_map (λ (a : SlotView). a.view.rect) o ≡ Some r
    → (x : SlotView) × (o ≡ Some x) × (x.view.rect ≡ r)
seat_of None r e = cc
seat_of (Some x) r e = (x, refl, grind arith)

-- the pixels that a view owns
pub owned_comes : (s : StackModel) (v : ViewRef) (own r rect part : Rectangle) (room : ℕ) → s.bar ≤ s.height
    → NoPair same_slot s.views → option_map (λ (a : SlotView). a.view.rect) (slot_view_in v.0 s.views) ≡ Some own
    → CoversBoth own r rect → CoversBoth rect (part_below_bar s) part
    → (p : Point) → IsOnScreen s.width s.height p → to_come (begun_cutter (place_of v.0 s.views) part room) s p
    ≡ once (is_owned v s r p)
owned_comes s v own r rect part room fits apart at met both p on =
    let x = seat_of (slot_view_in v.0 s.views) own at in
    rw (gone_comes s (place_of v.0 s.views) rect part room fits both p on, met p)
    (rw (owned_behind s v.0 x.0 p apart x.1, x.2) (grind arith))

-- two rectangles, the second cut by the first
pub record IsMoved (s : StackModel) (rect old part before : Rectangle) (jobs : List Job)
    (both : Option Rectangle) : Type 0 where
  pub bar : s.bar ≤ s.height
  pub now : CoversBoth rect (part_below_bar s) part
  pub was : CoversBoth old (part_below_bar s) before
  pub cut : IsCut 0 before rect (map (job_at 0) (with_pixels part)) jobs both

abbrev pub moved : ℕ → List Job → ℕ → CutterModel
moved from jobs room = record { jobs = jobs; from = from; bar = false; room = room }

module _ {s : StackModel} {rect old part before : Rectangle} {jobs : List Job} {both : Option Rectangle}
    (is : IsMoved s rect old part before jobs both) where
  both_come : (from room : ℕ) (p : Point) → to_come (moved from jobs room) s p
      ≡ once (covers (part_below_bar s) p && (covers rect p || covers old p) && not (covered (take from s.views) p))
  both_come from room p =
      let parts = rw (is.was p) at (is.cut.pixels p) in
      let first = map (job_at 0) (with_pixels part) in
      rw (is.cut.jobs, sum_by-append (job_to_come from s p) first (map (job_at 0) is.cut.rest))
      (rw (first_to_come s from part p, is.now p, rest_to_come from 0 s p is.cut.rest)
      (table (covered (take from s.views) p) (covers rect p) (covers old p) (covers (part_below_bar s) p) _ parts))
    where
      table : (c r o b : Bool) (n : ℕ) → once (o && b) ≡ n + once ((o && b) && r)
          → 0 + (cond c 0 (once (r && b)) + cond c 0 n) ≡ once (b && (r || o) && not c)
      table c r o b n e = grind arith

  pub moved_comes : (v : ViewRef) (room : ℕ)
      → option_map (λ (a : SlotView). a.view.rect) (slot_view_in v.0 s.views) ≡ Some rect
      → (p : Point) → IsOnScreen s.width s.height p
      → to_come (moved (place_of v.0 s.views) jobs room) s p ≡ once (is_of_moved v s old p)
  moved_comes v room at p on =
      rw (both_come (place_of v.0 s.views) room p, below_is s p is.bar on) (grind (arith, at))

  pub moved_off : (from room : ℕ) (p : Point) → (IsOnScreen s.width s.height p → ⊥)
      → to_come (moved from jobs room) s p ≡ 0
  moved_off from room p off = rw (both_come from room p, below_off s p is.bar off)

  pub moved_fits : (from room : ℕ) → length s.views ≤ room → FitsStack (moved from jobs room) s
  moved_fits from room enough = record {
    room = enough;
    jobs = rest_fits s 0 before rect _ _ _ is.cut (first_fits s part (lies_below s rect part is.now))
        (λ k r few some lies.
        let n = length-map (with_pixels part) (job_at 0) in
        first_job s _ r (omega (arith, at_most_one part)) some
        (λ p here. lies_below s old before is.was p (lies p here).0));
    bar = λ no_bar. cc;
    once = λ p. rw (both_come from room p) (at_most_once _);
  }

-- the whole screen
abbrev pub whole : StackModel → ℕ → CutterModel
whole s room = record (begun_cutter 0 (part_below_bar s) room) { bar = nat_lt 0 s.bar }

module _ (s : StackModel) (room : ℕ) where
  whole_comes : (p : Point) → to_come (whole s room) s p ≡ times (bar_part s) p + times (part_below_bar s) p
  whole_comes p =
      let no_bar = λ (none : s.bar ≡ 0). covers_none (bar_part s) p (inr none) in
      rw (first_to_come s 0 (part_below_bar s) p) (grind (arith, nat_tests, no_bar))

  pub whole_on : s.bar ≤ s.height → (p : Point) → IsOnScreen s.width s.height p → to_come (whole s room) s p ≡ 1
  whole_on fits p on = rw (whole_comes p, bar_is s p on, below_is s p fits on) (grind arith)

  pub whole_off : s.bar ≤ s.height → (p : Point) → (IsOnScreen s.width s.height p → ⊥) → to_come (whole s room) s p ≡ 0
  whole_off fits p off = rw (whole_comes p, bar_off s p fits off, below_off s p fits off)

  pub whole_fits : length s.views ≤ room → FitsStack (whole s room) s
  whole_fits enough = record {
    room = enough;
    jobs = first_fits s (part_below_bar s) (λ p here. here);
    bar = λ some. grind (arith, nat_tests);
    once = λ p. grind (arith, whole_comes p, bar_in_bar s p, below_not_in_bar s p);
  }
