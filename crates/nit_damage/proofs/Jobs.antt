-- Lists of rectangles that are still to be cut.
use Rattle.nit_damage.proofs.Basics.{All-cons, All-nil, FitsJobs, HasPixels, IsJob, Job, Point}
use Rattle.nit_damage.proofs.Basics.{Rectangle, StackModel, arith, cases_lt, cond_both, covered}
use Rattle.nit_damage.proofs.Basics.{covers_none, get_or-append-add, get_or_append_left}
use Rattle.nit_damage.proofs.Basics.{get_or_push, job_at, job_to_come, jobs_to_come, length}
use Rattle.nit_damage.proofs.Basics.{mul-le-mul_right, nat_tests, no_pixels, once, one-le-pow}
use Rattle.nit_damage.proofs.Basics.{pixels_of, pow-suc, refl, sum_by-cons, times, times_all}
use Rattle.nit_damage.proofs.Basics.{weight, weight_of, with_pixels}
use Rattle.std.proofs.Common.{All, Bool, List, [], cond, drop, inl, inr, length-append, map}
use Rattle.std.proofs.Common.{slice_index_or, suc, take, ℕ, ◌&&◌, ◌*◌, ◌++◌, ◌+◌, ◌-◌, ◌<◌, ◌==◌}
use Rattle.std.proofs.Common.{◌^◌, ◌||◌, ◌∷◌, ◌≡◌, ◌≤◌}

-- a rectangle, where it has pixels
pub same_times : (r : Rectangle) (p : Point) → times_all (with_pixels r) p ≡ times r p
same_times r p = grind (arith, nat_tests, no_pixels r, covers_none r p)

pub at_most_one : (r : Rectangle) → length (with_pixels r) ≤ 1
at_most_one r = grind arith

pub all_have_pixels : (r : Rectangle) → All HasPixels (with_pixels r)
all_have_pixels r =
    cond_both (r.w * r.h == 0) [] (r ∷ []) (All HasPixels) (λ e. All-nil HasPixels)
    (λ e. All-cons HasPixels r [] (pixels_of r (λ none. grind (arith, nat_tests))) (All-nil HasPixels))

-- what is left of a rectangle, at one pixel
pub rest_to_come : (from at : ℕ) (s : StackModel) (p : Point) (rest : List Rectangle)
    → jobs_to_come from s (map (job_at at) rest) p ≡ cond (covered (drop at (take from s.views)) p) 0 (times_all rest p)
rest_to_come from at s p [] = grind arith
rest_to_come from at s p (r ∷ rest) =
    rw (sum_by-cons (job_to_come from s p) (job_at at r) (map (job_at at) rest), sum_by-cons (λ r. times r p) r rest)
    (grind (arith, rest_to_come from at s p rest))

-- what cutting the rest may still give
pub rest_weighs : (views at : ℕ) (rest : List Rectangle) → weight views (map (job_at at) rest)
    ≡ length rest * 5 ^ (views + 1 - at)
rest_weighs views at [] = omega arith
rest_weighs views at (r ∷ rest) =
    rw (sum_by-cons (weight_of views) (job_at at r) (map (job_at at) rest), rest_weighs views at rest) (omega arith)

pub lighter : (views at few : ℕ) → at < views → few ≤ 4 → few * 5 ^ (views + 1 - (at + 1)) < 5 ^ (views + 1 - at)
lighter views at few before le =
    let e : views + 1 - at ≡ suc (views + 1 - (at + 1)) = omega arith in
    let w = 5 ^ (views + 1 - (at + 1)) in
    rw (e, pow-suc) (omega (arith, one-le-pow (views + 1 - (at + 1)) 5 (omega arith), mul-le-mul_right w le))

-- one cut, at one pixel: the rest comes where the next views let it, and the part that is cut out comes not at all
pub cut_in_front : (now next here there : Bool) (rest : ℕ) → now ≡ (there || next)
    → cond here 1 0 ≡ rest + once (here && there)
    → cond now 0 (cond here 1 0) ≡ cond next 0 rest
cut_in_front now next here there rest e parts = grind arith

-- a list with more rectangles behind
pub fits_append : (s : StackModel) (jobs more : List Job) → FitsJobs s jobs
    → ((k : ℕ) (d : Job) → k < length more → IsJob s (length jobs + k) (slice_index_or more k d))
    → FitsJobs s (jobs ++ more)
fits_append s jobs more fits fit k d below = elim (cases_lt k (length jobs)) [
  | inl front ↦ rw (get_or_append_left jobs more d k front) (fits k d front)
  | inr behind ↦
      let e : length jobs + (k - length jobs) ≡ k = omega arith in
      let job = fit (k - length jobs) d (omega (arith, length-append jobs more)) in
      rw e at (rw (← get_or-append-add jobs more (k - length jobs) d) at job)
]

-- the last rectangle of a list
pub last_job : (s : StackModel) (jobs : List Job) (j : Job) → FitsJobs s (jobs ++ j ∷ []) → IsJob s (length jobs) j
last_job s jobs j fits =
    rw (get_or_push jobs j j (length jobs) refl) at (fits (length jobs) j (omega (arith, length-append jobs (j ∷ []))))
