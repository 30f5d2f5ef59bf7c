-- What one step of the cutter does.
use Rattle.nit_damage.proofs.Basics.{FitsJobs, HasPixels, IfSome, IsCutStep, IsJob, IsPieceOf}
use Rattle.nit_damage.proofs.Basics.{IsStack, Job, None, Point, Rectangle, SlotView, Some}
use Rattle.nit_damage.proofs.Basics.{StackModel, ViewRef, and_parts, arith, cases_lt, covers}
use Rattle.nit_damage.proofs.Basics.{drop_all, has_slot, length, length-take, one-le-pow}
use Rattle.nit_damage.proofs.Basics.{option_map, owner_in, refl, slot_view_covers, sym, take_all}
use Rattle.nit_damage.proofs.Basics.{view_ref}
use Rattle.std.proofs.Common.{List, Option, false, find, inl, inr, take, true, ℕ, ◌&&◌, ◌+◌, ◌-◌}
use Rattle.std.proofs.Common.{◌≡◌, ◌≤◌}
use Rattle.nit_damage.proofs.RectangleCuts.{IsNextCut, cut_fewer, cut_fits, front_count}
use Rattle.nit_damage.proofs.RectangleCuts.{piece_count}
use Rattle.nit_damage.proofs.Screen.{below_not_in_bar, below_on_screen}
use Rattle.nit_damage.proofs.Views.{front_most, no_view}

-- what a piece below the bar is
piece_of : (s : StackModel) (j : Job) (old : List Job) (r : Rectangle) (owner : Option ViewRef) → IsStack s
    → IsJob s (length old) j → HasPixels r
    → ((p : Point) → covers r p ≡ true → covers j.rect p ≡ true)
    → ((p : Point) → covers r p ≡ true → option_map view_ref (owner_in (λ x. x.view) s.bar s.views p) ≡ owner)
    → IfSome owner (λ v. has_slot v.0 s.views ≡ true) → IsPieceOf s record { rect = r; owner = owner }
piece_of s j old r owner is job some lies owned stands = record {
  pixels = some;
  on_screen = λ p here. below_on_screen s p (omega (arith, is.bar.1)) (job.below_bar p (lies p here));
  owner = λ p here. sym (owned p here);
  stands = stands;
}

-- who owns a pixel of a rectangle
owner_below : {s : StackModel} {k : ℕ} {j : Job} → IsJob s k j → (p : Point) → covers j.rect p ≡ true
    → owner_in (λ x. x.view) s.bar s.views p ≡ find (slot_view_covers p) s.views
owner_below {s} job p here = rw (below_not_in_bar s p (job.below_bar p here))

-- behind the last view the whole rectangle is a piece
pub bare : (from : ℕ) (s : StackModel) (j : Job) (old : List Job) → IsStack s → FitsJobs s old → IsJob s (length old) j
    → length s.views ≤ j.at → IsCutStep from s j old old (Some record { rect = j.rect; owner = None })
bare from s j old is fits job behind = record {
  fits = fits;
  count = λ p. rw (drop_all j.at (take from s.views) (omega (arith, length-take from s.views))) refl;
  piece = piece_of s j old j.rect None is job job.pixels (λ p here. here)
      (λ p here. rw (owner_below job p here, no_view p s.views (rw take_all at (job.free p here)))) tt;
  fewer = omega (arith, one-le-pow (length s.views + 1 - j.at) 5 (omega arith));
}

module _ {s : StackModel} {j : Job} {x : SlotView} {old new : List Job} (from : ℕ) where
  -- what is cut out has no piece
  pub passed : {both : Option Rectangle} → IsNextCut s j x old new both
      → ((p : Point) → from ≤ j.at → (covers j.rect p && covers x.view.rect p) ≡ false)
      → IsCutStep from s j old new None
  passed is none = record {
    fits = cut_fits is;
    count = λ p. elim (cases_lt j.at from) [
      | inl front ↦ omega (arith, front_count is from front p)
      | inr behind ↦ rw (piece_count is from behind p, none p behind)
    ];
    piece = tt;
    fewer = cut_fewer is;
  }

  -- what is cut out is a piece
  pub given : {r : Rectangle} {v : ViewRef} → IsStack s → IsNextCut s j x old new (Some r) → from ≤ j.at
      → view_ref x ≡ v → has_slot v.0 s.views ≡ true
      → IsCutStep from s j old new (Some record { rect = r; owner = Some v })
  given {r} {v} is next behind same stands =
      let both = λ (p : Point) (here : covers r p ≡ true). and_parts (covers j.rect p) (covers x.view.rect p)
      (rw (next.cut.part.1 p) at here) in
      record {
        fits = cut_fits next;
        count = λ p. rw (piece_count next from behind p, next.cut.part.1 p);
        piece = piece_of s j old r (Some v) is next.job next.cut.part.0 (λ p here. (both p here).0)
            (λ p here. rw (owner_below next.job p (both p here).0)
            (rw (front_most p s.views j.at x next.seat (next.job.free p (both p here).0) (both p here).1, same)))
            stands;
        fewer = cut_fewer next;
      }
