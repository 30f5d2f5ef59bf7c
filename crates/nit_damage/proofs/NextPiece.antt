-- What the next piece takes away.
use Rattle.nit_damage.proofs.Basics.{CutterModel, FitsJobs, FitsStack, IfSome, IfSome_then}
use Rattle.nit_damage.proofs.Basics.{IsPieceOf, IsScreenSize, IsTrue, Job, MatchOption, None, Piece}
use Rattle.nit_damage.proofs.Basics.{Point, Some, StackModel, ap, arith, bar_part, covers}
use Rattle.nit_damage.proofs.Basics.{jobs_to_come, length, once, piece_times, pieces_left, refl}
use Rattle.nit_damage.proofs.Basics.{to_come, weight}
use Rattle.std.proofs.Common.{List, Option, [], false, true, ◌+◌, ◌<◌, ◌≡◌, ◌≤◌}
use Rattle.nit_damage.proofs.Screen.{bar_in_bar, bar_on_screen}

-- a cutter before and after a piece
pub record IsNext (s : StackModel) (old new : CutterModel) (result : Option Piece) : Type 0 where
  pub fits : FitsStack old s
  pub room : new.room ≡ old.room
  pub jobs : FitsJobs s new.jobs
  pub bar : new.bar ≡ false
  pub count : (p : Point) → to_come old s p ≡ to_come new s p + piece_times result p
  pub piece : MatchOption result ((p : Point) → to_come old s p ≡ 0) (IsPieceOf s)
  pub fewer : IfSome result (λ _. pieces_left new s < pieces_left old s)

module _ {s : StackModel} {old new : CutterModel} where
  pub next_fits : {result : Option Piece} → IsNext s old new result → FitsStack new s
  next_fits is = record {
    room = rw is.room is.fits.room;
    jobs = is.jobs;
    bar = λ some. let none = is.bar in cc;
    once = λ p. omega (arith, is.count p, is.fits.once p);
  }

  pub next_came : (result : Option Piece) → IsNext s old new result → MatchOption result
      ((p : Point) → to_come old s p ≡ 0) (λ piece. (p : Point) → IsTrue (covers piece.rect p) → to_come old s p ≡ 1)
  next_came None is = is.piece
  next_came (Some piece) is = λ p here. omega (arith, ap once here, is.count p, is.fits.once p)

  -- what holds of every piece
  pub next_piece : {Q : Piece → Type 0} (result : Option Piece) → IsNext s old new result
      → ((piece : Piece) → IsPieceOf s piece → Q piece) → IfSome result Q
  next_piece None is holds = tt
  next_piece (Some piece) is holds = holds piece is.piece

-- the bar is a piece
pub bar_next : {s : StackModel} {old : CutterModel} → FitsStack old s → old.bar ≡ true → s.bar ≤ s.height
    → IsScreenSize s.width s.height
    → IsNext s old (record old { bar = false }) (Some record { rect = bar_part s; owner = None })
bar_next {s = s} is bar fits screen = record {
  fits = is;
  room = refl;
  jobs = is.jobs;
  bar = refl;
  count = λ p. rw bar (omega arith);
  piece = record {
    pixels = (omega (arith, screen.0), is.bar bar);
    on_screen = λ p here. bar_on_screen s p fits here;
    owner = λ p here. rw (bar_in_bar s p here) refl;
    stands = tt;
  };
  fewer = rw bar (omega arith);
}

-- below the bar
pub below_next : {s : StackModel} {old : CutterModel} (jobs : List Job) (result : Option Piece) → FitsStack old s
    → old.bar ≡ false → FitsJobs s jobs
    → ((p : Point) → jobs_to_come old.from s old.jobs p ≡ jobs_to_come old.from s jobs p + piece_times result p)
    → MatchOption result (jobs ≡ []) (IsPieceOf s)
    → IfSome result (λ _. weight (length s.views) jobs < weight (length s.views) old.jobs)
    → IsNext s old (record old { jobs = jobs }) result
below_next {s = s} {old = old} jobs result is bar fits count piece fewer = record {
  fits = is;
  room = refl;
  jobs = fits;
  bar = bar;
  count = λ p. omega (arith, count p);
  piece = none_left result count piece;
  fewer = IfSome_then result fewer (λ r e. omega arith);
}
  where
    none_left : (r : Option Piece)
        → ((p : Point) → jobs_to_come old.from s old.jobs p ≡ jobs_to_come old.from s jobs p + piece_times r p)
        → MatchOption r (jobs ≡ []) (IsPieceOf s)
        → MatchOption r ((p : Point) → to_come old s p ≡ 0) (IsPieceOf s)
    none_left None e none = λ p. rw bar (omega (arith, rw none at (e p)))
    none_left (Some r) e is = is
