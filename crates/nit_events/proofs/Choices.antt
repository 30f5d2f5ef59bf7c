-- What holds of a choice, and how long the list of one delivery is.
use Rattle.std.proofs.Common.{Bool, None, Option, Some, arith, false, length, true, ◌≤◌}
use Rattle.std.proofs.Common.{if◌then◌else◌}
use Rattle.nit_events.proofs.Basics.{Delivery, delivery}

-- what holds of both holds of either
pub either : {A : Type 0} (P : A → Type 0) (b : Bool) (x y : A) → P x → P y → P (if b then x else y)
either P true x y p q = p
either P false x y p q = q

pub at_most_one : (told : Option Delivery) → length (delivery told) ≤ 1
at_most_one None = omega arith
at_most_one (Some d) = omega arith
