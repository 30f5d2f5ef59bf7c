-- Steps that did not fail.
use Rattle.std.proofs.Common.{None, Option, Some, refl, ◌≡◌}
use Rattle.nit_rect.proofs.Basics.{◌>>=◌}

-- the value of a step that did not fail
pub bind_some : {A B : Type 0} (r : Option A) (f : A → Option B) (y : B) → (r >>= f) ≡ Some y → (x : A) × (r ≡ Some x)
    × (f x ≡ Some y)
bind_some (Some x) f y e = (x, refl, e)
bind_some None f y e = absurd cc
