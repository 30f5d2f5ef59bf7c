-- What holds of each element of a list.
use Rattle.std.proofs.Common.{List, [], ◌++◌, ◌∷◌}
use Rattle.nit_rect.proofs.Basics.{AllByRecursion}

-- what holds of each element of two lists holds of each of both, one behind the other
pub all_append : {A : Type 0} (P : A → Type 0) (xs ys : List A) → AllByRecursion P xs → AllByRecursion P ys
    → AllByRecursion P (xs ++ ys)
all_append P [] ys p q = q
all_append P (x ∷ xs) ys p q = (p.0, all_append P xs ys p.1 q)
