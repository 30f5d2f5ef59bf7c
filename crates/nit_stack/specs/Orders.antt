-- How views move in an ordered list, front first. Layer 0 is the front-most.
use Rattle.std.specs.Prelude.{ℕ, Bool, not, nat_le, List, [], ◌∷◌, map, filter, find, Option, Some}
use Rattle.std.specs.Prelude.{None, if◌then◌else◌}
use Rattle.nit_stack.specs.Below.{list_any}

-- directly in front of the first one of this layer or of a layer behind, or last where there is
-- none
abbrev pub put_front : {A : Type 0} → (A → ℕ) → ℕ → A → List A → List A
put_front layer l v [] = v ∷ []
put_front layer l v (x ∷ xs) =
    if nat_le l (layer x) then v ∷ (x ∷ xs) else x ∷ put_front layer l v xs

-- directly behind the last one of this layer or of a layer in front, or first where there is none
abbrev pub put_back : {A : Type 0} → (A → ℕ) → ℕ → A → List A → List A
put_back layer l v [] = v ∷ []
put_back layer l v (x ∷ xs) =
    if list_any (λ y. nat_le (layer y) l) (x ∷ xs) then x ∷ put_back layer l v xs else v ∷ (x ∷ xs)

-- directly in front of the first one that is meant, or last where there is none
abbrev pub put_above : {A : Type 0} → (A → Bool) → A → List A → List A
put_above is v [] = v ∷ []
put_above is v (x ∷ xs) = if is x then v ∷ (x ∷ xs) else x ∷ put_above is v xs

-- all but those that are meant
abbrev pub without : {A : Type 0} → (A → Bool) → List A → List A
without is xs = filter (λ x. not (is x)) xs

-- those that are meant are changed in their places
abbrev pub changed : {A : Type 0} → (A → Bool) → (A → A) → List A → List A
changed is change xs = map (λ x. if is x then change x else x) xs

-- The first one that is meant is taken out, and put in again among the others. Nothing changes
-- where there is none.
abbrev pub put_again : {A : Type 0} → (A → List A → List A) → List A → List A → Option A → List A
put_again put others xs (Some v) = put v others
put_again put others xs None = xs

abbrev pub moved : {A : Type 0} → (A → Bool) → (A → List A → List A) → List A → List A
moved is put xs = put_again put (without is xs) xs (find is xs)
