-- A struct by value that owns memory, where its fields are plain data: it is made of what it owns beside them.
use Rattle.std.proofs.Common.{List, ◌∷◌}
use Rattle.nit_c.proofs.Machine.{Goal, Is, Item, Laws, Logic, Owning, Plains, Step, Struct}
use Rattle.nit_c.proofs.Machine.{Struct-Lawful, Struct-Makes, Typed, Ura, Val, fields, fjoin}
use Rattle.nit_c.proofs.Machine.{lawfuls, owned, row, shape, step, to, ‵, ◌$◌}

module _ {M : Type 1} {𝓤 : Ura M} (𝓛 : Logic 𝓤) (S : Owning) where
  -- the machine values have the struct's type
  pub owner_typed : (L : Laws S) (d : S.D) (vs : List Val) → Is (Struct (shape S)) (to S d) vs → Typed (row S).mir vs
  owner_typed L d vs is = (Struct-Lawful 𝓛 (shape S) (lawfuls 𝓛 S.parts L)).typed (to S d) vs is

module _ {M : Type 1} {𝓤 : Ura M} {𝓛 : Logic 𝓤} {K : Type 0} {Γ : List (Item 𝓤)} {G : Goal 𝓤 𝓛.H} (S : Owning) where
  pub owner_in : K → Plains (fields S) → (d : S.D) (vs : List Val) → Is (Struct (shape S)) (to S d) vs
      → Step K 𝓛 (‵ ((row S).own_val d vs) ∷ Γ) G (‵ (S.heap d) ∷ Γ) G
  owner_in t pl d vs is = step (λ s. owned t (Struct (shape S)) (Is (Struct (shape S))) (Struct-Makes 𝓛 (shape S) pl)
      (to S d) vs is $ fjoin t $ s)
