-- Areas of the screen in a list of as many places as there may be parts.
use Rattle.std.proofs.Common.{List, [], ap, arith, get_or, get_or-set_other, length, map, refl, set}
use Rattle.std.proofs.Common.{subst, sym, take, ℕ, ◌+◌, ◌-◌, ◌<◌, ◌∙◌, ◌∷◌, ◌≡◌, ◌≢◌, ◌≤◌}
use Rattle.nit_c.proofs.Basics.{All, AreParts, Area, HasParts, HostModel, IsAreaOf, IsSeenBut}
use Rattle.nit_c.proofs.Basics.{NitDamage, NitPart, TellsDamage, area_at, c_part, has_any}
use Rattle.nit_c.proofs.Basics.{map-append, map-map, map_fixed, no_part, parts_in, take_more}
use Rattle.nit_c.proofs.Basics.{take_more_set}

module _ (areas : List Area) (part : List NitPart) (k : ℕ) (d : Area) (p : NitPart) (inside : k < length areas)
    (room : k < length part) (is : p ≡ c_part (get_or areas k d))
    (told : take k part ≡ map c_part (take k areas))
    (past : (j : ℕ) → k ≤ j → j < 16 → get_or part j no_part ≡ no_part) where
  pub part_told : take (k + 1) (set part k p) ≡ map c_part (take (k + 1) areas)
  part_told =
      rw (take_more_set part k p room, take_more areas k d inside, map-append c_part (take k areas) (get_or areas k d ∷ []))
      (rw (told, is) refl)

  pub part_past : (j : ℕ) → k + 1 ≤ j → j < 16 → get_or (set part k p) j no_part ≡ no_part
  part_past j behind less =
      let other : j ≢ k = omega arith in
      get_or-set_other part k j p no_part other ∙ past j (omega arith) less

-- an area again, from its place and size
same_area : (width height : ℕ) (a : Area) → IsAreaOf width height a
    → area_at a.left a.top (a.right - a.left) (a.bottom - a.top) ≡ a
same_area width height a on =
    let right : a.left + (a.right - a.left) ≡ a.right = omega (arith, on.across) in
    let bottom : a.top + (a.bottom - a.top) ≡ a.bottom = omega (arith, on.down) in
    λ i. record { left = a.left; top = a.top; right = right i; bottom = bottom i }

pub parts_are : (width height : ℕ) (areas : List Area) (answer : NitDamage) → HasParts areas answer
    → All (IsAreaOf width height) areas → parts_in answer ≡ areas
parts_are width height areas answer has on =
    ap (map (λ (p : NitPart). area_at p.x p.y p.w p.h)) has.parts
    ∙ map-map (λ (p : NitPart). area_at p.x p.y p.w p.h) c_part areas
    ∙ map_fixed (λ (a : Area). area_at a.left a.top (a.right - a.left) (a.bottom - a.top)) areas
    (λ k d less. same_area width height (get_or areas k d) (on k d less))

pub damage_told : (h : HostModel) (areas : List Area) (answer : NitDamage) → answer.kind ≡ 1 → HasParts areas answer
    → AreParts areas → All (IsAreaOf h.state.config.width h.state.config.height) areas
    → IsSeenBut h.state h.sheets (has_any areas) h.seen.frame → TellsDamage h answer
damage_told h areas answer kind has are on changed =
    let same = sym (parts_are h.state.config.width h.state.config.height areas answer has on) in
    record {
      kind = kind;
      few = omega (arith, has.count, are.few);
      parts = subst AreParts same are;
      screen = subst (λ (l : List Area). All (IsAreaOf h.state.config.width h.state.config.height) l) same on;
      changed = subst (λ (l : List Area). IsSeenBut h.state h.sheets (has_any l) h.seen.frame) same changed;
      past = has.past;
    }
