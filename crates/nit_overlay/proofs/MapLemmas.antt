-- What a map of owners says of the pixels of a row.
use Rattle.nit_stack.proofs.ForCallers.{any_found}
use Rattle.std.proofs.Math.Nat.{mul_comm}
use Rattle.std.specs.Prelude.{IfSome}
use Rattle.std.proofs.Common.{List, eq-eqb, find, suc, suc-mul, true, None, Option, Some, arith}
use Rattle.std.proofs.Common.{length, option_map, refl, slice_index}
use Rattle.std.proofs.Common.{ℕ, ◌*◌, ◌+◌, ◌-◌, ◌<◌, ◌∙◌, ◌≡◌, ◌≤◌, sym}
use Rattle.nit_overlay.proofs.Basics.{All_found, Area, ViewRef, covers, is_slot, view_ref, Point}
use Rattle.nit_overlay.proofs.Basics.{SlotView, div-mul-add, mod-mul-add}
use Rattle.nit_overlay.proofs.Basics.{mul-le-mul_right, point, seat_owner}
use Rattle.nit_overlay.specs.Below.{IsSlotView, IsStack, has_slot}
use Rattle.nit_overlay.specs.Stretch.{HoldsUpTo}
use Rattle.nit_overlay.specs.OwnerMap.{IsMapOf, no_slot, number_of}
use Rattle.nit_stack.specs.Stack.{StackModel}

-- the pixels of a screen
abbrev pub whole_area : ℕ → ℕ → Area
whole_area width height = record { left = 0; top = 0; right = width; bottom = height }

-- the number of a pixel by its column and row
number_here : (s : StackModel) (map : List ℕ) (x y : ℕ) → IsMapOf s map → x < s.width → y < s.height
    → slice_index map (y * s.width + x) ≡ number_of (seat_owner s.bar s.views (point x y))
number_here s map x y is left above =
    let lt : suc y ≤ s.height = omega arith in
    let m = mul-le-mul_right s.width lt in
    let p = suc-mul y s.width in
    let q = mul_comm s.width s.height in
    let within : y * s.width + x < s.width * s.height = omega arith in
    let here = is.numbers (y * s.width + x) within in
    rw (mod-mul-add y s.width x left, div-mul-add y s.width x left) at here

-- the slot of a pixel's owner is below the number of pixels without one
slot_here : (s : StackModel) (p : Point) → IsStack s → IfSome (seat_owner s.bar s.views p) (λ a. a.slot < no_slot)
slot_here s p standing = by_case (seat_owner s.bar s.views p) refl
  where
    seated : (a : SlotView) → seat_owner s.bar s.views p ≡ Some a → a.slot < no_slot
    seated a at =
        let found : find (λ a. covers a.view.rect p) s.views ≡ Some a = grind (arith, at) in
        let seat = All_found (IsSlotView s.most (length s.sizes)) (λ (a : SlotView). covers a.view.rect p) s.views a
        standing.seats found in
        omega (arith, seat.slot, standing.room)

    by_case : (o : Option SlotView) → seat_owner s.bar s.views p ≡ o → IfSome o (λ a. a.slot < no_slot)
    by_case None at = tt
    by_case (Some a) at = seated a at

-- what a number names is the owner of the pixel that has it
pub named_here : (s : StackModel) (map : List ℕ) (x y k : ℕ) (slot : Option ViewRef) → IsStack s → IsMapOf s map
    → x < s.width → y < s.height → slice_index map k ≡ slice_index map (y * s.width + x)
    → ((o : Option SlotView) → slice_index map k ≡ number_of o → IfSome o (λ a. a.slot < no_slot)
    → slot ≡ option_map view_ref o)
    → slot ≡ option_map view_ref (seat_owner s.bar s.views (point x y))
named_here s map x y k slot standing is left above same names =
    names (seat_owner s.bar s.views (point x y)) (same ∙ number_here s map x y is left above)
    (slot_here s (point x y) standing)

-- and it stands
pub stands_here : (s : StackModel) (p : Point) (slot : Option ViewRef)
    → slot ≡ option_map view_ref (seat_owner s.bar s.views p) → IfSome slot (λ v. has_slot v.0 s.views ≡ true)
stands_here s p slot is = rw is (by_case (seat_owner s.bar s.views p) refl)
  where
    seated : (a : SlotView) → seat_owner s.bar s.views p ≡ Some a → has_slot a.slot s.views ≡ true
    seated a at =
        let found : find (λ a. covers a.view.rect p) s.views ≡ Some a = grind (arith, at) in
        any_found (λ (a : SlotView). covers a.view.rect p) (is_slot a.slot) s.views a found (eq-eqb a.slot a.slot refl)

    by_case : (o : Option SlotView) → seat_owner s.bar s.views p ≡ o
        → IfSome (option_map view_ref o) (λ v. has_slot v.0 s.views ≡ true)
    by_case None at = tt
    by_case (Some a) at = seated a at

-- so it is with a run of pixels of one number
pub run_named : (s : StackModel) (map : List ℕ) (x y to end : ℕ) (slot : Option ViewRef) → IsStack s → IsMapOf s map
    → x < to → to ≤ s.width → y < s.height
    → HoldsUpTo (λ k. slice_index map k ≡ slice_index map (y * s.width + x)) (y * s.width + x) (y * s.width + to) end
    → ((o : Option SlotView) → slice_index map (y * s.width + x) ≡ number_of o → IfSome o (λ a. a.slot < no_slot)
    → slot ≡ option_map view_ref o)
    → HoldsUpTo (λ z. slot ≡ option_map view_ref (seat_owner s.bar s.views (point z y))) x to (end - y * s.width)
run_named s map x y to end slot standing is some across down run names = record {
  after = omega (arith, run.after);
  within = omega (arith, run.within);
  all = λ z from less.
      let within = run.within in
      let after = run.after in
      let left : z < s.width = omega arith in
      named_here s map z y (y * s.width + x) slot standing is left down
      (sym (run.all (y * s.width + z) (omega arith) (omega arith))) names;
}
