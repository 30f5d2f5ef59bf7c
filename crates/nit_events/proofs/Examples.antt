-- Worked rows of the user's input, computed from the definitions.
use Rattle.std.proofs.Common.{List, Option, Some, [], refl, true, ℕ, ◌∷◌, ◌≡◌, if◌then◌else◌}
use Rattle.nit_events.proofs.Basics.{Delivery, Device, Event, InputState, Motion, Press, Release}
use Rattle.nit_events.proofs.Basics.{first_input, nat_lt, pointer_after, routing}
use Rattle.nit_events.specs.declared.event.Event.TheVariants as event
use Rattle.nit_events.specs.declared.event.Item.TheVariants as item

-- a screen of 8 by 4: session 0 owns the columns 0 to 3, and session 1 those after
abbrev pointed : InputState → Option ℕ
pointed i = if nat_lt i.x 4 then Some 0 else Some 1

-- what each device event delivers
abbrev told : InputState → List Device → List (List Delivery)
told i [] = []
told i (d ∷ ds) =
    let moved = pointer_after 8 4 i d in
    let r = routing true (pointed moved) moved d in
    r.deliveries ∷ told r.state ds

abbrev sends : ℕ → Event → Delivery
sends s e = record { sid = s; item = item.Event e }

-- a drag stays with the session that it began in
drag : told first_input (Motion 1 1 ∷ Press 272 ∷ Motion 5 1 ∷ Release 272 ∷ Motion 6 1 ∷ [])
    ≡ (sends 0 (event.Motion 1 1) ∷ [])
    ∷ (sends 0 event.FocusEnter ∷ sends 0 (event.Press 272) ∷ [])
    ∷ (sends 0 (event.Motion 5 1) ∷ [])
    ∷ (sends 0 (event.Release 272) ∷ [])
    ∷ (sends 0 event.Leave ∷ sends 1 (event.Motion 6 1) ∷ [])
    ∷ []
drag = refl

-- the receiver of a held key was fixed as none
held : told first_input (Press 30 ∷ Motion 1 1 ∷ Press 272 ∷ Release 272 ∷ Release 30 ∷ Press 272 ∷ [])
    ≡ [] ∷ [] ∷ [] ∷ [] ∷ [] ∷ (sends 0 event.FocusEnter ∷ sends 0 (event.Press 272) ∷ []) ∷ []
held = refl

-- a mode key is ignored while something is held
modes : told first_input (Motion 1 1 ∷ Press 30 ∷ Press 70 ∷ Release 30 ∷ Press 70 ∷ Motion 1 1 ∷ [])
    ≡ (sends 0 (event.Motion 1 1) ∷ []) ∷ [] ∷ [] ∷ [] ∷ (sends 0 event.Leave ∷ []) ∷ [] ∷ []
modes = refl

-- a click in kill mode
kill : told first_input (Motion 1 1 ∷ Press 272 ∷ Release 272 ∷ Press 99 ∷ Press 272 ∷ Release 272 ∷ [])
    ≡ (sends 0 (event.Motion 1 1) ∷ [])
    ∷ (sends 0 event.FocusEnter ∷ sends 0 (event.Press 272) ∷ [])
    ∷ (sends 0 (event.Release 272) ∷ [])
    ∷ (sends 0 event.Leave ∷ [])
    ∷ (record { sid = 0; item = item.Kill } ∷ [])
    ∷ []
    ∷ []
kill = refl
