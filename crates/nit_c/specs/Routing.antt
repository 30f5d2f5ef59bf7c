-- What the user does, and whom it goes to, as C reads it.
use Rattle.std.specs.Prelude.{◌≡◌, ℕ, ℤ, ◌+◌, ◌-◌, ◌^◌, pos, negsuc, nat_le, int_le, ◌&&◌, Option}
use Rattle.std.specs.Prelude.{Some, None, Result, Ok, Err, if◌then◌else◌}
use Rattle.nit_c.specs.Below.{Delivery, Device, HostModel, NitDelivery, NitEvent, NitRouted, Routed}
use Rattle.nit_c.specs.Below.{Unserved, most_code, routed_of, told, unserved_input}
use Rattle.nit_events.specs.declared.event.Item.{Item}
use Rattle.nit_events.specs.declared.device.Device.TheVariants as device
use Rattle.nit_events.specs.declared.event.Item.TheVariants as item
use Rattle.nit_c.specs.Numbers.{unserved_number}
use Rattle.nit_c.specs.Replies.{c_event, no_event}
use Rattle.nit_c.specs.declared.handle.NitServer.{NitServer}
use Rattle.nit_c.specs.Steps.{Steps, Unless}

-- what becomes of a client: an event, or that it is locked out
abbrev pub c_item : Item → NitEvent
c_item (item.Event e) = c_event e
c_item item.Kill = record no_event { kind = 8 }

abbrev pub c_delivery : Option Delivery → NitDelivery
c_delivery (Some d) = record { seat = d.sid; event = c_item d.item }
c_delivery None = record { seat = 0; event = no_event }

abbrev pub one_of : Option Delivery → ℕ
one_of (Some d) = 1
one_of None = 0

-- an answer that is its kind alone
abbrev pub only_routed : ℕ → NitRouted
only_routed kind =
    record { kind = kind; count = 0; a = c_delivery None; b = c_delivery None; c = c_delivery None }

-- the deliveries of an event
abbrev pub c_routed : Routed → NitRouted
c_routed r = record {
  kind = 1;
  count = one_of r.a + one_of r.b + one_of r.c;
  a = c_delivery r.a;
  b = c_delivery r.b;
  c = c_delivery r.c;
}

-- what a host answers, as C reads it
abbrev pub c_told : Result Routed Unserved → NitRouted
c_told (Ok r) = c_routed r
c_told (Err why) = only_routed (unserved_number why)

-- ---- device events by the numbers that C hands in, where these are in range

abbrev pub pressed : ℕ → Option Device
pressed code = if nat_le code most_code then Some (device.Press code) else None

abbrev pub released : ℕ → Option Device
released code = if nat_le code most_code then Some (device.Release code) else None

abbrev pub moved_to : ℕ → ℕ → Option Device
moved_to x y =
    if nat_le x (2 ^ 16 - 1) && nat_le y (2 ^ 16 - 1) then Some (device.Motion x y) else None

abbrev pub turned : ℤ → Option Device
turned n = if int_le (negsuc 126) n && int_le n (pos 127) then Some (device.Wheel n) else None

-- what the user does, where it is an event
abbrev pub IsTold : Option Device → HostModel → HostModel → NitRouted → Type 0
IsTold None old new answer = (new ≡ old) × (answer ≡ only_routed 37)
IsTold (Some dev) old new answer =
    Unless (unserved_input old dev) ((new ≡ told dev old) × (answer ≡ c_routed (routed_of old dev)))
    (λ why. (new ≡ old) × (answer ≡ only_routed (unserved_number why)))

-- what a call of the user's input does by a handle
abbrev pub IsInput : NitServer → NitServer → Option Device → NitRouted → Type 0
IsInput old new dev answer = Steps old new (answer ≡ only_routed 0) (λ h g. IsTold dev h g answer)
