-- The ranges of codes and wheels, and how many events wait.
use Rattle.std.specs.Prelude.{ℕ, ◌≤◌, ℤ, pos, negsuc, ◌≤ℤ◌, ◌≡◌, ◌^◌}
use Rattle.nit_events.specs.Below.{Device, Event}
use Rattle.nit_events.specs.declared.event.Event.TheVariants as event
use Rattle.nit_events.specs.declared.device.Device.TheVariants as device

-- how many events wait for a session at most
abbrev pub most_waiting : ℕ
most_waiting = 64

-- a queue has room for so many events, and so many wait at most
abbrev pub IsQueue : ℕ → ℕ → Type 0
IsQueue room long = (room ≡ most_waiting) × (long ≤ most_waiting)

-- the greatest code of a key or button
abbrev pub most_code : ℕ
most_code = 767

-- the code of a key or button
abbrev pub IsCode : ℕ → Type 0
IsCode k = k ≤ most_code

-- the furthest that a wheel may turn each way, from -127 to 127
abbrev pub least_turn : ℤ
least_turn = negsuc 126

abbrev pub most_turn : ℤ
most_turn = pos 127

-- how far a wheel may turn
abbrev pub IsWheel : ℤ → Type 0
IsWheel n = (least_turn ≤ℤ n) × (n ≤ℤ most_turn)

-- the greatest column and row that a motion may name
abbrev pub most_pointer : ℕ
most_pointer = 65535

-- how many bytes the text of a journal that is read back has at most, and so how many entries
abbrev pub most_read : ℕ
most_read = 2 ^ 27

-- the numbers of an event are in range
abbrev pub IsEvent : Event → Type 0
IsEvent (event.Press k) = IsCode k
IsEvent (event.Release k) = IsCode k
IsEvent (event.Wheel n) = IsWheel n
IsEvent other = Unit {0}

-- the numbers of a device event are in range
abbrev pub IsDevice : Device → Type 0
IsDevice (device.Press k) = IsCode k
IsDevice (device.Release k) = IsCode k
IsDevice (device.Wheel n) = IsWheel n
IsDevice (device.Motion x y) = Unit {0}
