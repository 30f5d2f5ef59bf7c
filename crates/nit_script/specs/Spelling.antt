-- What each line of a script is spelled as, and which lines have a spelling.
use Rattle.std.specs.Prelude.{◌≤◌, ◌<◌, ℕ, zero, suc, ◌+◌, ◌/◌, ◌%◌, ◌^◌, ℤ, pos, negsuc, IsTrue}
use Rattle.std.specs.Prelude.{List, [], ◌∷◌, ◌++◌, codes, nat_lt, if◌then◌else◌}
use Rattle.nit_script.specs.Below.{Call, Check, Device, Fill, InputLine, IsCode, IsWheel, Line}
use Rattle.nit_script.specs.Below.{Stroke, decimal, is_text, most_pointer, signed_decimal}
use Rattle.nit_events.specs.declared.call.Call.TheVariants as call
use Rattle.nit_events.specs.declared.device.Device.TheVariants as device
use Rattle.nit_script.specs.declared.line.Line.TheVariants as line
use Rattle.nit_script.specs.declared.line.InputLine.TheVariants as input

-- ---- fields, each with the space before it

-- a number without leading zeros
abbrev pub nat : ℕ → List ℕ
nat n = 32 ∷ decimal n

-- a number that has a minus where it is below 0
abbrev pub int : ℤ → List ℕ
int z = 32 ∷ signed_decimal z

-- the digit of a number below 16: 0 to 9, and then A to F
abbrev pub hex : ℕ → ℕ
hex d = if nat_lt d 10 then 48 + d else 55 + d

-- the last digits, so many, of a number in base 16
unfoldable pub hex_digits : ℕ → ℕ → List ℕ
hex_digits zero n = []
hex_digits (suc k) n = hex_digits k (n / 16) ++ hex (n % 16) ∷ []

-- six digits in base 16
abbrev pub colour : ℕ → List ℕ
colour c = 32 ∷ hex_digits 6 c

-- an equals sign, and the text directly after it
abbrev pub text : List ℕ → List ℕ
text t = 32 ∷ 61 ∷ t

-- ---- what has a spelling

-- a number of at most nine digits
abbrev pub FitsNat : ℕ → Type 0
FitsNat n = n < 10 ^ 9

-- a number of at most nine digits, with a sign or without
abbrev pub FitsInt : ℤ → Type 0
FitsInt (pos n) = n < 10 ^ 9
FitsInt (negsuc n) = suc n < 10 ^ 9

-- red, green and blue of a byte each
abbrev pub FitsColour : ℕ → Type 0
FitsColour c = c < 2 ^ 24

-- up to 40 printable bytes
abbrev pub FitsText : List ℕ → Type 0
FitsText t = IsTrue (is_text t)

-- a place of the pointer is at most 65535
abbrev pub FitsPointerPlace : ℕ → Type 0
FitsPointerPlace n = n ≤ most_pointer

-- the numbers and the text of a call are within the grammar
abbrev pub FitsCall : Call → Type 0
FitsCall (call.Buffer w h) = FitsNat w × FitsNat h
FitsCall call.View = Unit {0}
FitsCall (call.Place v x y w h) = FitsNat v × FitsInt x × FitsInt y × FitsNat w × FitsNat h
FitsCall (call.Offset v x y) = FitsNat v × FitsInt x × FitsInt y
FitsCall (call.Front v) = FitsNat v
FitsCall (call.Back v) = FitsNat v
FitsCall (call.Above v n) = FitsNat v × FitsNat n
FitsCall (call.Title v t) = FitsNat v × FitsText t
FitsCall (call.Destroy v) = FitsNat v
FitsCall (call.Refresh x y w h) = FitsInt x × FitsInt y × FitsNat w × FitsNat h
FitsCall call.Take = Unit {0}
FitsCall (call.Upgrade n) = FitsNat n
FitsCall call.Close = Unit {0}

-- a code is at most 767, a place at most 65535, and a turn -127 to 127
abbrev pub FitsDevice : Device → Type 0
FitsDevice (device.Press k) = IsCode k
FitsDevice (device.Release k) = IsCode k
FitsDevice (device.Motion x y) = FitsPointerPlace x × FitsPointerPlace y
FitsDevice (device.Wheel n) = IsWheel n

-- the numbers and the colours of a stroke are within the grammar
abbrev pub FitsStroke : Stroke → Type 0
FitsStroke (Fill x y w h c) = FitsNat x × FitsNat y × FitsNat w × FitsNat h × FitsColour c
FitsStroke (Check x y w h c d) =
    FitsNat x × FitsNat y × FitsNat w × FitsNat h × FitsColour c × FitsColour d

-- what a line of a client's script holds is within the grammar
abbrev pub FitsLine : Line → Type 0
FitsLine (line.Call c) = FitsCall c
FitsLine (line.Stroke s) = FitsStroke s
FitsLine line.Phase = Unit {0}

-- what a line of an input script holds is within the grammar
abbrev pub FitsInputLine : InputLine → Type 0
FitsInputLine (input.Device d) = FitsDevice d
FitsInputLine input.Shot = Unit {0}
FitsInputLine input.Phase = Unit {0}

-- ---- lines, without their line feed

-- a call's word, and its numbers in order
abbrev pub call_spelling : Call → List ℕ
call_spelling (call.Buffer w h) = codes "buffer" ++ (nat w ++ nat h)
call_spelling call.View = codes "view"
call_spelling (call.Place v x y w h) =
    codes "place" ++ (nat v ++ (int x ++ (int y ++ (nat w ++ nat h))))
call_spelling (call.Offset v x y) = codes "offset" ++ (nat v ++ (int x ++ int y))
call_spelling (call.Front v) = codes "front" ++ nat v
call_spelling (call.Back v) = codes "back" ++ nat v
call_spelling (call.Above v n) = codes "above" ++ (nat v ++ nat n)
call_spelling (call.Title v t) = codes "title" ++ (nat v ++ text t)
call_spelling (call.Destroy v) = codes "destroy" ++ nat v
call_spelling (call.Refresh x y w h) = codes "refresh" ++ (int x ++ (int y ++ (nat w ++ nat h)))
call_spelling call.Take = codes "take"
call_spelling (call.Upgrade n) = codes "upgrade" ++ nat n
call_spelling call.Close = codes "close"

-- a device's word, and its numbers in order
abbrev pub device_spelling : Device → List ℕ
device_spelling (device.Press k) = codes "press" ++ nat k
device_spelling (device.Release k) = codes "release" ++ nat k
device_spelling (device.Motion x y) = codes "motion" ++ (nat x ++ nat y)
device_spelling (device.Wheel n) = codes "wheel" ++ int n

-- a stroke's word, its numbers and its colours in order
abbrev pub stroke_spelling : Stroke → List ℕ
stroke_spelling (Fill x y w h c) =
    codes "fill" ++ (nat x ++ (nat y ++ (nat w ++ (nat h ++ colour c))))
stroke_spelling (Check x y w h c d) =
    codes "check" ++ (nat x ++ (nat y ++ (nat w ++ (nat h ++ (colour c ++ colour d)))))

-- a line of a client's script
abbrev pub line_spelling : Line → List ℕ
line_spelling (line.Call c) = call_spelling c
line_spelling (line.Stroke s) = stroke_spelling s
line_spelling line.Phase = codes "phase"

-- a line of an input script
abbrev pub input_spelling : InputLine → List ℕ
input_spelling (input.Device d) = device_spelling d
input_spelling input.Shot = codes "shot"
input_spelling input.Phase = codes "phase"
