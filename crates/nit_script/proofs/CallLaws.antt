-- Calls are read exactly, and so are the lines of clients' scripts and of input scripts.
use Rattle.std.proofs.Common.{List, Option, Some, arith, negsuc, pos, refl, true, ℕ, ℤ, ◌++◌, ◌∷◌}
use Rattle.std.proofs.Common.{◌≡◌}
use Rattle.nit_script.proofs.Basics.{Above, Back, Buffer, Call, Check, Close, Destroy, Device, Fill}
use Rattle.nit_script.proofs.Basics.{FitsCall, FitsDevice, FitsInputLine, FitsInt, FitsLine}
use Rattle.nit_script.proofs.Basics.{FitsPointerPlace, FitsStroke, Front, HasOneReading, InputLine}
use Rattle.nit_script.proofs.Basics.{IsCode, IsWheel, Line, Motion, Offset, Place, Press, Refresh}
use Rattle.nit_script.proofs.Basics.{Release, Stroke, Take, Title, Upgrade, View, Wheel, at_made}
use Rattle.nit_script.proofs.Basics.{call_spelling, code_field, codes, device_spelling, first_of}
use Rattle.nit_script.proofs.Basics.{input_phase_at, input_spelling, int, ints, is_code}
use Rattle.nit_script.proofs.Basics.{is_pointer_place, is_wheel, le-leb, leb-true, line_spelling}
use Rattle.nit_script.proofs.Basics.{nat, nat_tests, phase_at, pointer_field, shot_at}
use Rattle.nit_script.proofs.Basics.{stroke_spelling, wheel_field}
use Rattle.nit_script.specs.CallReaders.{above_at, back_at, buffer_at, call_at, close_at}
use Rattle.nit_script.specs.CallReaders.{destroy_at, front_at, offset_at, place_call_at, refresh_at}
use Rattle.nit_script.specs.CallReaders.{session_call_at, take_at, title_at, upgrade_at, view_at}
use Rattle.nit_script.specs.CallReaders.{view_call_at}
use Rattle.nit_script.proofs.Exact.{Exact, Takes, both, colour_fields, ended_again, ended_takes}
use Rattle.nit_script.proofs.Exact.{first_takes, int_fields, int_then, made_takes, nat_fields}
use Rattle.nit_script.proofs.Exact.{nat_then, nothing, tested, text_fields, word_made}
use Rattle.nit_script.specs.LineReaders.{check_at, fill_at, line_at, line_front_at, stroke_at}
use Rattle.nit_script.specs.declared.line.Line.TheVariants as line
use Rattle.nit_script.proofs.Scripts.{IsReader, one_reading}
use Rattle.nit_script.specs.InputReaders.{device_at, input_at, input_front_at, motion_at, press_at}
use Rattle.nit_script.specs.InputReaders.{release_at, wheel_at}
use Rattle.nit_script.specs.declared.line.InputLine.TheVariants as input
use Rattle.nit_script.proofs.Digits.{stops}

-- ---- calls

first : (f g : List ℕ → Option (Call × List ℕ)) → Takes f call_spelling FitsCall → Takes g call_spelling FitsCall
    → Takes (λ bytes. first_of (f bytes) (g bytes)) call_spelling FitsCall
first f g p q = first_takes f g call_spelling FitsCall p q

session_call_takes : Takes session_call_at call_spelling FitsCall
unfolding session_call_at buffer_at view_at refresh_at take_at upgrade_at close_at
session_call_takes =
    first buffer_at _ (word_made (nat_then nat_fields) _ _ (codes "buffer") (λ p. Buffer p.0 p.1) (λ p h. (refl, h)))
    (first view_at _ (word_made nothing _ _ (codes "view") (λ _. View) (λ p h. (refl, tt)))
    (first refresh_at _ (word_made (int_then (int_then (nat_then nat_fields))) _ _ (codes "refresh")
    (λ p. Refresh p.0 p.1.0 p.1.1.0 p.1.1.1) (λ p h. assumption))
    (first take_at _ (word_made nothing _ _ (codes "take") (λ _. Take) (λ p h. (refl, tt)))
    (first upgrade_at close_at (word_made nat_fields _ _ (codes "upgrade") Upgrade (λ p h. (refl, h)))
    (word_made nothing _ _ (codes "close") (λ _. Close) (λ p h. (refl, tt)))))))

view_call_takes : Takes view_call_at call_spelling FitsCall
unfolding view_call_at place_call_at offset_at front_at back_at above_at title_at destroy_at
view_call_takes =
    first place_call_at _ (word_made (nat_then (int_then (int_then (nat_then nat_fields)))) _ _ (codes "place")
    (λ p. Place p.0 p.1.0 p.1.1.0 p.1.1.1.0 p.1.1.1.1) (λ p h. assumption))
    (first offset_at _ (word_made (nat_then (int_then int_fields)) _ _ (codes "offset")
    (λ p. Offset p.0 p.1.0 p.1.1) (λ p h. assumption))
    (first front_at _ (word_made nat_fields _ _ (codes "front") Front (λ p h. (refl, h)))
    (first back_at _ (word_made nat_fields _ _ (codes "back") Back (λ p h. (refl, h)))
    (first above_at _ (word_made (nat_then nat_fields) _ _ (codes "above") (λ p. Above p.0 p.1) (λ p h. (refl, h)))
    (first title_at destroy_at
    (word_made (nat_then text_fields) _ _ (codes "title") (λ p. Title p.0 p.1) (λ p h. (refl, h)))
    (word_made nat_fields _ _ (codes "destroy") Destroy (λ p h. (refl, h))))))))

-- what is read as a call is spelled so
pub call_takes : Takes call_at call_spelling FitsCall
unfolding call_at
call_takes = first session_call_at view_call_at session_call_takes view_call_takes

-- what is spelled as a call is read so, up to its line feed
pub call_again : (c : Call) (rest : List ℕ) → FitsCall c → call_at (call_spelling c ++ 10 ∷ rest) ≡ Some (c, 10 ∷ rest)
unfolding call_at session_call_at view_call_at buffer_at view_at refresh_at take_at upgrade_at close_at place_call_at
    offset_at front_at back_at above_at title_at destroy_at
call_again (Buffer w h) rest fits = rw ((nat_then nat_fields).again (w, h) (10 ∷ rest) fits refl)
call_again View rest fits = refl
call_again (Refresh x y w h) rest fits =
    rw ((int_then (int_then (nat_then nat_fields))).again (x, (y, (w, h))) (10 ∷ rest) (assumption) refl)
call_again Take rest fits = refl
call_again (Upgrade n) rest fits = rw (nat_fields.again n (10 ∷ rest) fits refl)
call_again Close rest fits = refl
call_again (Place v x y w h) rest fits =
    let fields = nat_then (int_then (int_then (nat_then nat_fields))) in
    rw (fields.again (v, (x, (y, (w, h)))) (10 ∷ rest) (assumption) refl)
call_again (Offset v x y) rest fits =
    rw ((nat_then (int_then int_fields)).again (v, (x, y)) (10 ∷ rest) (assumption) refl)
call_again (Front v) rest fits = rw (nat_fields.again v (10 ∷ rest) fits refl)
call_again (Back v) rest fits = rw (nat_fields.again v (10 ∷ rest) fits refl)
call_again (Above v n) rest fits = rw ((nat_then nat_fields).again (v, n) (10 ∷ rest) fits refl)
call_again (Title v t) rest fits = rw ((nat_then text_fields).again (v, t) (10 ∷ rest) fits refl)
call_again (Destroy v) rest fits = rw (nat_fields.again v (10 ∷ rest) fits refl)

-- ---- lines of a client's script are read exactly

stroke_takes : Takes stroke_at stroke_spelling FitsStroke
unfolding stroke_at fill_at check_at
stroke_takes = first_takes fill_at check_at _ _
    (word_made (nat_then (nat_then (nat_then (nat_then colour_fields)))) _ _ (codes "fill")
    (λ p. Fill p.0 p.1.0 p.1.1.0 p.1.1.1.0 p.1.1.1.1) (λ p h. assumption))
    (word_made (nat_then (nat_then (nat_then (nat_then (both colour_fields colour_fields (λ _ _ _. refl)))))) _ _
    (codes "check") (λ p. Check p.0 p.1.0 p.1.1.0 p.1.1.1.0 p.1.1.1.1.0 p.1.1.1.1.1) (λ p h. assumption))

stroke_again : (s : Stroke) (rest : List ℕ) → FitsStroke s → stroke_at (stroke_spelling s ++ 10 ∷ rest)
    ≡ Some (s, 10 ∷ rest)
unfolding stroke_at fill_at check_at
stroke_again (Fill x y w h c) rest fits =
    let fields = nat_then (nat_then (nat_then (nat_then colour_fields))) in
    rw (fields.again (x, (y, (w, (h, c)))) (10 ∷ rest) (assumption) refl)
stroke_again (Check x y w h c d) rest fits =
    let fields = nat_then (nat_then (nat_then (nat_then (both colour_fields colour_fields (λ _ _ _. refl))))) in
    rw (fields.again (x, (y, (w, (h, (c, d))))) (10 ∷ rest) (assumption) refl)

front_takes : Takes line_front_at line_spelling FitsLine
unfolding line_front_at
front_takes =
    first_takes (at_made line.Call call_at) _ _ _
    (made_takes call_at call_spelling FitsCall line.Call _ _ call_takes (λ c. refl) (λ c h. h))
    (first_takes (at_made line.Stroke stroke_at) phase_at _ _
    (made_takes stroke_at stroke_spelling FitsStroke line.Stroke _ _ stroke_takes (λ s. refl) (λ s h. h))
    (word_made nothing _ _ (codes "phase") (λ _. line.Phase) (λ p h. (refl, tt))))

front_again : (l : Line) (rest : List ℕ) → FitsLine l → line_front_at (line_spelling l ++ 10 ∷ rest)
    ≡ Some (l, 10 ∷ rest)
unfolding line_front_at call_at session_call_at view_call_at buffer_at view_at refresh_at take_at upgrade_at close_at
    place_call_at offset_at front_at back_at above_at title_at destroy_at stroke_at fill_at check_at
front_again (line.Call c) rest fits = rw (call_again c rest fits)
front_again (line.Stroke (Fill x y w h c)) rest fits = rw (stroke_again (Fill x y w h c) rest fits)
front_again (line.Stroke (Check x y w h c d)) rest fits = rw (stroke_again (Check x y w h c d) rest fits)
front_again line.Phase rest fits = refl

-- a line of a client's script is read exactly
pub client_reader : IsReader FitsLine line_spelling line_at
unfolding line_at
client_reader = record {
  takes = ended_takes line_front_at line_spelling FitsLine front_takes;
  again = λ l rest fits. ended_again line_front_at line_spelling l rest (front_again l rest fits);
}

-- bytes begin with one line of a client's script at most
pub client_reading : HasOneReading FitsLine line_spelling
client_reading = one_reading client_reader

-- ---- lines of an input script are read exactly

-- ---- numbers within their bounds

codes_in_range : Exact code_field nat IsCode stops
codes_in_range = tested nat_fields is_code IsCode (λ k h. leb-true _ _ h) (λ k h. (omega arith, le-leb _ _ h))

places_in_range : Exact pointer_field nat FitsPointerPlace stops
places_in_range = tested nat_fields is_pointer_place FitsPointerPlace (λ k h. leb-true _ _ h)
    (λ k h. (omega arith, le-leb _ _ h))

turn_is : (z : ℤ) → is_wheel z ≡ true → IsWheel z
turn_is (pos n) h = (grind (arith, nat_tests), grind (arith, nat_tests))
turn_is (negsuc n) h = (grind (arith, nat_tests), grind (arith, nat_tests))

is_a_turn : (z : ℤ) → IsWheel z → FitsInt z × (is_wheel z ≡ true)
is_a_turn (pos n) h = (omega (arith, ints, h.1), grind (arith, nat_tests))
is_a_turn (negsuc n) h = (omega (arith, ints, h.0), grind (arith, nat_tests))

turns_in_range : Exact wheel_field int IsWheel stops
turns_in_range = tested int_fields is_wheel IsWheel turn_is is_a_turn

-- ---- devices

-- what is read as a device event is spelled so
pub device_takes : Takes device_at device_spelling FitsDevice
unfolding device_at press_at release_at motion_at wheel_at
device_takes =
    first_takes press_at _ _ _ (word_made codes_in_range _ _ (codes "press") Press (λ k h. (refl, h)))
    (first_takes release_at _ _ _ (word_made codes_in_range _ _ (codes "release") Release (λ k h. (refl, h)))
    (first_takes motion_at wheel_at _ _
    (word_made (both places_in_range places_in_range (λ _ _ _. refl)) _ _ (codes "motion") _ (λ p h. (refl, h)))
    (word_made turns_in_range _ _ (codes "wheel") Wheel (λ z h. (refl, h)))))

-- what is spelled as a device event is read so, where no digit stands after it
pub device_again : (d : Device) (rest : List ℕ) → FitsDevice d → stops rest ≡ true
    → device_at (device_spelling d ++ rest) ≡ Some (d, rest)
unfolding device_at press_at release_at motion_at wheel_at
device_again (Press k) rest fits ok = rw (codes_in_range.again k rest fits ok)
device_again (Release k) rest fits ok = rw (codes_in_range.again k rest fits ok)
device_again (Motion x y) rest fits ok =
    rw ((both places_in_range places_in_range (λ _ _ _. refl)).again (x, y) rest fits ok)
device_again (Wheel z) rest fits ok = rw (turns_in_range.again z rest fits ok)

-- ---- lines

input_takes : Takes input_front_at input_spelling FitsInputLine
unfolding input_front_at
input_takes =
    first_takes (at_made input.Device device_at) _ _ _
    (made_takes device_at device_spelling FitsDevice input.Device _ _ device_takes (λ d. refl) (λ d h. h))
    (first_takes shot_at input_phase_at _ _ (word_made nothing _ _ (codes "shot") (λ _. input.Shot) (λ p h. (refl, tt)))
    (word_made nothing _ _ (codes "phase") (λ _. input.Phase) (λ p h. (refl, tt))))

input_again : (l : InputLine) (rest : List ℕ) → FitsInputLine l → input_front_at (input_spelling l ++ 10 ∷ rest)
    ≡ Some (l, 10 ∷ rest)
unfolding input_front_at device_at press_at release_at motion_at wheel_at
input_again (input.Device d) rest fits = rw (device_again d (10 ∷ rest) fits refl)
input_again input.Shot rest fits = refl
input_again input.Phase rest fits = refl

-- a line of an input script is read exactly
pub input_reader : IsReader FitsInputLine input_spelling input_at
unfolding input_at
input_reader = record {
  takes = ended_takes input_front_at input_spelling FitsInputLine input_takes;
  again = λ l rest fits. ended_again input_front_at input_spelling l rest (input_again l rest fits);
}

-- bytes begin with one line of an input script at most
pub input_reading : HasOneReading FitsInputLine input_spelling
input_reading = one_reading input_reader
