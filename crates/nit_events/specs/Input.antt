-- The state of the user's input, and what one device event does to it.
use Rattle.std.specs.Prelude.{ℕ, ◌-◌, min, Bool, true, false, ◌&&◌, not, nat_le, ◌==◌, List, []}
use Rattle.std.specs.Prelude.{◌∷◌, ◌++◌, filter, Option, Some, None, if◌then◌else◌}
use Rattle.nit_events.specs.Below.{Delivery, Device, Event, Flat, Kill, Mode, Routed, Xray}
use Rattle.nit_events.specs.Below.{list_any}
use Rattle.nit_events.specs.declared.event.Event.TheVariants as event
use Rattle.nit_events.specs.declared.event.Item.TheVariants as item
use Rattle.nit_events.specs.declared.device.Device.TheVariants as device

-- the mode; the pointer's column and row; the codes that are held down; the session that gets what
-- is held, the one under the pointer, and the one that has the focus
pub record InputState : Type 0 where
  pub mode : Mode
  pub x : ℕ
  pub y : ℕ
  pub held : List ℕ
  pub receiver : Option ℕ
  pub hover : Option ℕ
  pub focus : Option ℕ

-- before the user has done anything
abbrev pub first_input : InputState
first_input =
    record { mode = Flat; x = 0; y = 0; held = []; receiver = None; hover = None; focus = None }

-- what a device event leaves, and what it delivers, in order
pub record Routing : Type 0 where
  pub state : InputState
  pub deliveries : List Delivery

-- whether two answers name one session, or both name none
abbrev pub is_same : Option ℕ → Option ℕ → Bool
is_same None None = true
is_same (Some s) (Some t) = s == t
is_same s t = false

-- none where it is this session
abbrev pub unless_it_is : ℕ → Option ℕ → Option ℕ
unless_it_is s t = if is_same (Some s) t then None else t

-- a session that is killed or closed is forgotten
abbrev pub forget : InputState → ℕ → InputState
forget i s =
    record i {
      receiver = unless_it_is s i.receiver;
      hover = unless_it_is s i.hover;
      focus = unless_it_is s i.focus;
    }

-- the first and the last code of a button
abbrev pub first_button : ℕ
first_button = 272

abbrev pub last_button : ℕ
last_button = 279

-- a button's code; any other code but a mode key's is a key's
abbrev pub is_button : ℕ → Bool
is_button k = nat_le first_button k && nat_le k last_button

-- the keys that switch the mode, and the button that kills
abbrev pub xray_key : ℕ
xray_key = 70

abbrev pub kill_key : ℕ
kill_key = 99

abbrev pub kill_button : ℕ
kill_button = first_button

-- an event to a session; nothing where there is none
abbrev pub to : Option ℕ → Event → List Delivery
to None e = []
to (Some s) e = record { sid = s; item = item.Event e } ∷ []

-- nothing happens
abbrev pub ignored : InputState → Routing
ignored i = record { state = i; deliveries = [] }

-- where the pointer is after a device event, on a screen of this size
abbrev pub pointer_after : ℕ → ℕ → InputState → Device → InputState
pointer_after width height i (device.Motion x y) =
    record i { x = min x (width - 1); y = min y (height - 1) }
pointer_after width height i other = i

-- While nothing is held, a motion or a turn of the wheel goes to the pointed session in mode Flat,
-- and to none in the other modes.
abbrev pub hovering : Mode → Option ℕ → InputState → Event → Routing
hovering Flat pointed i e =
    record {
      state = record i { hover = pointed };
      deliveries = (if is_same i.hover pointed then [] else to i.hover event.Leave) ++ to pointed e;
    }
hovering other pointed i e = ignored i

-- A motion or a turn of the wheel goes to the receiver while something is held.
abbrev pub moving : List ℕ → Option ℕ → InputState → Event → Routing
moving [] pointed i e = hovering i.mode pointed i e
moving (k ∷ ks) pointed i e = record { state = i; deliveries = to i.receiver e }

-- the mode that a mode key makes of a mode
abbrev pub xray_mode : Mode → Mode
xray_mode Xray = Flat
xray_mode other = Xray

abbrev pub kill_mode : Mode → Mode
kill_mode Kill = Flat
kill_mode other = Kill

-- The mode becomes another. Where it was Flat, the hovered session is left.
abbrev pub leaving : Mode → InputState → Mode → Routing
leaving Flat i new =
    record { state = record i { mode = new; hover = None }; deliveries = to i.hover event.Leave }
leaving other i new = record { state = record i { mode = new }; deliveries = [] }

-- A mode key is ignored while something is held.
abbrev pub switching : List ℕ → InputState → Mode → Routing
switching [] i new = leaving i.mode i new
switching (k ∷ ks) i new = ignored i

-- A click moves the focus to the pointed session, or to none where it points at none. A session
-- that takes no focus by clicks leaves it where it is.
abbrev pub takes_focus : Bool → Option ℕ → Bool
takes_focus clicks None = true
takes_focus clicks (Some s) = clicks

-- the focus after a click, and what is told of it
abbrev pub focusing : Bool → Option ℕ → InputState → Routing
focusing clicks pointed i =
    if takes_focus clicks pointed && not (is_same pointed i.focus)
    then record {
      state = record i { focus = pointed };
      deliveries = to i.focus event.FocusLeave ++ to pointed event.FocusEnter;
    }
    else ignored i

-- then this session receives what is pressed
abbrev pub received : Option ℕ → Event → Routing → Routing
received s e r =
    record { state = record r.state { receiver = s }; deliveries = r.deliveries ++ to s e }

-- and then nobody does
abbrev pub unreceived : Routing → Routing
unreceived r = record r { state = record r.state { receiver = None } }

-- the pointed session is killed, and forgotten
abbrev pub killing : Option ℕ → InputState → Routing
killing None i = ignored (record i { mode = Flat })
killing (Some s) i =
    record {
      state = forget (record i { mode = Flat }) s;
      deliveries = record { sid = s; item = item.Kill } ∷ [];
    }

-- the first code to go down, by the mode
abbrev pub first_press : Mode → Bool → Option ℕ → InputState → ℕ → Routing
first_press Flat clicks pointed i k =
    if is_button k
    then received pointed (event.Press k) (focusing clicks pointed i)
    else received i.focus (event.Press k) (ignored i)
first_press Xray clicks pointed i k =
    unreceived (if is_button k then focusing clicks pointed i else ignored i)
first_press Kill clicks pointed i k =
    unreceived (if k == kill_button then killing pointed i else ignored i)

-- a code is held as well
abbrev pub with_held : InputState → ℕ → InputState
with_held i k = record i { held = i.held ++ k ∷ [] }

-- a code that is no mode key goes down: it is held, and the receiver of a first press is chosen by
-- the mode
abbrev pub pressing : List ℕ → Bool → Option ℕ → InputState → ℕ → Routing
pressing [] clicks pointed i k = first_press i.mode clicks pointed (with_held i k) k
pressing (j ∷ js) clicks pointed i k =
    record { state = with_held i k; deliveries = to i.receiver (event.Press k) }

-- the code is held down
abbrev pub is_held : InputState → ℕ → Bool
is_held i k = list_any (λ j. j == k) i.held

abbrev pub press : Bool → Option ℕ → InputState → ℕ → Routing
press clicks pointed i k =
    if k == xray_key then switching i.held i (xray_mode i.mode)
    else if k == kill_key then switching i.held i (kill_mode i.mode)
    else if is_held i k then ignored i
    else pressing i.held clicks pointed i k

-- where nothing is held any more there is no receiver
abbrev pub letting_go : List ℕ → InputState → InputState
letting_go [] i = record i { held = []; receiver = None }
letting_go (k ∷ ks) i = record i { held = k ∷ ks }

-- a code that is held goes up
abbrev pub release : InputState → ℕ → Routing
release i k =
    if is_held i k
    then record {
      state = letting_go (filter (λ j. not (j == k)) i.held) i;
      deliveries = to i.receiver (event.Release k);
    }
    else ignored i

-- One device event: the pointer has moved already, `pointed` is the session under it, and `clicks`
-- tells whether a click on that session moves the focus.
abbrev pub routing : Bool → Option ℕ → InputState → Device → Routing
routing clicks pointed i (device.Motion x y) = moving i.held pointed i (event.Motion i.x i.y)
routing clicks pointed i (device.Wheel n) = moving i.held pointed i (event.Wheel n)
routing clicks pointed i (device.Press k) = press clicks pointed i k
routing clicks pointed i (device.Release k) = release i k

-- up to three deliveries as an entry keeps them
abbrev pub routed_as : List Delivery → Routed
routed_as [] = record { a = None; b = None; c = None }
routed_as (d ∷ []) = record { a = Some d; b = None; c = None }
routed_as (d ∷ e ∷ []) = record { a = Some d; b = Some e; c = None }
routed_as (d ∷ e ∷ f ∷ more) = record { a = Some d; b = Some e; c = Some f }

-- the deliveries of an entry, in order
abbrev pub delivery : Option Delivery → List Delivery
delivery None = []
delivery (Some d) = d ∷ []

abbrev pub deliveries_of : Routed → List Delivery
deliveries_of r = delivery r.a ++ delivery r.b ++ delivery r.c
