-- What a step of the input comes to.
use Rattle.nit_focus.specs.Below.{Delivery, InputState, List, Routing}

-- this state is left, and this is delivered
abbrev pub outcome : InputState → List Delivery → Routing
outcome i deliveries = record { state = i; deliveries = deliveries }
