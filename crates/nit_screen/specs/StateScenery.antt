-- What a state shows.
use Rattle.nit_screen.specs.Below.{Scenery, State, bar_rows, map}

-- what a state shows, but for the words of the clients
abbrev pub scenery_of : State → Scenery
scenery_of s =
    record {
      width = s.config.width;
      height = s.config.height;
      bar = bar_rows s.config;
      stack = s.stack;
      labels = map (λ m. m.label) s.config.clients;
      mode = s.input.mode;
      focus = s.input.focus;
      lettering = s.config.lettering;
    }
