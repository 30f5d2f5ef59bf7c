-- A server before its first entry.
use Rattle.nit_server.specs.Below.{Configuration, List, Member, StackModel, [], bar_rows}
use Rattle.nit_server.specs.Below.{first_session, length, map, no_size, replicate, sum, view_slots}
use Rattle.nit_server.specs.Below.{ℕ}
use Rattle.nit_server.specs.KeptSession.{KeptSessionModel}

-- a client's session as it opens: it has no view yet
abbrev pub first_kept_session : Member → KeptSessionModel
first_kept_session client =
    record {
      session = first_session client.donation;
      pairs = [];
      most =
          view_slots client.donation;
    }

-- the slots that all clients together may ever need
abbrev pub slots_of_all : List Member → ℕ
slots_of_all clients = sum (map (λ m. view_slots m.donation) clients)

-- a stack of no view on the configuration's screen, with a layer for each client
abbrev pub first_stack : Configuration → StackModel
first_stack config =
    record {
      views = [];
      sizes = replicate (length config.clients) no_size;
      layers = map (λ m. m.layer) config.clients;
      width = config.width;
      height = config.height;
      bar = bar_rows config;
      most = slots_of_all config.clients;
    }
