-- A session that opens again, under another label.
use Rattle.nit_server.specs.Below.{List, donation_of, first_session, relabelled, slice_set, ℕ}
use Rattle.nit_events.specs.declared.event.Status.TheVariants as status
use Rattle.nit_server.specs.Server.{ServerModel}
use Rattle.nit_server.specs.ViewsTaken.{with_ended}

-- the session is the first one of its donation again, under this label
abbrev pub with_opened : ℕ → List ℕ → ServerModel → ServerModel
with_opened sid label s =
    record s {
      config = relabelled sid label s.config;
      sessions = slice_set s.sessions sid (first_session (donation_of s.config sid));
    }

-- a server on which a session has ended and one of this label has opened in its seat
abbrev pub with_reopened : ℕ → List ℕ → ServerModel → ServerModel
with_reopened sid label s = with_opened sid label (with_ended sid status.Killed s)
