-- What is left of a server when views go.
use Rattle.nit_server.specs.Below.{Destroy, Status, [], accepted, ended, forget, is_named}
use Rattle.nit_server.specs.Below.{is_of_session, no_size, session_in, slice_set, without, ℕ}
use Rattle.nit_server.specs.Server.{ServerModel}

-- the server without the view of this session and handle
abbrev pub without_view : ℕ → ℕ → ServerModel → ServerModel
without_view sid handle s =
    record s {
      sessions =
          slice_set s.sessions sid (accepted (session_in s.sessions sid) (Destroy handle)).session;
      stack = record s.stack { views = without (is_named sid handle) s.stack.views };
    }

-- the server without any view of this session
abbrev pub without_views : ℕ → ServerModel → ServerModel
without_views sid s =
    record s {
      sessions = slice_set s.sessions sid (record (session_in s.sessions sid) { handles = [] });
      stack = record s.stack { views = without (is_of_session sid) s.stack.views };
    }

-- the server when this session is over: it has no view, no buffer and no event, and the input
-- forgets it
abbrev pub with_ended : ℕ → Status → ServerModel → ServerModel
with_ended sid how s =
    record s {
      sessions = slice_set s.sessions sid (ended how (session_in s.sessions sid));
      stack =
          record s.stack {
            views = without
                (is_of_session sid) s.stack.views;
            sizes = slice_set s.stack.sizes sid no_size;
          };
      input = forget s.input sid;
    }
