use Rattle.std.proofs.Common.{length, ◌<◌, ◌≡◌}
use Rattle.nit_server.proofs.Lemmas.{session_in, without_views}
use Rattle.nit_server.proofs.server.Server.clear_views.Given as goal

-- what the views that are left will leave is what all would have left
abbrev pub invariant-views : goal.invariant-views
invariant-views l = record {
  there : l.sid < length l.self.sessions;
  left : without_views l.sid l.self ≡ without_views l.sid l.initial.self;
}

-- how many views of the session are left
abbrev pub decreases-views : goal.decreases-views
decreases-views l = length (session_in l.self.sessions l.sid).handles
