use Rattle.std.proofs.Common.{get_or-set_same, length, ℕ, ◌<◌, ◌∙◌, ◌≡◌}
use Rattle.nit_server.proofs.Lemmas.{ServerModel, attends_less, ended, has_member, kept_session_at}
use Rattle.nit_server.proofs.Lemmas.{length-set, none_of, own_machine, own_member, session_ends}
use Rattle.nit_server.proofs.Lemmas.{session_over, without_views}
use Rattle.nit_server.proofs.server.Server.end_session.Goals as goal

still_there : (sid : ℕ) (s : ServerModel) {t : ServerModel} → t ≡ without_views sid s → sid < length s.sessions
    → sid < length t.sessions
still_there sid s e lt = rw (e, length-set) lt

pub end-requires : goal.end-requires
end-requires c =
    let lt = still_there c.args.sid c.args.self.now c.clear_views.ensures c.requires in
    let machine = own_machine c.self.invariant.0 c.self.view_is lt c.index_mut-member.ensures.value in
    none_of c.index_mut-member.result.now.pairs
    (rw (← c.facts.ensures.handles, machine, c.clear_views.ensures, get_or-set_same, c.requires))

there : (c : goal.After-forget) → c.args.sid < length c.self.inside.members.items
there c =
    has_member c.self.invariant.0 c.self.view_is (still_there c.args.sid c.args.self.now c.clear_views.ensures
    c.requires)

over : (c : goal.After-forget)
    → c.end.new.self ≡ record (kept_session_at c.self.inside.members.items c.args.sid) {
      session = ended c.args.how (kept_session_at c.self.inside.members.items c.args.sid).session;
    }
over c =
    let lt = still_there c.args.sid c.args.self.now c.clear_views.ensures c.requires in
    rw (own_member c.self.invariant.0 c.self.view_is lt c.index_mut-member.ensures.value) at c.end.ensures

pub invariant_of-self : goal.invariant_of-self
invariant_of-self c = (
  rw c.set_buffer.ensures (session_ends c.self.invariant.0 (there c) (over c) c.facts-2.ensures.paid),
  attends_less c.args.sid c.self.invariant.1 c.forget.ensures.state,
)

pub returns : goal.returns
returns c = rw (c.set_buffer.ensures, c.forget.ensures.state) (session_over c.self.invariant.0 (there c) (over c)
    c.self.inside.focus.input c.args.self.now (c.self.view_is ∙ c.clear_views.ensures) c.requires)
