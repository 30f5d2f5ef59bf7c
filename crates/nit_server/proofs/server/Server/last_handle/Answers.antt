use Rattle.std.proofs.Common.{IsNone, None, Option, Some, [], false, refl, ℕ, ◌≡◌}
use Rattle.nit_server.proofs.Lemmas.{IfNone, has_as_held, is_of_session, list_any, no_view_left}
use Rattle.nit_server.proofs.Lemmas.{own_machine, own_member}
use Rattle.nit_server.proofs.server.Server.last_handle.Goals as goal

pub returns-clause-held : goal.returns-clause-held
returns-clause-held c =
    let machine = own_machine c.self.invariant.0 c.self.view_is c.requires c.index-member.ensures in
    rw (← machine, c.facts.ensures.handles) (simp has_as_held c.last.ensures.held)

pub returns-clause-no_view : goal.returns-clause-no_view
returns-clause-no_view c = by_last c.last.result c.last.ensures.none.0
  where
    by_last : (o : Option ℕ) → (IsNone o → c.index-member.result.now.pairs ≡ [])
        → IfNone o (list_any (is_of_session c.args.sid) c.args.self.now.stack.views ≡ false)
    by_last (Some h) none = tt
    by_last None none =
        let own = own_member c.self.invariant.0 c.self.view_is c.requires c.index-member.ensures in
        rw (← c.self.view_is) (no_view_left c.self.invariant.0 c.args.sid (rw own at (none refl)))
