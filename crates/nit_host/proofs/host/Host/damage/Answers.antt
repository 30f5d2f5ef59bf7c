use Rattle.nit_host.proofs.Lemmas.{All-nil, IsAreaOf, arith, has_any, seen_now, sheets_of}
use Rattle.nit_host.proofs.host.Host.damage.Goals as goal

pub invariant_of-self : goal.invariant_of-self
invariant_of-self c =
    let d = c.self.inside.desktop in (
      c.self.invariant.0,
      rw (c.of.ensures, c.of-2.ensures) (seen_now d.state (sheets_of c.self.inside.sheets.items)
          (has_any c.replace-parts.new.dest)),
      rw (c.replace-parts.ensures.after, c.none.ensures) (All-nil (IsAreaOf d.state.config.width d.state.config.height)),
      omega (arith, c.remember.ensures.room, c.self.invariant.3),
      c.self.invariant.4,
      λ _. c.remember.ensures.views,
    )

pub returns-clause-changed : goal.returns-clause-changed
returns-clause-changed c = rw (c.replace-parts.ensures.value, ← c.self.view_is) c.self.invariant.1
