use Rattle.std.proofs.Common.{ap, subst, sym, true, ℕ, ◌<◌, ◌≡◌, ◌∙◌}
use Rattle.nit_host.proofs.Lemmas.{All, HostModel, IsAreaOf, has_any, seen_none, sheets_of}
use Rattle.nit_host.proofs.host.Host.forget.Goals as goal

pub invariant_of-self : goal.invariant_of-self
invariant_of-self c =
    let d = c.self.inside.desktop in
    let a = c.whole-self-inside.result in
    let size : c.size-width.result ≡ (d.state.config.width, d.state.config.height) = c.size-width.ensures
    ∙ ap (λ (h : HostModel). (h.state.config.width, h.state.config.height)) (sym c.self.view_is) in
    let all = subst (λ (z : ℕ × ℕ). (x y : ℕ) → x < z.0 → y < z.1 → has_any a x y ≡ true) size
    c.whole-self-inside.ensures.all in
    let area = subst (λ (z : ℕ × ℕ). All (IsAreaOf z.0 z.1) a) size
    c.whole-self-inside.ensures.screen in
    (c.self.invariant.0, seen_none d.state (sheets_of c.self.inside.sheets.items) (has_any a) all, area, c.self.invariant.3, c.self.invariant.4, c.self.invariant.5)
