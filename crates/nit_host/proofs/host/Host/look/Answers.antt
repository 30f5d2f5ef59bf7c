use Rattle.std.proofs.Common.{ap, subst, sym, ℕ, ◌∙◌, ◌≡◌}
use Rattle.nit_host.proofs.Lemmas.{AgreeOutside, agree_outside, area_lies, frame_by, frame_shown, sheets_of}
use Rattle.nit_host.proofs.host.Host.look.Goals as goal

pub returns-clause-frame : goal.returns-clause-frame
returns-clause-frame c = λ as_seen.
    let d = c.self.inside.desktop in
    let on = c.around.ensures.area d.state.config.width d.state.config.height c.self.invariant.2 in
    let framed : c.frame.result.now ≡ frame_by d.state (sheets_of c.self.inside.sheets.items) =
    c.frame.ensures.shown.frame ∙ ap frame_shown (sym c.self.view_is) in
    let agree = agree_outside d.state (sheets_of c.self.inside.sheets.items) c.self.inside.changed c.around.result _
    c.args.out.now on c.around.ensures.all c.self.invariant.1 (rw (← c.self.view_is) at as_seen)
    (rw (← c.self.view_is) at c.requires) in
    c.look-found.ensures.frame
    (subst (λ (size : ℕ × ℕ). AgreeOutside size.0 c.args.out.now c.frame.result.now c.rect-part.result)
    (sym c.size-width.ensures) (rw (framed, c.rect-part.ensures) agree))
    ∙ c.frame.ensures.shown.frame

pub returns-clause-labels : goal.returns-clause-labels
returns-clause-labels c = λ as_seen.
    let shown = c.frame.ensures.shown in
    rw (returns-clause-frame c as_seen, ← shown.frame) shown.labels

pub look-found-requires-clause-part : goal.look-found-requires-clause-part
look-found-requires-clause-part c =
    let d = c.self.inside.desktop in
    let on = c.around.ensures.area d.state.config.width d.state.config.height c.self.invariant.2 in
    rw (c.size-width.ensures, c.rect-part.ensures)
    (area_lies d.state.config.width d.state.config.height c.around.result on)
