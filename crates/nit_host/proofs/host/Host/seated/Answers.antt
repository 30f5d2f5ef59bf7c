use Rattle.nit_host.proofs.Basics.{false≢true}
use Rattle.nit_host.proofs.Lemmas.{DesktopModel, ap, arith, begun, first_now, first_state}
use Rattle.nit_host.proofs.Lemmas.{drawn_blank, drawn_sheets, lettered, refl, turns_begin}
use Rattle.nit_host.proofs.host.Host.seated.Goals as goal

pub invariant_of-result : goal.invariant_of-result
invariant_of-result c =
    let made = c.in_ok-new.ensures in
    let first = begun c.in_ok-new.field-0 (drawn_sheets c.in_ok-sheets.ensures.room) (ap (λ (d : DesktopModel). d.state) made)
    (ap (λ (d : DesktopModel). d.raw) made) refl refl c.whole.result
    (rw (← c.config.view_is) c.whole.ensures.all)
    (rw (← c.config.view_is) c.whole.ensures.screen) in
    (first.0, first.1, first.2, omega (arith, c.in_ok-shown.ensures), turns_begin c.no_turns.ensures, λ now. absurd (false≢true now))

pub returns : goal.returns
returns c =
    let made = c.in_ok-new.ensures in
    first_now (first_state (lettered c.args.lettering c.args.config.now))
    (lettered c.args.lettering c.args.config.now) c.in_ok-new.field-0 c.in_ok-sheets.sheets.items c.no_turns.result
    c.in_ok-shown.shown.items c.no_turns.ensures c.in_ok-shown.ensures.items (ap (λ (d : DesktopModel). d.state) made)
    (ap (λ (d : DesktopModel). d.left) made) (drawn_blank c.in_ok-sheets.ensures.blank)
