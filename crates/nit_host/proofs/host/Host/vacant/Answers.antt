use Rattle.nit_host.proofs.Basics.{false≢true}
use Rattle.nit_host.proofs.Lemmas.{DesktopModel, ap, are_glasses, arith, begun, first_now}
use Rattle.nit_host.proofs.Lemmas.{drawn_blank, drawn_sheets, lettered, refl, same_sheets, turns_begin, vacant_state}
use Rattle.nit_host.proofs.host.Host.vacant.Goals as goal

pub vacant-requires-clause-glasses : goal.vacant-requires-clause-glasses
vacant-requires-clause-glasses c = are_glasses c.in_ok-sheets.ensures.room

pub invariant_of-result : goal.invariant_of-result
invariant_of-result c =
    let made = c.in_ok-vacant.ensures.desktop in
    let first = begun c.in_ok-vacant.field-0 (drawn_sheets c.in_ok-sheets.ensures.room)
    (ap (λ (d : DesktopModel). d.state) made) (ap (λ (d : DesktopModel). d.raw) made) refl refl c.whole.result
    (rw (← c.config.view_is) c.whole.ensures.all)
    (rw (← c.config.view_is) c.whole.ensures.screen) in
    rw (same_sheets c.in_ok-vacant.ensures.rest) (first.0, first.1, first.2, omega (arith, c.in_ok-shown.ensures), turns_begin c.no_turns.ensures, λ now. absurd (false≢true now))

pub returns : goal.returns
returns c =
    let made = c.in_ok-vacant.ensures.desktop in
    rw (same_sheets c.in_ok-vacant.ensures.rest)
    (first_now (vacant_state (lettered c.args.lettering c.args.config.now))
    (lettered c.args.lettering c.args.config.now) c.in_ok-vacant.field-0 c.in_ok-sheets.sheets.items c.no_turns.result
    c.in_ok-shown.shown.items c.no_turns.ensures c.in_ok-shown.ensures.items (ap (λ (d : DesktopModel). d.state) made)
    (ap (λ (d : DesktopModel). d.left) made) (drawn_blank c.in_ok-sheets.ensures.blank))
