use Rattle.nit_overlay.proofs.Lemmas.{ap, area_as, option_map, point, scenery, shown}
use Rattle.nit_overlay.proofs.Lemmas.{shown_of_owner, shown_unowned, sym, unowned_word, view_word}
use Rattle.nit_overlay.proofs.Lemmas.{◌∙◌}
use Rattle.nit_overlay.proofs.piece.overlay_owned.Goals as goal

pub returns-in-Some : goal.returns-in-Some
returns-in-Some c =
    let lettered = c.args.lettered.now in
    let s = scenery lettered in
    let view = c.in-Some.owner.view in
    rw c.requires.area.count at
    (area_as (λ x y w. view_word lettered.look.mode s view (point x y) w) (λ x y w. shown s (point x y) w) c.args.area.now
    lettered.look.stack.now.width
    (λ x y w on. sym (shown_of_owner s (point x y) w view (c.requires.owner x y on ∙ ap (option_map (λ o. o.view))
    c.in-Some.is)))
    c.overlay_view.ensures)

pub returns-in-None : goal.returns-in-None
returns-in-None c =
    let lettered = c.args.lettered.now in
    let s = scenery lettered in
    rw c.requires.area.count at
    (area_as (λ x y w. unowned_word s (point x y)) (λ x y w. shown s (point x y) w) c.args.area.now
    lettered.look.stack.now.width
    (λ x y w on. sym (shown_unowned s (point x y) w (c.requires.owner x y on ∙ ap (option_map (λ o. o.view))
    c.in-None.is)))
    c.overlay_unowned.ensures)
